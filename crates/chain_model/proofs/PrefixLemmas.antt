-- More cells give longer lists: what a chain gives for a first part of its
-- input is a first part of what it gives for the whole.
use Rattle.std.proofs.Common.{ℕ, List, [], ◌∷◌, ◌++◌, take, drop, refl, ap, sym, ◌∙◌, append_assoc}
use Rattle.std.proofs.lemmas.List.{take-append-drop}
use Rattle.ts_packet.specs.declared.cell.Cell.{Cell}
use Rattle.chain_model.specs.Prefix.{IsPrefix}
use Rattle.chain_model.specs.PluginRule.{PluginRule}
use Rattle.chain_model.specs.Apply.{StageList, CellOutcome, goes_on, ends_after, ends_before, became, onto, apply_after, apply}

pub IsPrefix-trans : {X : Type 0} (xs ys zs : List X) → IsPrefix xs ys → IsPrefix ys zs → IsPrefix xs zs
IsPrefix-trans xs ys zs p q = (p.0 ++ q.0, q.1 ∙ ap (λ l. l ++ q.0) p.1 ∙ append_assoc xs p.0 q.0)

pub IsPrefix-take : {X : Type 0} (m : ℕ) (xs : List X) → IsPrefix (take m xs) xs
IsPrefix-take m xs = (drop m xs, sym (take-append-drop m xs))

onto-prefix : (action : CellOutcome) (a b : StageList) → IsPrefix a.cells b.cells → IsPrefix (onto action a).cells (onto action b).cells
onto-prefix (goes_on cell) a b p = (p.0, ap (λ cells. cell ∷ cells) p.1)
onto-prefix (ends_after cell) a b p = ([], refl)
onto-prefix (ends_before how) a b p = ([], refl)

apply_after-append : (rule : PluginRule) (history xs ys : List Cell) → IsPrefix (apply_after rule history xs).cells (apply_after rule history (xs ++ ys)).cells
apply_after-append rule history [] ys = ((apply_after rule history ys).cells, refl)
apply_after-append rule history (x ∷ xs) ys =
    onto-prefix (became rule history x) (apply_after rule (history ++ x ∷ []) xs)
    (apply_after rule (history ++ x ∷ []) (xs ++ ys)) (apply_after-append rule (history ++ x ∷ []) xs ys)

pub IsPrefix-apply : (rule : PluginRule) (xs ys : List Cell) → IsPrefix xs ys → IsPrefix (apply rule xs).cells (apply rule ys).cells
IsPrefix-apply rule xs ys p =
    rw p.1 (apply_after-append rule [] xs p.0)
