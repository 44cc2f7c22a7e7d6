-- What a plugin makes of two lists of cells, one after the other, and cell by cell.
use Rattle.std.proofs.Common.{◌≡◌, ℕ, ◌+◌, ◌<◌, List, [], ◌∷◌, ◌++◌, length, take, get_or, set, refl, ap, sym, ◌∙◌, arith, append_assoc, append-nil, None}
use Rattle.std.proofs.lemmas.List.{take_more, take_more_set, take-set}
use Rattle.ts_packet.specs.declared.cell.Cell.{Cell}
use Rattle.plugin_trait.specs.declared.list_end.ListEnd.TheVariants.{Through}
use Rattle.plugin_trait.specs.declared.list_end.ListEnd.TheVariants as window
use Rattle.chain_model.specs.PluginRule.{PluginRule}
use Rattle.chain_model.specs.Apply.{StageList, CellOutcome, goes_on, ends_after, ends_before, became, onto, apply_after}
use Rattle.plugin_trait.proofs.Going.{behind}
use Rattle.plugin_trait.specs.Driving.{made_so_far}

onto-behind : (action : CellOutcome) (a b c : StageList) → (a.ended ≡ None → b ≡ behind a.cells c) → (onto action a).ended ≡ None → onto action b ≡ behind (onto action a).cells c
onto-behind (goes_on cell) a b c step open_ = ap (onto (goes_on cell)) (step open_)
onto-behind (ends_after cell) a b c step open_ = cc
onto-behind (ends_before how) a b c step open_ = cc

-- a list that has not ended goes on with what is made of the cells after it
pub apply_after-append : (rule : PluginRule) (history xs ys : List Cell) → (apply_after rule history xs).ended ≡ None
    → apply_after rule history (xs ++ ys) ≡ behind (apply_after rule history xs).cells (apply_after rule (history ++ xs) ys)
apply_after-append rule history [] ys open_ = ap (λ (h : List Cell). apply_after rule h ys) (sym (append-nil history))
apply_after-append rule history (x ∷ xs) ys open_ =
    let more : List Cell = history ++ x ∷ [] in
    onto-behind (became rule history x) (apply_after rule more xs) (apply_after rule more (xs ++ ys)) (apply_after rule (history ++ (x ∷ xs)) ys)
    (λ still. apply_after-append rule more xs ys still
    ∙ ap (λ (h : List Cell). behind (apply_after rule more xs).cells (apply_after rule h ys)) (append_assoc history (x ∷ []) xs))
    open_

-- as many cells were made as were met
onto-same_length : (action : CellOutcome) (a : StageList) (n : ℕ) → (a.ended ≡ None → length a.cells ≡ n) → (onto action a).ended ≡ None → length (onto action a).cells ≡ n + 1
onto-same_length (goes_on cell) a n step open_ = let same : length a.cells ≡ n = step open_ in omega arith
onto-same_length (ends_after cell) a n step open_ = cc
onto-same_length (ends_before how) a n step open_ = cc

pub apply_after-same_length : (rule : PluginRule) (history xs : List Cell) → (apply_after rule history xs).ended ≡ None → length (apply_after rule history xs).cells ≡ length xs
apply_after-same_length rule history [] open_ = refl
apply_after-same_length rule history (x ∷ xs) open_ =
    let same : length (apply_after rule history (x ∷ xs)).cells ≡ length xs + 1 =
    onto-same_length (became rule history x) (apply_after rule (history ++ x ∷ []) xs) (length xs) (λ still. apply_after-same_length rule (history ++ x ∷ []) xs still) open_ in
    omega arith

module _ (rule : PluginRule) (history cells made : List Cell) (i : ℕ) (cell left : Cell) (within : i < length cells) (room : i < length made)
    (is : get_or cells i cell ≡ cell)
    (far : apply_after rule history (take i cells) ≡ made_so_far (take i made) Through) where
  far_step : (action : CellOutcome) → became rule (history ++ take i cells) cell ≡ action
      → apply_after rule history (take (i + 1) cells) ≡ behind (take i made) (onto action (record { cells = []; ended = None }))
  far_step action e =
      let next : take (i + 1) cells ≡ take i cells ++ cell ∷ [] = take_more cells i cell within ∙ ap (λ (x : Cell). take i cells ++ x ∷ []) is in
      let open_ : (apply_after rule history (take i cells)).ended ≡ None = ap (λ (l : StageList). l.ended) far in
      ap (apply_after rule history) next
      ∙ apply_after-append rule history (take i cells) (cell ∷ []) open_
      ∙ ap (λ (l : StageList). behind l.cells (apply_after rule (history ++ take i cells) (cell ∷ []))) far
      ∙ ap (λ (f : CellOutcome). behind (take i made) (onto f (record { cells = []; ended = None }))) e

  -- the list goes on with one cell more
  pub far_goes_on : became rule (history ++ take i cells) cell ≡ goes_on left
      → apply_after rule history (take (i + 1) cells) ≡ made_so_far (take (i + 1) (set made i left)) Through
  far_goes_on e =
      far_step (goes_on left) e
      ∙ ap (λ (l : List Cell). made_so_far l Through) (sym (take_more_set made i left room))

  -- the list ends after one cell more
  pub far_ends_after : became rule (history ++ take i cells) cell ≡ ends_after left
      → apply_after rule history (take (i + 1) cells) ≡ made_so_far (take (i + 1) (set made i left)) window.Last
  far_ends_after e =
      far_step (ends_after left) e
      ∙ ap (λ (l : List Cell). made_so_far l window.Last) (sym (take_more_set made i left room))

  -- the list ends before the cell: it is as it was
  pub far_as_before : apply_after rule history (take i cells) ≡ made_so_far (take i (set made i left)) Through
  far_as_before = far ∙ ap (λ (l : List Cell). made_so_far l Through) (sym (take-set made i left))
