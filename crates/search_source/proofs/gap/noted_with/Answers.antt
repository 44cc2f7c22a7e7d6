use Rattle.std.proofs.Common.{◌≡◌, ◌<◌, ◌++◌, ◌∙◌, ◌∷◌, [], ℕ, List, Option, option_to_list, ap, sym, arith, append-nil}
use Rattle.search_source.specs.declared.gap.Gap.{Gap}
use Rattle.search_source.specs.Gaps.{counted, gap_before}
use Rattle.search_source.proofs.Counting.{gap-none, gap-some, counted-small}
use Rattle.search_source.proofs.gap.noted_with.Goals as goal

pub returns-then-left-eq0 : goal.returns-then-left-eq0
returns-then-left-eq0 c =
    sym (ap (λ (g : List Gap). option_to_list c.args.noted ++ g) (gap-none c.args.number c.args.left c.if-left-eq0.true) ∙ append-nil (option_to_list c.args.noted))

pub returns : goal.returns
returns c =
    let some : 0 < c.args.left = omega arith in
    let number : counted c.args.number ≡ c.args.number = counted-small c.args.number (omega arith) in
    let left : counted c.args.left ≡ c.args.left = counted-small c.args.left (omega arith) in
    ap (λ (n : ℕ). let g : Gap = record { before = n; bytes = c.args.left } in g ∷ []) (sym number)
    ∙ ap (λ (n : ℕ). let g : Gap = record { before = counted c.args.number; bytes = n } in g ∷ []) (sym left)
    ∙ sym (gap-some c.args.number c.args.left some)
    ∙ ap (λ (o : Option Gap). option_to_list o ++ gap_before c.args.number c.args.left) (sym (c.requires some))
