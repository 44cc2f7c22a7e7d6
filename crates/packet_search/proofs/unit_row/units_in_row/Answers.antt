use Rattle.std.proofs.Common.{◌≡◌, ◌∙◌, ◌+◌, ◌*◌, ℕ, suc, List, true, drop, refl, ap, sym, arith}
use Rattle.std.proofs.lemmas.List.{drop-drop}
use Rattle.packet_forms.specs.Stripped.{unit}
use Rattle.packet_search.specs.Rule.{is_whole, in_row}
use Rattle.packet_search.proofs.Runs.{one-more}
use Rattle.packet_search.proofs.unit_row.units_in_row.Goals as goal

pub loop-count-init : goal.loop-count-init
unfolding in_row
loop-count-init c =
    let none : 0 * unit c.args.form ≡ 0 = omega arith in
    record {
      few = omega arith;
      row = refl;
      rest = ap (λ (n : ℕ). drop n c.args.bytes.now) (sym none);
    }

pub loop-count-preserved : goal.loop-count-preserved
loop-count-preserved c =
    let form = c.args.form in
    let u : ℕ = unit form in
    let count : ℕ = c.loop-count.count in
    let bytes : List ℕ = c.args.bytes.now in
    let at = c.loop-count.invariant in
    let whole : is_whole form c.loop-count.rest.now ≡ true = sym c.is_whole.ensures ∙ c.if-not-is_whole.false in
    let next : suc count ≡ count + 1 = omega arith in
    let sum : count * u + u ≡ (count + 1) * u = omega arith in
    record {
      few = omega arith;
      row = ap (λ (n : ℕ). in_row form n bytes) (sym next) ∙ one-more form count bytes at.row (ap (is_whole form) (sym at.rest) ∙ whole);
      rest = c.from_place-rest.ensures
          ∙ ap (λ (n : ℕ). drop n c.loop-count.rest.now) c.unit-unit.ensures
          ∙ ap (drop u) at.rest
          ∙ drop-drop u (count * u) bytes ∙ ap (λ (n : ℕ). drop n bytes) sum;
    }
