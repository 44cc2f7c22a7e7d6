use Rattle.std.proofs.Common.{◌≡◌, ◌+◌, ◌-◌, ◌∙◌, ℕ, suc, true, false, drop, sym, ap, arith}
use Rattle.packet_search.specs.Rule.{in_row, five_within}
use Rattle.packet_search.proofs.Units.{unit-holds, within-none, within-next, not-cut, held-not-cut}
use Rattle.packet_search.proofs.Runs.{cut-where}
use Rattle.packet_search.proofs.places.is_cut.Goals as goal

pub loop-place-init : goal.loop-place-init
loop-place-init c = within-none c.args.form c.args.bytes.now

pub returns-then-in_row : goal.returns-then-in_row
returns-then-in_row c =
    let here : in_row c.args.form 5 (drop c.loop-place.place c.args.bytes.now) ≡ true =
    ap (in_row c.args.form 5) (sym c.from_place.ensures) ∙ sym c.in_row.ensures ∙ c.if-in_row.true in
    sym (cut-where c.args.form c.loop-place.place c.args.bytes.now (omega arith) (omega arith) here (sym c.is_held.ensures ∙ c.if-is_held.false))

pub loop-place-preserved : goal.loop-place-preserved
loop-place-preserved c =
    let p : ℕ = c.loop-place.place in
    let here : in_row c.args.form 5 (drop p c.args.bytes.now) ≡ false =
    ap (in_row c.args.form 5) (sym c.from_place.ensures) ∙ sym c.in_row.ensures ∙ c.if-in_row.false in
    let one : suc (p - 1) ≡ p = omega arith in
    let next : p ≡ p + 1 - 1 = omega arith in
    ap (λ (n : ℕ). five_within c.args.form n c.args.bytes.now) (sym (one ∙ next))
    ∙ within-next c.args.form (p - 1) c.args.bytes.now c.loop-place.invariant
    (ap (λ (n : ℕ). in_row c.args.form 5 (drop n c.args.bytes.now)) one ∙ here)

pub returns : goal.returns
returns c = sym (not-cut c.args.form (c.loop-place.place - 1) c.args.bytes.now (omega (arith, unit-holds c.args.form)) c.loop-place.invariant)

pub returns-then-is_held : goal.returns-then-is_held
returns-then-is_held c = sym (held-not-cut c.args.form c.args.bytes.now (sym c.is_held.ensures ∙ c.if-is_held.true))
