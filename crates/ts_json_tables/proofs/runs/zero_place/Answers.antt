use Rattle.std.proofs.Common.{◌∙◌, ap, arith, refl, sym}
use Rattle.std.specs.Prelude.{Some}
use Rattle.ts_json_tables.proofs.ZeroLemmas.{zero_here, zero_later, zero_nowhere, zeros_begin}
use Rattle.ts_json_tables.proofs.runs.zero_place.Goals as goal

pub loop-item-init : goal.loop-item-init
loop-item-init c = record { same = refl; left = zeros_begin _ }

pub returns-then-is_zero-clause-place : goal.returns-then-is_zero-clause-place
returns-then-is_zero-clause-place c =
    ap Some c.loop-item.invariant.same
    ∙ zero_here c.args.items.now c.loop-item.item-index c.item-item.result _ c.loop-item-test.true c.item-item.is (sym c.is_zero.ensures ∙ c.if-is_zero.true) c.loop-item.invariant.left

pub loop-item-preserved : goal.loop-item-preserved
loop-item-preserved c = record {
  same = omega (arith, c.loop-item.invariant.same);
  left = zero_later c.args.items.now c.loop-item.item-index c.item-item.result _ c.loop-item-test.true c.item-item.is (sym c.is_zero.ensures ∙ c.if-is_zero.false) c.loop-item.invariant.left;
}

pub returns-clause-place : goal.returns-clause-place
returns-clause-place c = zero_nowhere c.args.items.now c.loop-item.item-index _ c.loop-item-test.false c.loop-item.invariant.left
