use Rattle.std.proofs.Common.{refl, ◌++◌, ◌∷◌, [], ◌∙◌, arith}
use Rattle.ts_packet.specs.Cells.{Live}
use Rattle.monitor_rows.proofs.Rowing.{all_met, met_more, met_none, met_to, no_key, not_yet, told_more}
use Rattle.monitor_rows.proofs.key_row.KeyRow.meet_each.Goals as goal

pub loop-i-init : goal.loop-i-init
loop-i-init c = record {
  limit = refl;
  whole = refl;
  met = λ rule history packet labels has span_is occurring. met_none rule history packet labels c.args.self.now has;
  tells = λ rule history packet labels has span_is occurring. c.new-told.ensures.items;
}

pub loop-i-preserved : goal.loop-i-preserved
loop-i-preserved c = record {
  limit = c.meet_at.ensures.limit ∙ c.loop-i.invariant.limit;
  whole = c.meet_at.ensures.whole ∙ c.loop-i.invariant.whole;
  met = λ rule history packet labels has span_is occurring.
      let met = c.loop-i.invariant.met rule history packet labels has span_is occurring in
      met_more rule history packet labels c.args.self.now has c.loop-i.self.keys.items c.loop-i.i (omega (arith, c.loop-i-test.true, c.len-i-end.ensures)) met c.meet_at.new.self.keys.items
      c.meet_at.ensures.whole c.meet_at.ensures.others c.meet_at.ensures.number
      (λ d. c.meet_at.ensures.stands rule history (history ++ Live packet labels ∷ []) packet labels d span_is occurring
      (not_yet rule history packet labels c.args.self.now has c.loop-i.self.keys.items c.loop-i.i (omega (arith, c.loop-i-test.true, c.len-i-end.ensures)) met d));
  tells = λ rule history packet labels has span_is occurring.
      let met = c.loop-i.invariant.met rule history packet labels has span_is occurring in
      told_more rule history packet labels c.args.self.now has c.loop-i.self.keys.items c.loop-i.i (omega (arith, c.loop-i-test.true, c.len-i-end.ensures)) met c.loop-i.told.items
      c.meet_at.new.told.items (c.loop-i.invariant.tells rule history packet labels has span_is occurring)
      (c.in_ok-meet_at.ensures.told rule history packet labels no_key span_is occurring
      (not_yet rule history packet labels c.args.self.now has c.loop-i.self.keys.items c.loop-i.i (omega (arith, c.loop-i-test.true, c.len-i-end.ensures)) met no_key));
}

pub returns-clause-stands : goal.returns-clause-stands
returns-clause-stands c = λ rule history packet labels has span_is occurring.
    all_met rule history packet labels c.args.self.now has c.loop-i.self c.loop-i.invariant.limit
    (met_to rule history packet labels c.args.self.now.keys.items c.loop-i.self.keys.items c.loop-i.i
    (omega (arith, c.loop-i-test.false, c.len-i-end.ensures)) (c.loop-i.invariant.met rule history packet labels has span_is occurring))
