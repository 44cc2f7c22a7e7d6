use Rattle.std.proofs.Common.{arith, ap, length}
use Rattle.plug_tables.proofs.ToldLemmas.{one_below, one_moved}
use Rattle.plug_tables.proofs.tables.give_below.Goals as goal

pub loop-line-preserved : goal.loop-line-preserved
loop-line-preserved c = record {
  moved = one_moved c.args.mark c.args.told.now.items c.args.lines.now.items c.loop-line.told.items c.loop-line.lines.items c.pop_below.new.told.items c.push_reserved.new.self.items c.in-Some.line
      c.loop-line.invariant.moved c.in-Some.ensures.taken.0 c.in-Some.ensures.taken.1 c.push_reserved.ensures.items;
  room = omega (
    arith,
    c.loop-line.invariant.room,
    ap length (one_below c.args.mark c.loop-line.told.items c.pop_below.new.told.items c.in-Some.line c.in-Some.ensures.taken.0 c.in-Some.ensures.taken.1),
    c.push_reserved.ensures.len,
    c.push_reserved.ensures.capacity,
  );
}
