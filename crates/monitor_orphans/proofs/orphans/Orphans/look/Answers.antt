use Rattle.std.proofs.Common.{refl, ◌∙◌, arith}
use Rattle.monitor_orphans.specs.OrphanRow.{told_in, met_in}
use Rattle.monitor_orphans.proofs.Reaching.{looked_first, looked_last, told_first, told_last, within_first, within_last, within_more}
use Rattle.monitor_orphans.proofs.Turning.{looked_more, told_more}
use Rattle.monitor_orphans.proofs.orphans.Orphans.look.Goals as goal

pub loop-pid-init : goal.loop-pid-init
loop-pid-init c = record {
  bound = c.reach_with-reach.result.begins;
  looked = λ fed stands within. looked_first c.args.span.now c.args.packet.now fed c.args.self.now.pids c.reach_with-reach.result
      (c.reach_with-reach.ensures c.args.span.now fed stands within);
  tells = λ fed stands within. c.new-told.ensures.items ∙ told_first c.args.span.now c.args.packet.now fed c.args.self.now.pids c.reach_with-reach.result
      (c.reach_with-reach.ensures c.args.span.now fed stands within);
  within = λ fed stands within. within_first c.args.span.now c.args.packet.now fed c.args.self.now.pids c.reach_with-reach.result
      (c.reach_with-reach.ensures c.args.span.now fed stands within) c.none-self.result;
}

pub loop-pid-preserved : goal.loop-pid-preserved
loop-pid-preserved c = record {
  bound = omega (arith, c.reach_with-reach.result.ends, c.loop-pid-test.true);
  looked = λ fed stands within.
      looked_more c.args.span.now c.args.packet.now fed c.args.self.now.pids c.loop-pid.self.pids c.look_at.new.self.pids c.loop-pid.pid
      (c.loop-pid.invariant.looked fed stands within) (omega (arith, c.look_at.ensures.whole, c.reach_with-reach.result.ends, c.loop-pid-test.true))
      (c.look_at.ensures.kept fed stands);
  tells = λ fed stands within.
      c.in_ok-look_at.ensures.told fed stands
      ∙ told_more c.args.span.now c.args.packet.now fed c.args.self.now.pids c.loop-pid.self.pids c.look_at.new.self.pids c.loop-pid.pid
      (c.loop-pid.invariant.looked fed stands within) (omega (arith, c.look_at.ensures.whole, c.reach_with-reach.result.ends, c.loop-pid-test.true))
      (c.look_at.ensures.kept fed stands)
      c.loop-pid.told.items (told_in c.args.span.now c.args.packet.now fed c.loop-pid.self.pids c.loop-pid.pid) (c.loop-pid.invariant.tells fed stands within) refl;
  within = λ fed stands within.
      within_more c.loop-pid.self.pids c.look_at.new.self.pids c.loop-pid.pid
      (met_in c.args.span.now c.args.packet.now fed c.loop-pid.self.pids c.loop-pid.pid)
      (omega (arith, c.look_at.ensures.whole, c.reach_with-reach.result.ends, c.loop-pid-test.true)) (c.look_at.ensures.kept fed stands)
      c.loop-pid.self.reach c.look_at.new.self.reach (c.look_at.ensures.reach fed stands) (c.loop-pid.invariant.within fed stands within);
}

pub returns-clause-tells : goal.returns-clause-tells
returns-clause-tells c = λ fed stands within.
    told_last c.args.span.now c.args.packet.now fed c.args.self.now.pids c.reach_with-reach.result
    (c.reach_with-reach.ensures c.args.span.now fed stands within) c.loop-pid.self.pids c.loop-pid.pid (omega (arith, c.loop-pid-test.false))
    c.loop-pid.invariant.bound (c.loop-pid.invariant.looked fed stands within) c.loop-pid.told.items (c.loop-pid.invariant.tells fed stands within)

pub returns-clause-stands : goal.returns-clause-stands
returns-clause-stands c = λ fed stands within.
    looked_last c.args.span.now c.args.packet.now fed c.args.self.now.pids c.reach_with-reach.result
    (c.reach_with-reach.ensures c.args.span.now fed stands within) c.loop-pid.self.pids c.loop-pid.pid (omega (arith, c.loop-pid-test.false))
    c.loop-pid.invariant.bound (c.loop-pid.invariant.looked fed stands within)

pub returns-clause-within : goal.returns-clause-within
returns-clause-within c = λ fed stands within.
    within_last c.args.span.now c.args.packet.now fed c.args.self.now.pids c.reach_with-reach.result
    (c.reach_with-reach.ensures c.args.span.now fed stands within) c.loop-pid.self.pids c.loop-pid.pid (omega (arith, c.loop-pid-test.false))
    c.loop-pid.invariant.bound (c.loop-pid.invariant.looked fed stands within) c.loop-pid.self.reach (c.loop-pid.invariant.within fed stands within)
