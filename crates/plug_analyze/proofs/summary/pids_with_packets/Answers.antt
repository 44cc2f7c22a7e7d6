use Rattle.std.proofs.Common.{ap, arith, length}
use Rattle.plugin_notes.specs.PidPackets.{numbers_below}
use Rattle.plug_analyze.proofs.SummaryLemmas.{all_pids_more, pids_more}
use Rattle.plug_analyze.proofs.summary.pids_with_packets.Goals as goal

pub loop-pid-init : goal.loop-pid-init
unfolding numbers_below
loop-pid-init c = record {
  pids = λ packets t. c.new-pids.ensures.items;
  range = λ k d lt. absurd (omega (arith, lt, ap length c.new-pids.ensures.items));
}

pub loop-pid-preserved : goal.loop-pid-preserved
loop-pid-preserved c = record {
  pids = λ packets t. pids_more packets c.loop-pid.pid c.packets_on.result _ _ (c.packets_on.ensures packets t) (c.loop-pid.invariant.pids packets t) c.in_ok-push_if.ensures;
  range = all_pids_more _ _ _ c.loop-pid.pid c.loop-pid.invariant.range c.loop-pid-test.true c.in_ok-push_if.ensures;
}
