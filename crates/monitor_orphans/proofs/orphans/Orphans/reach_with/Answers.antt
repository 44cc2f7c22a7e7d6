use Rattle.std.proofs.Common.{sym, ◌∙◌}
use Rattle.monitor_orphans.proofs.Reaching.{outside_over, outside_referred}
use Rattle.monitor_orphans.proofs.orphans.Orphans.reach_with.Goals as goal

pub returns-then-has : goal.returns-then-has
returns-then-has c = λ span fed stands within.
    outside_referred span c.args.packet.now fed c.args.self.now.pids c.args.self.now.reach within c.pid-pid.result c.pid-pid.ensures.field
    (sym c.if-has.true ∙ c.has.ensures fed stands)

pub returns : goal.returns
returns c = λ span fed stands within.
    outside_over span c.args.packet.now fed c.args.self.now.pids c.args.self.now.reach within c.pid-pid.result c.pid-pid.ensures.field c.over.result c.over.ensures
