use Rattle.monitor_orphans.proofs.Reaching.{reaches_met}
use Rattle.monitor_orphans.proofs.Turning.{set_met, told_met}
use Rattle.monitor_orphans.specs.declared.orphan.Orphan.TheVariants.{Unmet}
use Rattle.monitor_orphans.proofs.orphans.Orphans.turn.Goals as goal

pub returns-clause-kept : goal.returns-clause-kept
returns-clause-kept c = λ fed stands.
    set_met c.args.span.now c.args.packet.now fed c.args.self.now.pids c.set.new.self c.args.pid c.get-kept.result c.with-turned.result c.is_on-is_on.result
    c.has-is_referred.result c.set.ensures.values c.with-turned.ensures (c.get-kept.ensures Unmet) c.is_on-is_on.ensures (c.has-is_referred.ensures fed stands)

pub returns-clause-told : goal.returns-clause-told
returns-clause-told c = λ fed stands.
    told_met c.args.span.now c.args.packet.now fed c.args.self.now.pids c.args.pid c.get-kept.result c.is_told_with.result c.is_on-is_on.result
    c.has-is_referred.result c.is_told_with.ensures (c.get-kept.ensures Unmet) c.is_on-is_on.ensures (c.has-is_referred.ensures fed stands)

pub returns-clause-reach : goal.returns-clause-reach
returns-clause-reach c = λ fed stands.
    reaches_met c.args.span.now c.args.packet.now fed c.args.self.now.pids c.args.pid c.get-kept.result c.with-turned.result c.is_on-is_on.result
    c.has-is_referred.result c.args.self.now.reach c.with-self.result c.with-self.ensures c.with-turned.ensures (c.get-kept.ensures Unmet) c.is_on-is_on.ensures
    (c.has-is_referred.ensures fed stands)
