use Rattle.std.proofs.Common.{sym, ◌∙◌, arith}
use Rattle.monitor_orphans.proofs.Reaching.{within_set}
use Rattle.monitor_orphans.proofs.Turning.{follows_look, follows_quiet, told_look, told_quiet}
use Rattle.monitor_orphans.proofs.orphans.Orphans.meet.Goals as goal

pub returns-then-is_look-clause-tells : goal.returns-then-is_look-clause-tells
returns-then-is_look-clause-tells c = λ pcr_pid history r is stands.
    c.in_ok-told.ensures.tells _ stands r.within ∙ told_look pcr_pid c.args.self.now history r c.args.span.now c.args.packet.now is

pub returns-then-is_look-clause-stands : goal.returns-then-is_look-clause-stands
returns-then-is_look-clause-stands c = λ pcr_pid history labels r is stands.
    follows_look pcr_pid c.args.self.now history r c.args.span.now c.args.packet.now is _ labels (c.in_ok-told.ensures.stands _ stands r.within)
    (c.in_ok-told.ensures.within _ stands r.within)

pub returns-clause-tells : goal.returns-clause-tells
returns-clause-tells c = λ pcr_pid history r is stands.
    c.new.ensures.items ∙ told_quiet pcr_pid c.args.self.now history r c.args.span.now c.args.packet.now is (sym c.is_look.ensures ∙ c.if-is_look.false)

pub returns-clause-stands : goal.returns-clause-stands
returns-clause-stands c = λ pcr_pid history labels r is stands.
    follows_quiet pcr_pid c.args.self.now history r c.args.span.now c.args.packet.now is (sym c.is_look.ensures ∙ c.if-is_look.false) c.turn.new.self labels c.pid.result
    c.pid.ensures.field c.pid.ensures.range c.turn.ensures.whole (c.turn.ensures.kept _ stands)
    (within_set c.args.self.now.pids c.turn.new.self.pids c.pid.result _ (omega (arith, c.turn.ensures.whole, c.pid.ensures.range)) (c.turn.ensures.kept _ stands)
    c.args.self.now.reach c.turn.new.self.reach (c.turn.ensures.reach _ stands) r.within)
