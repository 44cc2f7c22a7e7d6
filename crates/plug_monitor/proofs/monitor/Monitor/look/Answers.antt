use Rattle.std.proofs.Common.{ℕ, sym, ◌∙◌, ap, arith}
use Rattle.plug_monitor.specs.ErrorNotes.{note_of}
use Rattle.plug_monitor.specs.MonitorErrors.{errors_on}
use Rattle.plug_monitor.proofs.Monitoring.{monitors_live}
use Rattle.plug_monitor.proofs.Watching.{meets-some}
use Rattle.plug_monitor.proofs.monitor.Monitor.look.Goals as goal

pub returns-clause-met : goal.returns-clause-met
returns-clause-met c = λ history mark w count labels.
    let watching = w.watching c.requires.working in
    monitors_live c.args.self.now.conf _ _ _ _ history mark w c.args.packet.now labels _ c.of.result _ _ (omega (arith, count, c.requires.in_range))
    (c.of.ensures ∙ (ap (note_of c.args.at) (c.in_ok-errors.ensures.gives c.args.self.now.conf history watching count)
    ∙ ap (λ (n : ℕ). note_of n (errors_on c.args.self.now.conf history c.args.packet.now)) (sym count)))
    c.in_ok-push_if_any.ensures.ok
    (c.in_ok-errors.ensures.stands c.args.self.now.conf history labels watching count)

pub meet-requires : goal.meet-requires
meet-requires c =
    meets-some c.args.self.now.conf c.args.self.now.watch.second c.requires.met.history (c.requires.met.holds.watching c.requires.working).second
