use Rattle.std.proofs.Common.{ℕ, false, ap, sym, ◌∙◌, arith}
use Rattle.plugin_options.specs.Selection.{is_selected}
use Rattle.plug_times.specs.Stamps.{told_at}
use Rattle.plug_times.specs.TimestampsState.{conf_of}
use Rattle.plug_times.proofs.Following.{follows_live, follows_other}
use Rattle.plug_times.proofs.timestamps.TimestampsPlugin.step.Goals as goal

pub returns-then-not-selects-clause-meets : goal.returns-then-not-selects-clause-meets
returns-then-not-selects-clause-meets c = λ history mark w count.
    follows_other (conf_of c.args.self.now) _ _ history mark w c.args.packet.now c.args._labels.now (omega (arith, count, c.requires.in_range))
    (ap (is_selected c.args.self.now.pids false) (sym c.pid.ensures.field) ∙ sym c.if-not-selects.ensures)

pub returns-in-Ok-clause-meets : goal.returns-in-Ok-clause-meets
returns-in-Ok-clause-meets c = λ history mark w count.
    follows_live (conf_of c.args.self.now) _ _ history mark w c.args.packet.now c.args._labels.now (omega (arith, count, c.requires.in_range))
    _ c.push_if_any.new.notes.items
    (ap (is_selected c.args.self.now.pids false) (sym c.pid.ensures.field) ∙ (sym c.selects.ensures ∙ c.if-not-selects.false))
    (c.of.ensures ∙ ap (λ (n : ℕ). told_at n c.args.packet.now) (sym count))
    c.in-Ok.ensures.ok
