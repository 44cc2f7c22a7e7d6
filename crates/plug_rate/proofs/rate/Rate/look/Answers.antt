use Rattle.std.proofs.Common.{false, ap, sym, ◌∙◌, arith}
use Rattle.plugin_options.specs.Selection.{is_selected}
use Rattle.plug_rate.specs.RateState.{conf_of}
use Rattle.plug_rate.proofs.Following.{follows_counted, has_room}
use Rattle.plug_rate.proofs.rate.Rate.look.Goals as goal

pub meet-requires-clause-selected : goal.meet-requires-clause-selected
meet-requires-clause-selected c = ap (is_selected c.args.self.now.pids false) (sym c.pid.ensures.field) ∙ sym c.selects-counts.ensures

pub add-requires : goal.add-requires
add-requires c = has_room (conf_of c.args.self.now) _ _ _ _ _ c.requires.met.holds

pub returns-in-None-clause-met : goal.returns-in-None-clause-met
returns-in-None-clause-met c = λ history mark w count labels.
    follows_counted (conf_of c.args.self.now) _ _ _ history mark w c.args.packet.now labels _ _ (omega (arith, count, c.requires.in_range)) (sym c.in-None.ensures.value)
    (ap (is_selected c.args.self.now.pids false) (sym c.pid.ensures.field) ∙ sym c.selects-counts.ensures) c.add.ensures
