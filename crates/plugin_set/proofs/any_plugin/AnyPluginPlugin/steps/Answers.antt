use Rattle.std.proofs.Common.{ℕ, Option, take, sym, subst}
use Rattle.cell_rows.specs.Cells.{cells_of}
use Rattle.chain_model.specs.Apply.{apply_after}
use Rattle.plugin_trait.specs.Driving.{Makes}
use Rattle.plugin_set.specs.contracts.some_plugin.SomePluginPlugin.TheImpl.{ghosts as some}
use Rattle.plug_every.specs.EveryStands.{StandsMaybe, rule_of_maybe}
use Rattle.plug_masked.specs.OnlyLabels.{rule_for, shown}
use Rattle.plugin_set.proofs.any_plugin.AnyPluginPlugin.steps.Goals as goal

pub returns-in-None-clause-makes : goal.returns-in-None-clause-makes
returns-in-None-clause-makes c = λ history mark stands count.
    let seen = subst (λ (only : Option ℕ). StandsMaybe some.rule some.stands_for c.args.self.now.masked.plugin (shown only history) mark) c.in-None.is stands in
    subst (λ (only : Option ℕ). Makes (apply_after (rule_for only (rule_of_maybe some.rule c.args.self.now.masked.plugin)) history (cells_of c.args.packets.now c.args.marks.now)) (take c.steps.result.count (cells_of c.steps.new.packets c.steps.new.marks)) c.steps.result.end)
    (sym c.in-None.is) (c.steps.ensures.makes history mark seen count)
