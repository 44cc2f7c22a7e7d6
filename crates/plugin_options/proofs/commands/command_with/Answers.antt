use Rattle.std.proofs.Common.{◌+◌, ◌∙◌, ap, drop, sym}
use Rattle.std.specs.Prelude.{fold}
use Rattle.std.proofs.lemmas.List.{at_drop_more, drop_all}
use Rattle.clap.specs.Simple.{app_of, with_rule}
use Rattle.plugin_options.specs.Options.{rule_of_kind}
use Rattle.plugin_options.specs.OptionWords.{rows_of_options}
use Rattle.plugin_options.proofs.commands.command_with.Goals as goal

pub loop-option-preserved : goal.loop-option-preserved
loop-option-preserved c =
    let options = c.args.options.now in
    let at = c.loop-option.option-index in
    ap (λ app. fold (λ a row. with_rule a (rule_of_kind row.name row.kind)) app (rows_of_options (drop (at + 1) options))) c.in_ok-command.ensures
    ∙ sym (at_drop_more (λ words. fold (λ a row. with_rule a (rule_of_kind row.name row.kind)) (app_of c.loop-option.command) (rows_of_options words)) options at _ c.loop-option-test.true)
    ∙ c.loop-option.invariant

pub returns : goal.returns
returns c =
    let options = c.args.options.now in
    sym (ap (λ words. fold (λ a row. with_rule a (rule_of_kind row.name row.kind)) (app_of c.loop-option.command) (rows_of_options words))
    (drop_all c.loop-option.option-index options c.loop-option-test.false))
    ∙ c.loop-option.invariant
