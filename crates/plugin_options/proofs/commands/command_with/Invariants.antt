use Rattle.std.proofs.Common.{◌≡◌, drop}
use Rattle.std.specs.Prelude.{fold}
use Rattle.clap.specs.Simple.{app_of, with_rule}
use Rattle.plugin_options.specs.Options.{command_of, rule_of_kind}
use Rattle.plugin_options.specs.OptionWords.{rows_of_options}
use Rattle.plugin_options.proofs.commands.command_with.Given as goal

-- the options that are left, put to the command, make that of the whole table
abbrev pub invariant-loop-option : goal.invariant-loop-option
invariant-loop-option l =
    fold (λ a row. with_rule a (rule_of_kind row.name row.kind)) (app_of l.command)
    (rows_of_options (drop l.option-index l.options))
    ≡ command_of (rows_of_options l.options)
