use Rattle.std.proofs.Common.{◌≡◌, ◌∙◌, Bool, ap, sym, subst}
use Rattle.std.specs.Prelude.{fold}
use Rattle.clap.specs.Faults.{is_simple_and_free}
use Rattle.clap.specs.Simple.{App, app_of, with_rule}
use Rattle.plugin_options.specs.Options.{command_of, rule_of_kind}
use Rattle.plugin_options.specs.Refusal.{ReadsParsed}
use Rattle.plugin_settings.specs.Items.{options_of_item, shared_rows, with_shared}
use Rattle.plugin_settings.specs.Plugins.{has_summary, options_of_plugin}
use Rattle.plugin_settings.proofs.ItemLemmas.{command-more, simple, words_read, words_refused}
use Rattle.plugin_settings.proofs.plugin_conf.PluginKind.read.Goals as goal
use Rattle.plugin_settings.proofs.plugin_conf.PluginKind.read.Goals.{In_ok-command}

-- the command has the plugin's options and those that it shares
command_is : (c : In_ok-command) → app_of c.in_ok-command.command ≡ command_of (options_of_item c.args.self).rows
command_is c =
    c.in_ok-command.ensures
    ∙ (ap (λ (hs : Bool). fold (λ a r. with_rule a (rule_of_kind r.name r.kind)) (app_of c.in_ok-own.own) (shared_rows hs)) c.has_summary-has_summary.ensures
    ∙ (ap (λ (a : App). fold (λ a r. with_rule a (rule_of_kind r.name r.kind)) a (shared_rows (has_summary c.args.self))) (c.in_ok-own.ensures ∙ ap command_of c.options.ensures)
    ∙ sym (command-more (options_of_plugin c.args.self).rows (has_summary c.args.self))))

pub of-requires : goal.of-requires
of-requires c = ap is_simple_and_free (command_is (goal.at.of-requires c).In_ok-command) ∙ simple c.args.self

pub returns-in_err-found-clause-reads : goal.returns-in_err-found-clause-reads
returns-in_err-found-clause-reads c =
    words_refused (options_of_item c.args.self) _ _ (command_is (goal.at.returns-in_err-found-clause-reads c).In_ok-command)
    _ _ c.from_residual-in_err-found.ensures.1 c.in_err-found.ensures

pub returns-clause-reads : goal.returns-clause-reads
returns-clause-reads c =
    words_read (options_of_item c.args.self) _ _ (command_is (goal.at.returns-clause-reads c).In_ok-command)
    c.in_ok-found.found c.in_ok-found.ensures.0 c.in_ok-found.ensures.1
    _ (subst (λ (hs : Bool). ReadsParsed (with_shared hs (options_of_plugin c.args.self)) c.in_ok-found.found c.with_shared.result) c.has_summary-has_summary.ensures
    (c.with_shared.ensures.reads (options_of_plugin c.args.self) c.settings.ensures.reads))
