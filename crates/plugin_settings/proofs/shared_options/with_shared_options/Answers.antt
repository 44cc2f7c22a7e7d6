use Rattle.std.proofs.Common.{Bool, codes, ap, sym, ◌∙◌}
use Rattle.std.specs.Prelude.{fold}
use Rattle.clap.specs.Simple.{App, app_of, with_rule}
use Rattle.plugin_options.specs.Options.{rule_of_kind, value_rule}
use Rattle.plugin_settings.specs.Items.{shared_rows}
use Rattle.plugin_settings.proofs.ItemLemmas.{if_ok}
use Rattle.plugin_settings.proofs.shared_options.with_shared_options.Goals as goal

pub returns-then-has_summary : goal.returns-then-has_summary
returns-then-has_summary c = if_ok _ _ c.with_value-then-has_summary.result c.with_value-then-has_summary.ensures (λ command is.
    is
    ∙ (ap (λ (a : App). with_rule a (value_rule (codes "only-label"))) c.in_ok-with_value.ensures
    ∙ ap (λ (summary : Bool). fold (λ a row. with_rule a (rule_of_kind row.name row.kind)) (app_of c.args.own) (shared_rows summary)) (sym c.if-has_summary.true)))

pub returns : goal.returns
returns c = if_ok _ _ c.with_value-2.result c.with_value-2.ensures (λ command is.
    is ∙ ap (λ (summary : Bool). fold (λ a row. with_rule a (rule_of_kind row.name row.kind)) (app_of c.args.own) (shared_rows summary)) (sym c.if-has_summary.false))
