use Rattle.std.proofs.Common.{◌∙◌, refl, sym}
use Rattle.plug_pass.specs.FilterWords.{filter, filter_rows}
use Rattle.plugin_options.proofs.RefusalLemmas.{malformed, value_refused}
use Rattle.plug_pass.proofs.filter_words.filter_settings.Goals as goal

pub returns-in_err-label-clause-reads : goal.returns-in_err-label-clause-reads
returns-in_err-label-clause-reads c =
    value_refused filter c.args.found.now _ _ _ c.from_residual-in_err-label.ensures.1 c.in_err-label.ensures.reads (sym c.has_condition.ensures ∙ c.if-not-has_condition.false)
    (malformed filter_rows c.args.found.now 4 _ refl)

pub returns-in_err-set_label-clause-reads : goal.returns-in_err-set_label-clause-reads
returns-in_err-set_label-clause-reads c =
    value_refused filter c.args.found.now _ _ _ c.from_residual-in_err-set_label.ensures.1 c.in_err-set_label.ensures.reads (sym c.has_condition.ensures ∙ c.if-not-has_condition.false)
    (malformed filter_rows c.args.found.now 7 _ refl)
