use Rattle.std.proofs.Common.{◌∙◌, refl, sym}
use Rattle.plugin_options.proofs.RefusalLemmas.{malformed, value_refused}
use Rattle.plug_end.specs.UntilWords.{until, until_rows}
use Rattle.plug_end.proofs.until_words.until_settings.Goals as goal

pub returns-in_err-number-3-clause-reads : goal.returns-in_err-number-3-clause-reads
returns-in_err-number-3-clause-reads c =
    value_refused until c.args.found.now _ _ _ c.from_residual-in_err-number-3.ensures.1 c.in_err-number-3.ensures.reads (sym c.is_number_given.ensures ∙ c.if-not-is_number_given.false)
    (malformed until_rows c.args.found.now 2 _ refl)

pub returns-in_err-number-4-clause-reads : goal.returns-in_err-number-4-clause-reads
returns-in_err-number-4-clause-reads c =
    value_refused until c.args.found.now _ _ _ c.from_residual-in_err-number-4.ensures.1 c.in_err-number-4.ensures.reads (sym c.is_number_given.ensures ∙ c.if-not-is_number_given.false)
    (malformed until_rows c.args.found.now 3 _ refl)

pub returns-in_err-number-5-clause-reads : goal.returns-in_err-number-5-clause-reads
returns-in_err-number-5-clause-reads c =
    value_refused until c.args.found.now _ _ _ c.from_residual-in_err-number-5.ensures.1 c.in_err-number-5.ensures.reads (sym c.is_number_given.ensures ∙ c.if-not-is_number_given.false)
    (malformed until_rows c.args.found.now 4 _ refl)
