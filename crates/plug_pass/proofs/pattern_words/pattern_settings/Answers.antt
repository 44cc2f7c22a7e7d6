use Rattle.std.proofs.Common.{◌∙◌, refl, sym}
use Rattle.plug_pass.specs.PatternWords.{pattern, pattern_rows}
use Rattle.plugin_options.proofs.RefusalLemmas.{all_true, malformed, nothing_broken, value_refused}
use Rattle.plug_pass.proofs.pattern_words.pattern_settings.Goals as goal

pub returns-in_err-offset_pusi-clause-reads : goal.returns-in_err-offset_pusi-clause-reads
returns-in_err-offset_pusi-clause-reads c =
    value_refused pattern c.args.found.now _ _ _ c.from_residual.ensures.1 c.in_err-offset_pusi.ensures.reads (sym c.has_value.ensures ∙ c.if-not-has_value.false)
    (malformed pattern_rows c.args.found.now 2 _ refl)

pub returns-in_err-offset_non_pusi-clause-reads : goal.returns-in_err-offset_non_pusi-clause-reads
returns-in_err-offset_non_pusi-clause-reads c =
    value_refused pattern c.args.found.now _ _ _ c.from_residual-in_err-offset_non_pusi.ensures.1 c.in_err-offset_non_pusi.ensures.reads (sym c.has_value.ensures ∙ c.if-not-has_value.false)
    (malformed pattern_rows c.args.found.now 3 _ refl)

pub returns-clause-reads : goal.returns-clause-reads
returns-clause-reads c = (
  nothing_broken pattern c.args.found.now (sym c.has_value.ensures ∙ c.if-not-has_value.false)
      (all_true _ _ c.in_ok-operand.ensures.reads.0 (all_true _ _ c.in_ok-pid.ensures.reads.0 (all_true _ _ c.in_ok-offset_pusi.ensures.reads.0
      (all_true _ _ c.in_ok-offset_non_pusi.ensures.reads.0 refl))))
      refl,
  cc (c.in_ok-operand.ensures.reads.1, c.in_ok-pid.ensures.reads.1, c.in_ok-offset_pusi.ensures.reads.1, c.in_ok-offset_non_pusi.ensures.reads.1, c.has_flag.ensures),
)
