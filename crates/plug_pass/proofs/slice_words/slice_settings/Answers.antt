use Rattle.std.proofs.Common.{◌≡◌, Bool, List, true, false, not, cond, Option, None, Some, ap, ap₂, refl, sym, ◌∙◌}
use Rattle.clap.specs.Walk.{Row}
use Rattle.plugin_options.specs.Options.{are_well_formed}
use Rattle.plugin_options.specs.OptionTable.{first_broken, tests_of_parsed}
use Rattle.plugin_options.specs.declared.words_rule.WordsRule.{WordsRule}
use Rattle.plugin_options.specs.declared.words_rule.WordsRule.TheVariants.{Conflict, Missing, Value}
use Rattle.plugin_options.proofs.RefusalLemmas.{all_true, malformed, nothing_broken, value_refused}
use Rattle.plug_pass.specs.SliceSettings.{slice_together}
use Rattle.plug_pass.specs.SliceWords.{slice, slice_rows, slice_settings}
use Rattle.plug_pass.specs.declared.slice_conf.SliceConf.{SliceConf}
use Rattle.plug_pass.proofs.slice_words.slice_settings.Goals as goal

-- all is given that has to be, and each value has its form, but they do not go together
not_together : (found : List Row) → slice.has_needed found ≡ true → are_well_formed slice_rows found ≡ true → slice_together (slice_settings found) ≡ false
    → first_broken (tests_of_parsed slice found) ≡ (let r : Option WordsRule = Some Conflict in r)
not_together found needed formed together =
    ap₂ (λ (a b : Bool). cond (not a) (Some Missing) (cond (not b) (Some Value) (cond (not (slice_together (slice_settings found))) (Some Conflict) None))) needed formed
    ∙ ap (λ (c : Bool). cond (not c) (Some Conflict) None) together

pub returns-in_err-pass-clause-reads : goal.returns-in_err-pass-clause-reads
returns-in_err-pass-clause-reads c =
    value_refused slice c.args.found.now _ _ _ c.from_residual-in_err-pass.ensures.1 c.in_err-pass.ensures.reads (sym c.is_number_given.ensures ∙ c.if-not-is_number_given.false)
    (malformed slice_rows c.args.found.now 2 _ refl)

pub returns-in_err-stop-clause-reads : goal.returns-in_err-stop-clause-reads
returns-in_err-stop-clause-reads c =
    value_refused slice c.args.found.now _ _ _ c.from_residual-in_err-stop.ensures.1 c.in_err-stop.ensures.reads (sym c.is_number_given.ensures ∙ c.if-not-is_number_given.false)
    (malformed slice_rows c.args.found.now 3 _ refl)

pub returns-in_err-pcr_pid-clause-reads : goal.returns-in_err-pcr_pid-clause-reads
returns-in_err-pcr_pid-clause-reads c =
    value_refused slice c.args.found.now _ _ _ c.from_residual-in_err-pcr_pid.ensures.1 c.in_err-pcr_pid.ensures.reads (sym c.is_number_given.ensures ∙ c.if-not-is_number_given.false)
    (malformed slice_rows c.args.found.now 5 _ refl)

pub returns-then-not-goes_together-clause-reads : goal.returns-then-not-goes_together-clause-reads
returns-then-not-goes_together-clause-reads c =
    let conf : SliceConf = record {
      drop = c.in_ok-drop.drop;
      null = c.in_ok-null.null;
      pass = c.in_ok-pass.pass;
      stop = c.in_ok-stop.stop;
      milliseconds = c.has_flag.result;
      pcr_pid = c.in_ok-pcr_pid.pcr_pid;
    } in
    let same : conf ≡ slice_settings c.args.found.now =
    cc (c.in_ok-drop.ensures.reads.1, c.in_ok-null.ensures.reads.1, c.in_ok-pass.ensures.reads.1, c.in_ok-stop.ensures.reads.1, c.has_flag.ensures, c.in_ok-pcr_pid.ensures.reads.1) in
    not_together c.args.found.now (sym c.is_number_given.ensures ∙ c.if-not-is_number_given.false)
    (all_true _ _ c.in_ok-drop.ensures.reads.0 (all_true _ _ c.in_ok-null.ensures.reads.0 (all_true _ _ c.in_ok-pass.ensures.reads.0
    (all_true _ _ c.in_ok-stop.ensures.reads.0 (all_true _ _ c.in_ok-pcr_pid.ensures.reads.0 refl)))))
    (ap slice_together (sym same) ∙ (sym c.goes_together.ensures ∙ c.if-not-goes_together.true))

pub returns-clause-reads : goal.returns-clause-reads
returns-clause-reads c =
    let conf : SliceConf = record {
      drop = c.in_ok-drop.drop;
      null = c.in_ok-null.null;
      pass = c.in_ok-pass.pass;
      stop = c.in_ok-stop.stop;
      milliseconds = c.has_flag.result;
      pcr_pid = c.in_ok-pcr_pid.pcr_pid;
    } in
    let same : conf ≡ slice_settings c.args.found.now =
    cc (c.in_ok-drop.ensures.reads.1, c.in_ok-null.ensures.reads.1, c.in_ok-pass.ensures.reads.1, c.in_ok-stop.ensures.reads.1, c.has_flag.ensures, c.in_ok-pcr_pid.ensures.reads.1) in (
      nothing_broken slice c.args.found.now (sym c.is_number_given.ensures ∙ c.if-not-is_number_given.false)
          (all_true _ _ c.in_ok-drop.ensures.reads.0 (all_true _ _ c.in_ok-null.ensures.reads.0 (all_true _ _ c.in_ok-pass.ensures.reads.0
          (all_true _ _ c.in_ok-stop.ensures.reads.0 (all_true _ _ c.in_ok-pcr_pid.ensures.reads.0 refl)))))
          (ap slice_together (sym same) ∙ (sym c.goes_together.ensures ∙ c.if-not-goes_together.false)),
      same,
    )
