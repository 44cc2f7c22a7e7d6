use Rattle.std.proofs.Common.{◌∙◌, ◌++◌, ap₂, refl, sym}
use Rattle.plug_edit.specs.PmtWords.{change_rows, component_rows, last_rows, place_rows, pmt, pmt_rows}
use Rattle.plugin_options.proofs.RefusalLemmas.{all_true, malformed, nothing_broken, value_refused}
use Rattle.plug_edit.specs.Versions.{versions_agree}
use Rattle.plug_edit.proofs.PmtWordsLemmas.{same_conf, together_versions}
use Rattle.plug_edit.proofs.WordsLemmas.{both_formed, conflict_broken}
use Rattle.plug_edit.proofs.pmt_words.pmt_settings.Goals as goal

pub returns-in_err-place-clause-reads : goal.returns-in_err-place-clause-reads
returns-in_err-place-clause-reads c =
    value_refused pmt c.args.found.now _ _ _ c.from_residual.ensures.1 c.in_err-place.ensures.reads (sym c.has_place.ensures ∙ c.if-not-has_place.false) (λ e. e)

pub returns-in_err-pcr_pid-clause-reads : goal.returns-in_err-pcr_pid-clause-reads
returns-in_err-pcr_pid-clause-reads c =
    value_refused pmt c.args.found.now _ _ _ c.from_residual-in_err-pcr_pid.ensures.1 c.in_err-pcr_pid.ensures.reads (sym c.has_place.ensures ∙ c.if-not-has_place.false)
    (malformed pmt_rows c.args.found.now 5 _ refl)

pub returns-in_err-new_version-clause-reads : goal.returns-in_err-new_version-clause-reads
returns-in_err-new_version-clause-reads c =
    value_refused pmt c.args.found.now _ _ _ c.from_residual-in_err-new_version.ensures.1 c.in_err-new_version.ensures.reads (sym c.has_place.ensures ∙ c.if-not-has_place.false)
    (malformed pmt_rows c.args.found.now 14 _ refl)

pub returns-in_err-add_pid-clause-reads : goal.returns-in_err-add_pid-clause-reads
returns-in_err-add_pid-clause-reads c =
    value_refused pmt c.args.found.now _ _ _ c.from_residual-in_err-add_pid.ensures.1 c.in_err-add_pid.ensures.reads (sym c.has_place.ensures ∙ c.if-not-has_place.false)
    (malformed pmt_rows c.args.found.now 2 _ refl)

pub returns-in_err-remove_pid-clause-reads : goal.returns-in_err-remove_pid-clause-reads
returns-in_err-remove_pid-clause-reads c =
    value_refused pmt c.args.found.now _ _ _ c.from_residual-in_err-remove_pid.ensures.1 c.in_err-remove_pid.ensures.reads (sym c.has_place.ensures ∙ c.if-not-has_place.false)
    (malformed pmt_rows c.args.found.now 3 _ refl)

pub returns-in_err-move_pid-clause-reads : goal.returns-in_err-move_pid-clause-reads
returns-in_err-move_pid-clause-reads c =
    value_refused pmt c.args.found.now _ _ _ c.from_residual-in_err-move_pid.ensures.1 c.in_err-move_pid.ensures.reads (sym c.has_place.ensures ∙ c.if-not-has_place.false)
    (malformed pmt_rows c.args.found.now 4 _ refl)

pub returns-in_err-changes-clause-reads : goal.returns-in_err-changes-clause-reads
returns-in_err-changes-clause-reads c =
    value_refused pmt c.args.found.now _ _ _ c.from_residual-in_err-changes.ensures.1 c.in_err-changes.ensures.reads (sym c.has_place.ensures ∙ c.if-not-has_place.false) (λ e. e)

pub returns-then-not-is_together-clause-reads : goal.returns-then-not-is_together-clause-reads
returns-then-not-is_together-clause-reads c =
    conflict_broken pmt c.args.found.now (sym c.has_place.ensures ∙ c.if-not-has_place.false)
    (both_formed place_rows (component_rows ++ (change_rows ++ last_rows)) c.args.found.now c.in_ok-place.ensures.reads.0 (all_true _ _ c.in_ok-add_pid.ensures.reads.0 (all_true _ _ c.in_ok-remove_pid.ensures.reads.0 (all_true _ _ c.in_ok-move_pid.ensures.reads.0 (all_true _ _ c.in_ok-pcr_pid.ensures.reads.0 (both_formed change_rows last_rows c.args.found.now c.in_ok-changes.ensures.reads.0 (all_true _ _ c.in_ok-new_version.ensures.reads.0 refl)))))))
    (sym c.is_together.ensures ∙ c.if-not-is_together.true)

pub returns-clause-reads : goal.returns-clause-reads
returns-clause-reads c = (
  nothing_broken pmt c.args.found.now (sym c.has_place.ensures ∙ c.if-not-has_place.false)
      (both_formed place_rows (component_rows ++ (change_rows ++ last_rows)) c.args.found.now c.in_ok-place.ensures.reads.0 (all_true _ _ c.in_ok-add_pid.ensures.reads.0 (all_true _ _ c.in_ok-remove_pid.ensures.reads.0 (all_true _ _ c.in_ok-move_pid.ensures.reads.0 (all_true _ _ c.in_ok-pcr_pid.ensures.reads.0 (both_formed change_rows last_rows c.args.found.now c.in_ok-changes.ensures.reads.0 (all_true _ _ c.in_ok-new_version.ensures.reads.0 refl)))))))
      (sym c.is_together.ensures ∙ c.if-not-is_together.false),
  same_conf c.in_ok-place.ensures.reads.1 c.in_ok-add_pid.ensures.reads.1 c.in_ok-remove_pid.ensures.reads.1 c.in_ok-move_pid.ensures.reads.1 c.in_ok-pcr_pid.ensures.reads.1 c.in_ok-changes.ensures.reads.1 c.has_flag.ensures c.has_flag-2.ensures c.in_ok-new_version.ensures.reads.1 c.has_flag-3.ensures,
)

pub is_together-requires : goal.is_together-requires
is_together-requires c = c.in_ok-new_version.ensures.reads.1

pub returns-clause-valid : goal.returns-clause-valid
returns-clause-valid c = record {
  place = c.in_ok-place.ensures.valid;
  added = c.in_ok-add_pid.ensures.valid;
  removed = c.in_ok-remove_pid.ensures.range;
  moved = c.in_ok-move_pid.ensures.valid;
  clock = c.in_ok-pcr_pid.ensures.range;
  changes = c.in_ok-changes.ensures.valid;
  version = c.in_ok-new_version.ensures.range;
  agree = ap₂ versions_agree c.in_ok-new_version.ensures.reads.1 c.has_flag-3.ensures ∙ together_versions c.args.found.now (sym c.is_together.ensures ∙ c.if-not-is_together.false);
}
