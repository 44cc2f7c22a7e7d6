use Rattle.std.proofs.Common.{◌∙◌, ap₂, refl, sym}
use Rattle.plug_edit.specs.Versions.{versions_agree}
use Rattle.plug_edit.specs.PatWords.{pat, pat_rows}
use Rattle.plugin_options.proofs.RefusalLemmas.{all_true, malformed, nothing_broken, value_refused}
use Rattle.plug_edit.proofs.WordsLemmas.{conflict_broken}
use Rattle.plug_edit.proofs.pat_words.pat_settings.Goals as goal

pub returns-in_err-ts_id-clause-reads : goal.returns-in_err-ts_id-clause-reads
returns-in_err-ts_id-clause-reads c =
    value_refused pat c.args.found.now _ _ _ c.from_residual.ensures.1 c.in_err-ts_id.ensures.reads refl
    (malformed pat_rows c.args.found.now 2 _ refl)

pub returns-in_err-nit-clause-reads : goal.returns-in_err-nit-clause-reads
returns-in_err-nit-clause-reads c =
    value_refused pat c.args.found.now _ _ _ c.from_residual-in_err-nit.ensures.1 c.in_err-nit.ensures.reads refl
    (malformed pat_rows c.args.found.now 3 _ refl)

pub returns-in_err-new_version-clause-reads : goal.returns-in_err-new_version-clause-reads
returns-in_err-new_version-clause-reads c =
    value_refused pat c.args.found.now _ _ _ c.from_residual-in_err-new_version.ensures.1 c.in_err-new_version.ensures.reads refl
    (malformed pat_rows c.args.found.now 4 _ refl)

pub returns-in_err-add_service-clause-reads : goal.returns-in_err-add_service-clause-reads
returns-in_err-add_service-clause-reads c =
    value_refused pat c.args.found.now _ _ _ c.from_residual-in_err-add_service.ensures.1 c.in_err-add_service.ensures.reads refl
    (malformed pat_rows c.args.found.now 0 _ refl)

pub returns-in_err-remove_service-clause-reads : goal.returns-in_err-remove_service-clause-reads
returns-in_err-remove_service-clause-reads c =
    value_refused pat c.args.found.now _ _ _ c.from_residual-in_err-remove_service.ensures.1 c.in_err-remove_service.ensures.reads refl
    (malformed pat_rows c.args.found.now 1 _ refl)

pub returns-then-not-versions_agree-clause-reads : goal.returns-then-not-versions_agree-clause-reads
returns-then-not-versions_agree-clause-reads c =
    conflict_broken pat c.args.found.now refl
    (all_true _ _ c.in_ok-add_service.ensures.reads.0 (all_true _ _ c.in_ok-remove_service.ensures.reads.0 (all_true _ _ c.in_ok-ts_id.ensures.reads.0 (all_true _ _ c.in_ok-nit.ensures.reads.0 (all_true _ _ c.in_ok-new_version.ensures.reads.0 refl)))))
    (ap₂ versions_agree (sym c.in_ok-new_version.ensures.reads.1) (sym c.has_flag-increment_version.ensures) ∙ (sym c.versions_agree.ensures ∙ c.if-not-versions_agree.true))

pub returns-clause-reads : goal.returns-clause-reads
returns-clause-reads c = (
  nothing_broken pat c.args.found.now refl
      (all_true _ _ c.in_ok-add_service.ensures.reads.0 (all_true _ _ c.in_ok-remove_service.ensures.reads.0 (all_true _ _ c.in_ok-ts_id.ensures.reads.0 (all_true _ _ c.in_ok-nit.ensures.reads.0 (all_true _ _ c.in_ok-new_version.ensures.reads.0 refl)))))
      (ap₂ versions_agree (sym c.in_ok-new_version.ensures.reads.1) (sym c.has_flag-increment_version.ensures) ∙ (sym c.versions_agree.ensures ∙ c.if-not-versions_agree.false)),
  cc (c.in_ok-add_service.ensures.reads.1, c.in_ok-remove_service.ensures.reads.1, c.in_ok-ts_id.ensures.reads.1, c.in_ok-nit.ensures.reads.1, c.in_ok-new_version.ensures.reads.1, c.has_flag-increment_version.ensures),
)
