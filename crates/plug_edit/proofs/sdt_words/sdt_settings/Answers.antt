use Rattle.std.proofs.Common.{◌≡◌, ◌∙◌, ap, refl, sym}
use Rattle.plug_edit.specs.SdtSettings.{sdt_together}
use Rattle.plug_edit.specs.SdtWords.{sdt, sdt_rows, sdt_settings}
use Rattle.plug_edit.specs.declared.sdt_conf.EditSdtConf.{EditSdtConf}
use Rattle.plug_edit.proofs.WordsLemmas.{conflict_broken}
use Rattle.plugin_options.proofs.RefusalLemmas.{all_true, malformed, nothing_broken, value_refused}
use Rattle.plug_edit.proofs.sdt_words.sdt_settings.Goals as goal

pub returns-in_err-service-clause-reads : goal.returns-in_err-service-clause-reads
returns-in_err-service-clause-reads c =
    value_refused sdt c.args.found.now _ _ _ c.from_residual.ensures.1 c.in_err-service.ensures.reads refl
    (malformed sdt_rows c.args.found.now 1 _ refl)

pub returns-in_err-service_type-clause-reads : goal.returns-in_err-service_type-clause-reads
returns-in_err-service_type-clause-reads c =
    value_refused sdt c.args.found.now _ _ _ c.from_residual-in_err-service_type.ensures.1 c.in_err-service_type.ensures.reads refl
    (malformed sdt_rows c.args.found.now 4 _ refl)

pub returns-in_err-running_status-clause-reads : goal.returns-in_err-running_status-clause-reads
returns-in_err-running_status-clause-reads c =
    value_refused sdt c.args.found.now _ _ _ c.from_residual-in_err-running_status.ensures.1 c.in_err-running_status.ensures.reads refl
    (malformed sdt_rows c.args.found.now 5 _ refl)

pub returns-in_err-free_ca_mode-clause-reads : goal.returns-in_err-free_ca_mode-clause-reads
returns-in_err-free_ca_mode-clause-reads c =
    value_refused sdt c.args.found.now _ _ _ c.from_residual-in_err-free_ca_mode.ensures.1 c.in_err-free_ca_mode.ensures.reads refl
    (malformed sdt_rows c.args.found.now 6 _ refl)

pub returns-in_err-new_version-clause-reads : goal.returns-in_err-new_version-clause-reads
returns-in_err-new_version-clause-reads c =
    value_refused sdt c.args.found.now _ _ _ c.from_residual-in_err-new_version.ensures.1 c.in_err-new_version.ensures.reads refl
    (malformed sdt_rows c.args.found.now 7 _ refl)

pub returns-in_err-remove_service-clause-reads : goal.returns-in_err-remove_service-clause-reads
returns-in_err-remove_service-clause-reads c =
    value_refused sdt c.args.found.now _ _ _ c.from_residual-in_err-remove_service.ensures.1 c.in_err-remove_service.ensures.reads refl
    (malformed sdt_rows c.args.found.now 0 _ refl)

pub returns-then-not-goes_together-clause-reads : goal.returns-then-not-goes_together-clause-reads
returns-then-not-goes_together-clause-reads c =
    let conf : EditSdtConf = record { remove_service = c.in_ok-remove_service.remove_service; service = c.in_ok-service.service; name = c.in_ok-name.name; provider = c.in_ok-provider.provider; service_type = c.in_ok-service_type.service_type; running_status = c.in_ok-running_status.running_status; free_ca_mode = c.in_ok-free_ca_mode.free_ca_mode; new_version = c.in_ok-new_version.new_version; increment_version = c.has_flag.result } in
    let same : conf ≡ sdt_settings c.args.found.now = cc (c.in_ok-remove_service.ensures.reads.1, c.in_ok-service.ensures.reads.1, c.in_ok-name.ensures.reads, c.in_ok-provider.ensures.reads, c.in_ok-service_type.ensures.reads.1, c.in_ok-running_status.ensures.reads.1, c.in_ok-free_ca_mode.ensures.reads.1, c.in_ok-new_version.ensures.reads.1, c.has_flag.ensures) in
    conflict_broken sdt c.args.found.now refl
    (all_true _ _ c.in_ok-remove_service.ensures.reads.0 (all_true _ _ c.in_ok-service.ensures.reads.0 (all_true _ _ c.in_ok-name.ensures.formed (all_true _ _ c.in_ok-provider.ensures.formed (all_true _ _ c.in_ok-service_type.ensures.reads.0 (all_true _ _ c.in_ok-running_status.ensures.reads.0 (all_true _ _ c.in_ok-free_ca_mode.ensures.reads.0 (all_true _ _ c.in_ok-new_version.ensures.reads.0 refl))))))))
    (ap sdt_together (sym same) ∙ (sym c.goes_together.ensures ∙ c.if-not-goes_together.true))

pub returns-clause-reads : goal.returns-clause-reads
returns-clause-reads c =
    let conf : EditSdtConf = record { remove_service = c.in_ok-remove_service.remove_service; service = c.in_ok-service.service; name = c.in_ok-name.name; provider = c.in_ok-provider.provider; service_type = c.in_ok-service_type.service_type; running_status = c.in_ok-running_status.running_status; free_ca_mode = c.in_ok-free_ca_mode.free_ca_mode; new_version = c.in_ok-new_version.new_version; increment_version = c.has_flag.result } in
    let same : conf ≡ sdt_settings c.args.found.now = cc (c.in_ok-remove_service.ensures.reads.1, c.in_ok-service.ensures.reads.1, c.in_ok-name.ensures.reads, c.in_ok-provider.ensures.reads, c.in_ok-service_type.ensures.reads.1, c.in_ok-running_status.ensures.reads.1, c.in_ok-free_ca_mode.ensures.reads.1, c.in_ok-new_version.ensures.reads.1, c.has_flag.ensures) in (
      nothing_broken sdt c.args.found.now refl
          (all_true _ _ c.in_ok-remove_service.ensures.reads.0 (all_true _ _ c.in_ok-service.ensures.reads.0 (all_true _ _ c.in_ok-name.ensures.formed (all_true _ _ c.in_ok-provider.ensures.formed (all_true _ _ c.in_ok-service_type.ensures.reads.0 (all_true _ _ c.in_ok-running_status.ensures.reads.0 (all_true _ _ c.in_ok-free_ca_mode.ensures.reads.0 (all_true _ _ c.in_ok-new_version.ensures.reads.0 refl))))))))
          (ap sdt_together (sym same) ∙ (sym c.goes_together.ensures ∙ c.if-not-goes_together.false)),
      same,
    )
