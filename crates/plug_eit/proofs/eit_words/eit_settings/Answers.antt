use Rattle.std.proofs.Common.{◌≡◌, ◌∙◌, ap, refl, sym, unwrap_or}
use Rattle.named_services.specs.declared.service_word.ServiceWord.TheVariants.{Number}
use Rattle.plug_eit.specs.EitSettings.{eit_together}
use Rattle.plug_eit.specs.EitWords.{eit, eit_rows, eit_settings}
use Rattle.plug_eit.specs.declared.eit_conf.EitConf.{EitConf}
use Rattle.plug_eit.proofs.WordsLemmas.{conflict_broken, same_fields}
use Rattle.plugin_options.proofs.RefusalLemmas.{all_true, malformed, nothing_broken, value_refused}
use Rattle.plug_eit.proofs.eit_words.eit_settings.Goals as goal

pub returns-in_err-shift-clause-reads : goal.returns-in_err-shift-clause-reads
returns-in_err-shift-clause-reads c =
    value_refused eit c.args.found.now _ _ _ c.from_residual-in_err-shift.ensures.1 c.in_err-shift.ensures.reads (sym c.is_needed_given.ensures ∙ c.if-not-is_needed_given.false)
    (malformed eit_rows c.args.found.now 4 _ refl)

pub returns-in_err-running_status-clause-reads : goal.returns-in_err-running_status-clause-reads
returns-in_err-running_status-clause-reads c =
    value_refused eit c.args.found.now _ _ _ c.from_residual-in_err-running_status.ensures.1 c.in_err-running_status.ensures.reads (sym c.is_needed_given.ensures ∙ c.if-not-is_needed_given.false)
    (malformed eit_rows c.args.found.now 5 _ refl)

pub returns-in_err-free_ca_mode-clause-reads : goal.returns-in_err-free_ca_mode-clause-reads
returns-in_err-free_ca_mode-clause-reads c =
    value_refused eit c.args.found.now _ _ _ c.from_residual-in_err-free_ca_mode.ensures.1 c.in_err-free_ca_mode.ensures.reads (sym c.is_needed_given.ensures ∙ c.if-not-is_needed_given.false)
    (malformed eit_rows c.args.found.now 6 _ refl)

pub returns-then-not-goes_together-clause-reads : goal.returns-then-not-goes_together-clause-reads
returns-then-not-goes_together-clause-reads c =
    let conf : EitConf = record { service = c.in-Some.service; event = c.in_ok-event.event; name = c.in_ok-name.name; text = c.in_ok-text.text; shift = c.in_ok-shift.shift; running_status = c.in_ok-running_status.running_status; free_ca_mode = c.in_ok-free_ca_mode.free_ca_mode; remove = c.has_flag.result } in
    let service : c.in-Some.service ≡ (eit_settings c.args.found.now).service = ap (λ o. unwrap_or o (Number 0)) (sym c.in-Some.is ∙ c.in_ok-service.ensures.reads.1) in
    let same : conf ≡ eit_settings c.args.found.now = same_fields service c.in_ok-event.ensures.reads.1 c.in_ok-name.ensures.reads c.in_ok-text.ensures.reads c.in_ok-shift.ensures.reads.1 c.in_ok-running_status.ensures.reads.1 c.in_ok-free_ca_mode.ensures.reads.1 c.has_flag.ensures in
    conflict_broken eit c.args.found.now (sym c.is_needed_given.ensures ∙ c.if-not-is_needed_given.false)
    (all_true _ _ c.in_ok-service.ensures.reads.0 (all_true _ _ c.in_ok-event.ensures.reads.0 (all_true _ _ c.in_ok-name.ensures.formed (all_true _ _ c.in_ok-text.ensures.formed (all_true _ _ c.in_ok-shift.ensures.reads.0 (all_true _ _ c.in_ok-running_status.ensures.reads.0 (all_true _ _ c.in_ok-free_ca_mode.ensures.reads.0 refl)))))))
    (ap eit_together (sym same) ∙ (sym c.goes_together.ensures ∙ c.if-not-goes_together.true))

pub returns-clause-reads : goal.returns-clause-reads
returns-clause-reads c =
    let conf : EitConf = record { service = c.in-Some.service; event = c.in_ok-event.event; name = c.in_ok-name.name; text = c.in_ok-text.text; shift = c.in_ok-shift.shift; running_status = c.in_ok-running_status.running_status; free_ca_mode = c.in_ok-free_ca_mode.free_ca_mode; remove = c.has_flag.result } in
    let service : c.in-Some.service ≡ (eit_settings c.args.found.now).service = ap (λ o. unwrap_or o (Number 0)) (sym c.in-Some.is ∙ c.in_ok-service.ensures.reads.1) in
    let same : conf ≡ eit_settings c.args.found.now = same_fields service c.in_ok-event.ensures.reads.1 c.in_ok-name.ensures.reads c.in_ok-text.ensures.reads c.in_ok-shift.ensures.reads.1 c.in_ok-running_status.ensures.reads.1 c.in_ok-free_ca_mode.ensures.reads.1 c.has_flag.ensures in (
      nothing_broken eit c.args.found.now (sym c.is_needed_given.ensures ∙ c.if-not-is_needed_given.false)
          (all_true _ _ c.in_ok-service.ensures.reads.0 (all_true _ _ c.in_ok-event.ensures.reads.0 (all_true _ _ c.in_ok-name.ensures.formed (all_true _ _ c.in_ok-text.ensures.formed (all_true _ _ c.in_ok-shift.ensures.reads.0 (all_true _ _ c.in_ok-running_status.ensures.reads.0 (all_true _ _ c.in_ok-free_ca_mode.ensures.reads.0 refl)))))))
          (ap eit_together (sym same) ∙ (sym c.goes_together.ensures ∙ c.if-not-goes_together.false)),
      same,
    )
