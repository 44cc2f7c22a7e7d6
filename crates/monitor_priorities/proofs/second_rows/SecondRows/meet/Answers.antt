use Rattle.std.proofs.Common.{ap, sym, subst, option_to_list, ◌∙◌, Option, ℕ}
use Rattle.monitor_pcrs.specs.LastPcrs.{HasRate}
use Rattle.monitor_pcrs.specs.PcrErrors.{pcr_error_on}
use Rattle.monitor_services.proofs.Naming.{place-of}
use Rattle.monitor_services.specs.declared.limits.TheConstants.{CLOCK_LIMIT}
use Rattle.monitor_services.specs.declared.pid_kind.PidKind.TheVariants.{Clock}
use Rattle.monitor_tables.specs.TableIds.{is_scrambled}
use Rattle.monitor_tables.specs.TableKeys.{cat_key}
use Rattle.monitor_priorities.specs.PriorityErrors.{cat_kind}
use Rattle.monitor_priorities.specs.RowErrors.{pcr_error}
use Rattle.monitor_priorities.proofs.Chaining.{told-kind, told-on, told-six, transport-told}
use Rattle.monitor_priorities.proofs.second_rows.SecondRows.meet.Goals as goal

pub returns-clause-stands : goal.returns-clause-stands
returns-clause-stands c = λ bitrate pcr_pid history labels has span_is forced.
    let here = place-of c.args.span.now pcr_pid history c.args.packet.now span_is in
    record {
      crcs = c.in_ok-meet.ensures.stands history labels has.crcs forced;
      clocks = c.in_ok-meet-2.ensures.stands Clock CLOCK_LIMIT pcr_pid history labels has.clocks span_is forced;
      rate_is = c.meet-step.ensures.rate ∙ has.rate_is;
      rate = subst HasRate (sym c.meet-step.ensures.rate) has.rate;
      steps = c.meet-step.ensures.stands history labels has.steps (sym here);
      stamps = c.in_ok-meet-3.ensures.stands pcr_pid history labels has.stamps span_is forced;
      scrambled = c.meet-is_due.ensures.stands pcr_pid is_scrambled history c.args.packet.now labels has.scrambled span_is c.is_scrambled-is_one.ensures;
      cat = record {
        kind_is = c.meet-4.ensures.kind ∙ has.cat.kind_is;
        row_is = c.in_ok-meet-4.ensures.stands (cat_key pcr_pid) history labels has.cat.row_is span_is
            (c.meet-is_due.ensures.tells pcr_pid is_scrambled history c.args.packet.now has.scrambled span_is c.is_scrambled-is_one.ensures);
      };
    }

pub returns-clause-tells : goal.returns-clause-tells
returns-clause-tells c = λ bitrate pcr_pid history has span_is forced.
    let here = place-of c.args.span.now pcr_pid history c.args.packet.now span_is in
    told-six c.args.errors.now.items _ _ _ _ _ _ _ _ _ _ _ _
    (transport-told history c.args.packet.now _ _ _ _ _ here c.pid-pid.ensures.field c.error_indicator-is_error.ensures c.in_ok-tell_if.ensures)
    (c.in_ok-meet.ensures.tells history has.crcs forced (sym here))
    (c.in_ok-meet-2.ensures.tells Clock CLOCK_LIMIT pcr_pid history has.clocks span_is forced)
    (told-on pcr_error _ _ _ _ _ _ _ _ here c.pid-pid.ensures.field
    (ap option_to_list (c.meet-step.ensures.tells history has.steps (sym here) ∙ ap (λ (rate : Option ℕ). pcr_error_on rate history c.args.packet.now) has.rate_is))
    c.in_ok-tell_step.ensures)
    (c.in_ok-meet-3.ensures.tells pcr_pid history has.stamps span_is forced)
    (told-kind (cat_key pcr_pid) history c.args.packet.now _ _ _ cat_kind has.cat.kind_is
    (c.in_ok-meet-4.ensures.tells (cat_key pcr_pid) history has.cat.row_is span_is
    (c.meet-is_due.ensures.tells pcr_pid is_scrambled history c.args.packet.now has.scrambled span_is c.is_scrambled-is_one.ensures)))
