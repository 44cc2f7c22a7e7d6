use Rattle.std.proofs.Common.{ap, refl, option_to_list, ◌∙◌}
use Rattle.monitor_services.proofs.Naming.{place-of}
use Rattle.monitor_services.specs.declared.pid_kind.PidKind.TheVariants.{Component}
use Rattle.monitor_tables.specs.TableKeys.{pat_key}
use Rattle.monitor_priorities.specs.PriorityErrors.{pat_kind}
use Rattle.monitor_priorities.specs.RowErrors.{counter_error}
use Rattle.monitor_priorities.proofs.Chaining.{scrambled-told, told-five, told-kind, told-on}
use Rattle.monitor_priorities.proofs.first_rows.FirstRows.meet.Goals as goal

pub returns-clause-stands : goal.returns-clause-stands
returns-clause-stands c = λ gap pcr_pid history labels has span_is forced. record {
  pat = record {
    kind_is = c.meet.ensures.kind ∙ has.pat.kind_is;
    row_is = c.in_ok-meet.ensures.stands (pat_key pcr_pid) history labels has.pat.row_is span_is refl;
  };
  counters = c.meet-counter.ensures.stands history labels has.counters;
  pmts = c.in_ok-meet-2.ensures.stands pcr_pid history labels has.pmts span_is forced;
  components = c.in_ok-meet-3.ensures.stands Component gap pcr_pid history labels has.components span_is forced;
}

pub returns-clause-tells : goal.returns-clause-tells
returns-clause-tells c = λ gap pcr_pid history has span_is forced.
    let here = place-of c.args.span.now pcr_pid history c.args.packet.now span_is in
    told-five c.args.errors.now.items _ _ _ _ _ _ _ _ _ _
    (told-kind (pat_key pcr_pid) history c.args.packet.now _ _ _ pat_kind has.pat.kind_is (c.in_ok-meet.ensures.tells (pat_key pcr_pid) history has.pat.row_is span_is refl))
    (scrambled-told history c.args.packet.now _ _ _ _ here c.is_scrambled_pat-is_wrong.ensures c.in_ok-tell_if.ensures)
    (told-on counter_error _ _ _ _ _ _ _ _ here c.pid.ensures.field (ap option_to_list (c.meet-counter.ensures.tells history has.counters)) c.in_ok-tell_counter.ensures)
    (c.in_ok-meet-2.ensures.tells pcr_pid history has.pmts span_is forced)
    (c.in_ok-meet-3.ensures.tells Component gap pcr_pid history has.components span_is forced)
