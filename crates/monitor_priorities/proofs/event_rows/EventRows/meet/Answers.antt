use Rattle.std.proofs.Common.{ap, sym, subst, ◌∙◌}
use Rattle.ts_packet.specs.Cells.{live_packets}
use Rattle.monitor_lines.specs.declared.indicator.Indicator.TheVariants.{Eit}
use Rattle.monitor_services.proofs.Naming.{live-more, place-of, told-then}
use Rattle.monitor_tables.specs.ReaderStands.{HasRead}
use Rattle.monitor_tables.specs.TableIds.{strangers_in, strangers_on}
use Rattle.monitor_priorities.specs.RowErrors.{table_error}
use Rattle.monitor_priorities.proofs.Chaining.{told-at}
use Rattle.monitor_priorities.proofs.event_rows.EventRows.meet.Goals as goal

pub returns-clause-stands : goal.returns-clause-stands
returns-clause-stands c = λ pcr_pid history labels w span_is.
    let sections = c.in_ok-sections.ensures.gives (live_packets history) w.has_read in
    record {
      events = c.in_ok-meet.ensures.stands pcr_pid history labels w.events span_is (c.deref-2.ensures.value ∙ sections);
      has_read = subst (HasRead c.read_on.new.reader 18) (sym (live-more history c.args.packet.now labels)) (c.in_ok-sections.ensures.stands (live_packets history) w.has_read);
    }

pub returns-clause-tells : goal.returns-clause-tells
returns-clause-tells c = λ pcr_pid history w span_is.
    let here = place-of c.args.span.now pcr_pid history c.args.packet.now span_is in
    let sections = c.in_ok-sections.ensures.gives (live_packets history) w.has_read in
    told-then c.args.errors.now.items _ _ _ _
    (c.in_ok-meet.ensures.tells pcr_pid history w.events span_is (c.deref-2.ensures.value ∙ sections))
    (told-at (table_error Eit) _ _ c.args.span.now.at _ _ (strangers_on 18 (live_packets history) c.args.packet.now) here
    (c.deref-3.ensures.value ∙ (c.in_ok-others.ensures ∙ ap (strangers_in 18) (c.deref.ensures.value ∙ sections)))
    c.in_ok-tell_tables.ensures)
