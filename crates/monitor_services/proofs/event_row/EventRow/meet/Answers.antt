use Rattle.std.proofs.Common.{ap, sym, subst, length, ◌∙◌, ℕ, List}
use Rattle.std.specs.List.{flat_map}
use Rattle.ts_packet.specs.Cells.{live_packets}
use Rattle.monitor_rows.specs.KeyRows.{has_number, row_gaps}
use Rattle.monitor_services.specs.CurrentSdt.{HasFedSdt}
use Rattle.monitor_services.specs.EventErrors.{event_rule, section_events}
use Rattle.monitor_services.specs.declared.row_kind.RowKind.TheVariants.{Events}
use Rattle.monitor_services.proofs.Naming.{live-more, none-told, place-of, told-of}
use Rattle.monitor_services.proofs.SdtFeeding.{quiet-events, unread}
use Rattle.monitor_services.proofs.event_row.EventRow.meet.Goals as goal

pub returns-then-is_idle-clause-stands : goal.returns-then-is_idle-clause-stands
returns-then-is_idle-clause-stands c = λ pcr_pid history labels has span_is are.
    quiet-events c.args.self.now pcr_pid history c.args.packet.now c.args.span.now c.args.sections.now has span_is are (sym c.is_idle.ensures ∙ c.if-is_idle.true) labels
    c.a_packet_without_news_leaves_the_row.ensures.stands c.uncounted_packets_change_nothing.ensures c.other_packets_complete_nothing.ensures

pub returns-then-is_idle-clause-tells : goal.returns-then-is_idle-clause-tells
returns-then-is_idle-clause-tells c = λ pcr_pid history has span_is are.
    none-told Events (length history) (row_gaps (event_rule pcr_pid) history c.args.packet.now) c.args.errors.now.items
    (c.a_packet_without_news_leaves_the_row.ensures.tells (event_rule pcr_pid) history c.args.packet.now
    (unread c.args.self.now pcr_pid history c.args.packet.now c.args.span.now c.args.sections.now has span_is are (sym c.is_idle.ensures ∙ c.if-is_idle.true)))

pub returns-clause-stands : goal.returns-clause-stands
returns-clause-stands c = λ pcr_pid history labels has span_is are.
    let here = place-of c.args.span.now pcr_pid history c.args.packet.now span_is in
    let fed = c.in_ok-feed.ensures (live_packets history) has.fed_are in
    record {
      keys_are = c.in_ok-gaps.ensures.stands (event_rule pcr_pid) history c.args.packet.now labels
          (c.in_ok-rename.ensures pcr_pid history labels has.keys_are here fed) span_is
          (λ n. ap (λ (ns : List ℕ). has_number ns n) (c.deref.ensures.value ∙ c.in_ok-came.ensures ∙ ap (flat_map section_events) are));
      fed_are = subst (HasFedSdt _) (sym (live-more history c.args.packet.now labels)) fed;
    }

pub returns-clause-tells : goal.returns-clause-tells
returns-clause-tells c = λ pcr_pid history has span_is are.
    let here = place-of c.args.span.now pcr_pid history c.args.packet.now span_is in
    let fed = c.in_ok-feed.ensures (live_packets history) has.fed_are in
    told-of Events c.args.span.now.at c.deref-2.result.now (row_gaps (event_rule pcr_pid) history c.args.packet.now) history c.args.errors.now.items
    c.add_gaps.new.errors.items here
    (c.deref-2.ensures.value
    ∙ c.in_ok-gaps.ensures.tells (event_rule pcr_pid) history c.args.packet.now 0
    (c.in_ok-rename.ensures pcr_pid history 0 has.keys_are here fed) span_is
    (λ n. ap (λ (ns : List ℕ). has_number ns n) (c.deref.ensures.value ∙ c.in_ok-came.ensures ∙ ap (flat_map section_events) are)))
    c.in_ok-add_gaps.ensures
