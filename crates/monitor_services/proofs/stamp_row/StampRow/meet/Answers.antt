use Rattle.std.proofs.Common.{ap, sym, refl, length, ◌∙◌, Bool}
use Rattle.ts_packet.specs.Cells.{live_packets}
use Rattle.monitor_keys.specs.Looks.{is_look}
use Rattle.monitor_rows.specs.KeyRows.{has_number, row_gaps}
use Rattle.monitor_services.specs.PidErrors.{pid_if}
use Rattle.monitor_services.specs.StampErrors.{stamp_rule}
use Rattle.monitor_services.specs.declared.row_kind.RowKind.TheVariants.{Stamps}
use Rattle.monitor_services.proofs.Naming.{live-more, none-told, place-of, told-of}
use Rattle.monitor_services.proofs.Starting.{kept-started, quiet-stamps}
use Rattle.monitor_services.proofs.stamp_row.StampRow.meet.Goals as goal

pub returns-then-is_idle-clause-stands : goal.returns-then-is_idle-clause-stands
returns-then-is_idle-clause-stands c = λ pcr_pid history labels has span_is forced.
    quiet-stamps pcr_pid c.args.self.now history c.args.packet.now labels has (sym (ap is_look span_is) ∙ c.is_idle.ensures.no_look c.if-is_idle.true)
    (c.is_idle.ensures.same c.if-is_idle.true (live_packets history) forced) (sym c.is_stamp-occurs.ensures ∙ c.is_idle.ensures.none c.if-is_idle.true)
    c.a_packet_without_news_leaves_the_row.ensures.stands

pub returns-then-is_idle-clause-tells : goal.returns-then-is_idle-clause-tells
returns-then-is_idle-clause-tells c = λ pcr_pid history has span_is forced.
    none-told Stamps (length history) (row_gaps (stamp_rule pcr_pid) history c.args.packet.now) c.args.errors.now.items
    (c.a_packet_without_news_leaves_the_row.ensures.tells (stamp_rule pcr_pid) history c.args.packet.now
    (sym (ap is_look span_is) ∙ c.is_idle.ensures.no_look c.if-is_idle.true))

pub returns-clause-stands : goal.returns-clause-stands
returns-clause-stands c = λ pcr_pid history labels has span_is forced.
    let here = place-of c.args.span.now pcr_pid history c.args.packet.now span_is in
    let named = c.in_ok-rename.ensures pcr_pid history labels has here forced in
    record {
      keys_are = c.in_ok-gaps.ensures.stands (stamp_rule pcr_pid) history labels named.keys_named span_is
          (λ n. ap (λ (b : Bool). has_number (pid_if b c.args.packet.now) n) c.is_stamp-occurs.ensures);
      started = kept-started _ _ _ _ refl refl (live-more history c.args.packet.now labels) named.started;
    }

pub returns-clause-tells : goal.returns-clause-tells
returns-clause-tells c = λ pcr_pid history has span_is forced.
    let here = place-of c.args.span.now pcr_pid history c.args.packet.now span_is in
    let named = c.in_ok-rename.ensures pcr_pid history 0 has here forced in
    told-of Stamps c.args.span.now.at c.deref.result.now (row_gaps (stamp_rule pcr_pid) history c.args.packet.now) history c.args.errors.now.items
    c.add_gaps.new.errors.items here
    (c.deref.ensures.value
    ∙ c.in_ok-gaps.ensures.tells (stamp_rule pcr_pid) history 0 named.keys_named span_is
    (λ n. ap (λ (b : Bool). has_number (pid_if b c.args.packet.now) n) c.is_stamp-occurs.ensures))
    c.in_ok-add_gaps.ensures
