use Rattle.std.proofs.Common.{ap, sym, subst, length, ◌∙◌, ℕ, List}
use Rattle.ts_packet.specs.Cells.{live_packets}
use Rattle.plug_psi.specs.InForce.{follows}
use Rattle.monitor_keys.specs.Looks.{is_look}
use Rattle.monitor_rows.specs.KeyRows.{has_number, row_gaps}
use Rattle.monitor_services.specs.GapErrors.{gap_errors}
use Rattle.monitor_services.specs.PmtErrors.{pmt_rule, scrambled_errors}
use Rattle.monitor_services.specs.RowStands.{HaveRead}
use Rattle.monitor_services.specs.declared.row_kind.RowKind.TheVariants.{Pmts}
use Rattle.monitor_services.proofs.Naming.{live-more, none-scrambled, none-told, place-of, quiet-pmts, told-of, told-then}
use Rattle.monitor_services.proofs.pmt_row.PmtRow.meet.Goals as goal

pub returns-then-is_idle-clause-stands : goal.returns-then-is_idle-clause-stands
returns-then-is_idle-clause-stands c = λ pcr_pid history labels has span_is forced.
    let unfollowed = c.is_idle.ensures.unfollowed c.if-is_idle.true (live_packets history) forced in
    record {
      keys_are = quiet-pmts history c.args.packet.now labels (c.is_idle.ensures.same c.if-is_idle.true (live_packets history) forced)
          c.a_packet_without_news_leaves_the_row.ensures.stands pcr_pid c.args.self.now.keys has.keys_are
          (sym (ap is_look span_is) ∙ c.is_idle.ensures.no_look c.if-is_idle.true) unfollowed;
      have_read = subst (HaveRead c.args.self.now.readers) (sym (live-more history c.args.packet.now labels))
          (c.unfollowed_packets_change_nothing.ensures tt c.args.self.now.readers follows (live_packets history) c.args.packet.now has.have_read unfollowed);
    }

pub returns-then-is_idle-clause-tells : goal.returns-then-is_idle-clause-tells
returns-then-is_idle-clause-tells c = λ pcr_pid history has span_is forced.
    told-then c.args.errors.now.items (gap_errors Pmts (length history) (row_gaps (pmt_rule pcr_pid) history c.args.packet.now))
    (scrambled_errors history c.args.packet.now) c.args.errors.now.items c.args.errors.now.items
    (none-told Pmts (length history) (row_gaps (pmt_rule pcr_pid) history c.args.packet.now) c.args.errors.now.items
    (c.a_packet_without_news_leaves_the_row.ensures.tells (pmt_rule pcr_pid) history c.args.packet.now
    (sym (ap is_look span_is) ∙ c.is_idle.ensures.no_look c.if-is_idle.true)))
    (none-scrambled history c.args.packet.now c.args.errors.now.items (c.is_idle.ensures.unfollowed c.if-is_idle.true (live_packets history) forced))

pub returns-clause-stands : goal.returns-clause-stands
returns-clause-stands c = λ pcr_pid history labels has span_is forced.
    let here = place-of c.args.span.now pcr_pid history c.args.packet.now span_is in
    let came = c.in_ok-came.ensures.gives (live_packets history) has.have_read forced in
    record {
      keys_are = c.in_ok-gaps.ensures.stands (pmt_rule pcr_pid) history c.args.packet.now labels
          (c.in_ok-rename.ensures pcr_pid history labels has.keys_are here forced) span_is (λ n. ap (λ (ns : List ℕ). has_number ns n) (c.deref.ensures.value ∙ came));
      have_read = subst (HaveRead c.read.new.readers) (sym (live-more history c.args.packet.now labels))
          (c.in_ok-came.ensures.stands (live_packets history) has.have_read forced);
    }

pub returns-clause-tells : goal.returns-clause-tells
returns-clause-tells c = λ pcr_pid history has span_is forced.
    let here = place-of c.args.span.now pcr_pid history c.args.packet.now span_is in
    let came = c.in_ok-came.ensures.gives (live_packets history) has.have_read forced in
    told-then c.args.errors.now.items (gap_errors Pmts _ (row_gaps (pmt_rule pcr_pid) history c.args.packet.now)) (scrambled_errors history c.args.packet.now) _ _
    (told-of Pmts c.args.span.now.at c.deref-2.result.now (row_gaps (pmt_rule pcr_pid) history c.args.packet.now) history c.args.errors.now.items _ here
    (c.deref-2.ensures.value
    ∙ c.in_ok-gaps.ensures.tells (pmt_rule pcr_pid) history c.args.packet.now 0
    (c.in_ok-rename.ensures pcr_pid history 0 has.keys_are here forced) span_is (λ n. ap (λ (ns : List ℕ). has_number ns n) (c.deref.ensures.value ∙ came)))
    c.in_ok-add_gaps.ensures)
    (c.in_ok-add_scrambled.ensures history here forced)
