use Rattle.std.proofs.Common.{ap, sym, subst, ◌∙◌, option_to_list}
use Rattle.ts_packet.specs.Cells.{live_packets}
use Rattle.monitor_keys.specs.Keys.{gaps_on}
use Rattle.monitor_services.proofs.Naming.{live-more, place-of, told-then}
use Rattle.monitor_tables.specs.ReaderStands.{HasRead}
use Rattle.monitor_tables.specs.TableIds.{has_table, strangers_in, strangers_on}
use Rattle.monitor_priorities.specs.RowErrors.{gap_error, table_error}
use Rattle.monitor_priorities.proofs.Chaining.{told-at}
use Rattle.monitor_priorities.proofs.table_row.TableRow.take.Goals as goal

pub returns-clause-stands : goal.returns-clause-stands
returns-clause-stands c = λ rule history labels w span_is due_is.
    let sections = c.deref.ensures.value ∙ c.in_ok-sections.ensures.gives c.args.self.now.kind.pid (live_packets history) w.has_read in
    let occurs = c.has_table-occurs.ensures ∙ (ap (has_table c.args.self.now.kind.table_id) sections ∙ sym (w.occurs_as history c.args.packet.now)) in
    record {
      occurs_as = w.occurs_as;
      keyed = c.meet-gap.ensures.stands rule history c.args.packet.now labels w.keyed span_is occurs due_is;
      has_read = subst (HasRead c.read.new.self c.args.self.now.kind.pid) (sym (live-more history c.args.packet.now labels))
          (c.in_ok-sections.ensures.stands c.args.self.now.kind.pid (live_packets history) w.has_read);
    }

pub returns-clause-tells : goal.returns-clause-tells
returns-clause-tells c = λ rule history w span_is due_is.
    let kind = c.args.self.now.kind in
    let here = place-of c.args.span.now rule.pcr_pid history c.args.packet.now span_is in
    let sections = c.in_ok-sections.ensures.gives kind.pid (live_packets history) w.has_read in
    let occurs = c.has_table-occurs.ensures ∙ (ap (has_table kind.table_id) (c.deref.ensures.value ∙ sections) ∙ sym (w.occurs_as history c.args.packet.now)) in
    let gap = ap option_to_list (c.meet-gap.ensures.tells rule history c.args.packet.now w.keyed span_is occurs due_is) in
    told-then c.args.errors.now.items _ _ _ _
    (told-at (gap_error kind.indicator kind.missing) c.args.errors.now.items _ c.args.span.now.at _ _ (gaps_on rule history c.args.packet.now) here gap c.in_ok-tell_gap.ensures)
    (told-at (table_error kind.indicator) _ _ c.args.span.now.at _ _ (strangers_on kind.pid (live_packets history) c.args.packet.now) here
    (c.deref-3.ensures.value ∙ (c.in_ok-others.ensures ∙ ap (strangers_in kind.pid) (c.deref-2.ensures.value ∙ sections)))
    c.in_ok-tell_tables.ensures)
