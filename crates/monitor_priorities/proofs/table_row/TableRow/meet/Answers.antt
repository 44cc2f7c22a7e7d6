use Rattle.std.proofs.Common.{sym, ◌∙◌}
use Rattle.monitor_priorities.proofs.Passing.{nothing_told, row_passed}
use Rattle.monitor_priorities.proofs.table_row.TableRow.meet.Goals as goal

pub returns-then-is_quiet-clause-stands : goal.returns-then-is_quiet-clause-stands
returns-then-is_quiet-clause-stands c = λ rule history labels w span_is due_is.
    row_passed c.args.self.now rule history c.args.packet.now c.args.span.now w span_is (sym c.if-is_quiet.true ∙ c.is_quiet.ensures)
    c.other_packets_change_nothing.ensures labels c.a_packet_without_news_leaves_the_key.ensures.stands

pub returns-then-is_quiet-clause-tells : goal.returns-then-is_quiet-clause-tells
returns-then-is_quiet-clause-tells c = λ rule history w span_is due_is.
    nothing_told c.args.self.now rule history c.args.packet.now c.args.span.now w span_is (sym c.if-is_quiet.true ∙ c.is_quiet.ensures)
    c.other_packets_change_nothing.ensures c.a_packet_without_news_leaves_the_key.ensures.tells c.args.errors.now.items
