use Rattle.std.proofs.Common.{◌∙◌, ap}
use Rattle.ts_packet.specs.Header.{with_pid, with_unit_start, with_counter}
use Rattle.ts_packetize.proofs.BlankRows.{blank_row}
use Rattle.section_flow.proofs.carrier.blank.Goals as goal

pub returns : goal.returns
returns c =
    c.set_counter.ensures.row
    ∙ ap (λ row. with_counter row c.args.counter) (c.set_unit_start.ensures.row ∙ ap (λ row. with_unit_start row c.args.unit_start) (c.set_pid.ensures.row ∙ ap (λ row. with_pid row c.args.pid) c.null-packet.ensures.bytes))
    ∙ blank_row c.args.pid c.args.counter c.args.unit_start c.requires.pid c.requires.counter
