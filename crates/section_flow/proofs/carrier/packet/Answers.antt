use Rattle.std.proofs.Common.{◌+◌, ◌/◌, ◌%◌}
use Rattle.std.specs.Prelude.{if◌then◌else◌}
use Rattle.ts_packetize.proofs.Filling.{laid_plain}
use Rattle.section_flow.proofs.carrier.packet.Goals as goal

pub returns : goal.returns
returns c =
    laid_plain 0x47 ((if c.args.unit_start then 64 else 0) + c.args.pid / 256) (c.args.pid % 256) (16 + c.args.counter)
    c.args.bytes.now c.blank-packet.result c.put_payload.new.self c.requires.room c.blank-packet.ensures c.put_payload.ensures.bytes
