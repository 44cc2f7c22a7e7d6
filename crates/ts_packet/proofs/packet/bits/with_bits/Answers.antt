-- The shifted digits above, the value and the digits below are the byte with its bits replaced.
use Rattle.std.proofs.Common.{◌<◌, arith}
use Rattle.ts_packet.specs.Header.{byte_with}
use Rattle.ts_packet.proofs.Bytes.{byte_with-small, byte_from_parts}
use Rattle.ts_packet.proofs.packet.bits.with_bits.Goals as goal
use Rattle.ts_packet.proofs.packet.bits.with_bits.Goals.{After-from}

made : (c : After-from) → byte_with c.args.byte c.args.first c.args.count c.args.value < 256
made c = byte_with-small c.args.byte c.args.first c.args.count c.args.value c.requires.inside c.requires.fits (omega arith)

pub returns-clause-exact : goal.returns-clause-exact
returns-clause-exact c =
    rw (c.from-old.ensures, c.from.ensures) (byte_from_parts c.args.byte c.args.first c.args.count c.args.value c.requires.inside c.requires.fits (omega arith))

pub returns-clause-range : goal.returns-clause-range
returns-clause-range c = rw (returns-clause-exact c) (made c)

pub overflow_cast-result : goal.overflow_cast-result
overflow_cast-result c = let small = returns-clause-range c in omega arith
