use Rattle.std.proofs.Common.{◌≡◌, take}
use Rattle.ts_section.specs.Crc.{crc_of}
use Rattle.ts_section.proofs.crc.crc_of.Given as goal

abbrev pub invariant-loop-byte : goal.invariant-loop-byte
invariant-loop-byte l = l.register ≡ crc_of (take l.byte-index l.bytes)
