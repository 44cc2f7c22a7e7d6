use Rattle.std.proofs.Common.{◌≡◌, ◌++◌, take}
use Rattle.ts_fields.specs.Bits.{bits_of}
use Rattle.ts_fields.proofs.writer.BitWriter.put_bytes.Given as goal

abbrev pub invariant-loop-byte : goal.invariant-loop-byte
invariant-loop-byte l = l.self ≡ l.initial.self ++ bits_of (take l.byte-index l.bytes)
