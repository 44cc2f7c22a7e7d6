use Rattle.std.proofs.Common.{◌≡◌, ◌-◌}
use Rattle.ts_fields.specs.Reading.{read_bytes}
use Rattle.ts_fields.proofs.ReadLemmas.{with_front}
use Rattle.ts_fields.proofs.reader.BitReader.bytes.Given as goal

abbrev pub invariant-loop : goal.invariant-loop
invariant-loop l = with_front l.bytes.items (read_bytes (l.count - l.counter) l.rest) ≡ read_bytes l.count l.fn.self
