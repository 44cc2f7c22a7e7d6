use Rattle.std.proofs.Common.{◌≡◌, ◌-◌, ◌<◌, ◌^◌}
use Rattle.ts_fields.specs.Reading.{read_decimal}
use Rattle.ts_fields.proofs.ReadLemmas.{with_digits}
use Rattle.ts_fields.proofs.reader.BitReader.decimal.Given as goal

abbrev pub invariant-loop : goal.invariant-loop
invariant-loop l = record { small : l.number < 10 ^ l.counter; read : with_digits l.number (l.digits - l.counter) (read_decimal (l.digits - l.counter) l.rest) ≡ read_decimal l.digits l.fn.self }
