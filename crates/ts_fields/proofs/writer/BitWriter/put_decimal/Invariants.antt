use Rattle.std.proofs.Common.{◌≡◌, ◌++◌, ◌-◌}
use Rattle.ts_fields.specs.Spelling.{spell_decimal}
use Rattle.ts_fields.proofs.writer.BitWriter.put_decimal.Given as goal

abbrev pub invariant-loop-i : goal.invariant-loop-i
invariant-loop-i l = l.self ++ spell_decimal (l.digits - l.i) l.value ≡ l.initial.self ++ spell_decimal l.digits l.value
