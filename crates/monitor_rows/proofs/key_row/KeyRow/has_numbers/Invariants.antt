-- The first keys have the first numbers.
use Rattle.std.proofs.Common.{◌≡◌, take}
use Rattle.monitor_rows.specs.RowStands.{numbers_in}
use Rattle.monitor_rows.proofs.key_row.KeyRow.has_numbers.Given as goal

abbrev pub invariant-loop-i : goal.invariant-loop-i
invariant-loop-i l = numbers_in (take l.i l.self.keys.items) ≡ take l.i l.numbers
