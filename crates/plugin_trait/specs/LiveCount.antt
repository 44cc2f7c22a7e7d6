-- How many packets a plugin met. This project's own rule.
use Rattle.std.specs.Prelude.{ℕ, List, length}
use Rattle.ts_packet.specs.declared.cell.Cell.{Cell}
use Rattle.ts_packet.specs.Cells.{live_packets}

-- the live index: how many live cells a history has
abbrev pub live_count : List Cell → ℕ
live_count history = length (live_packets history)
