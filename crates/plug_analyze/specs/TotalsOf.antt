-- The counts by PID, one for each kind of packets. This project's own rule.
use Rattle.std.specs.Prelude.{ℕ, List, map, filter}
use Rattle.ts_packet.specs.declared.cell.Cell.{Cell}
use Rattle.ts_packet.specs.Cells.{live_packets}
use Rattle.ts_packet.specs.Header.{pid_of, has_payload_of}
use Rattle.plugin_notes.specs.Tallies.{HasRoomIn, IsCounted}
use Rattle.plug_analyze.specs.AnalyzeRule.{fault_pids, has_pcr, is_scrambled}
use Rattle.plug_analyze.specs.declared.note.Note.{Note}
use Rattle.plug_analyze.specs.declared.totals.Totals.{Totals}

-- the PIDs of notes
abbrev pub pids_of : List Note → List ℕ
pids_of notes = map (λ note. note.pid) notes

-- these notes were counted
pub record AreTotals (totals : Totals) (notes : List Note) : Type 0 where
  pub packets : IsCounted totals.packets (pids_of notes)
  pub payload : IsCounted totals.payload (pids_of (filter (λ note. note.has_payload) notes))
  pub scrambled : IsCounted totals.scrambled (pids_of (filter (λ note. note.is_scrambled) notes))
  pub faults : IsCounted totals.faults (pids_of (filter (λ note. note.is_fault) notes))
  pub pcr : IsCounted totals.pcr (pids_of (filter (λ note. note.has_pcr) notes))

-- one more packet can be counted
pub record HasRoom (totals : Totals) : Type 0 where
  pub packets : HasRoomIn totals.packets
  pub payload : HasRoomIn totals.payload
  pub scrambled : HasRoomIn totals.scrambled
  pub faults : HasRoomIn totals.faults
  pub pcr : HasRoomIn totals.pcr

-- the packets of a list of cells were counted
pub record AreCounted (totals : Totals) (cells : List Cell) : Type 0 where
  pub packets : IsCounted totals.packets (map pid_of (live_packets cells))
  pub payload : IsCounted totals.payload (map pid_of (filter has_payload_of (live_packets cells)))
  pub scrambled : IsCounted totals.scrambled (map pid_of (filter is_scrambled (live_packets cells)))
  pub faults : IsCounted totals.faults (fault_pids cells)
  pub pcr : IsCounted totals.pcr (map pid_of (filter has_pcr (live_packets cells)))
