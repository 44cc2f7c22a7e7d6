-- How many errors there were. This project's own rule.
use Rattle.std.specs.Prelude.{◌≡◌, ◌<◌, ◌≤◌, ◌+◌, ◌*◌, ◌^◌, ℕ, List, length, count_by, ◌==◌, Bool}
use Rattle.std.specs.List.{slice_index_or}
use Rattle.monitor_lines.specs.declared.indicator.Indicator.{Indicator}
use Rattle.monitor_lines.specs.declared.indicator.Indicator.TheVariants.{Pat, Counter, Pmt, Pid, Transport, Crc, Pcr, Accuracy, Pts, Cat, Nit, Unreferenced, Sdt, Eit, Rst, Tdt}
use Rattle.monitor_lines.specs.declared.monitor_error.MonitorError.{MonitorError}
use Rattle.plug_monitor.specs.ErrorNotes.{errors_of_notes}
use Rattle.plug_monitor.specs.declared.counts.Counts.{Counts}
use Rattle.plug_monitor.specs.declared.error_note.ErrorNote.{ErrorNote}

-- the place of an indicator in the order of their numbers
abbrev pub rank_of : Indicator → ℕ
rank_of Pat = 0
rank_of Counter = 1
rank_of Pmt = 2
rank_of Pid = 3
rank_of Transport = 4
rank_of Crc = 5
rank_of Pcr = 6
rank_of Accuracy = 7
rank_of Pts = 8
rank_of Cat = 9
rank_of Nit = 10
rank_of Unreferenced = 11
rank_of Sdt = 12
rank_of Eit = 13
rank_of Rst = 14
rank_of Tdt = 15

-- an error is one of the indicator at a place
abbrev pub is_at : ℕ → MonitorError → Bool
is_at rank error = rank_of error.indicator == rank

-- how many errors of an indicator there are
abbrev pub count_of : List MonitorError → Indicator → ℕ
count_of errors indicator = count_by (is_at (rank_of indicator)) errors

-- what was counted of it
abbrev pub counted : Counts → Indicator → ℕ
counted counts indicator = slice_index_or counts.each (rank_of indicator) 0

-- the counts of each indicator are those of these errors
pub record IsEach (each : List ℕ) (errors : List MonitorError) : Type 0 where
  pub whole : length each ≡ 16
  pub counts : (rank : ℕ) → rank < 16 → slice_index_or each rank 0 ≡ count_by (is_at rank) errors

-- so are all counts
pub record IsCounted (counts : Counts) (errors : List MonitorError) : Type 0 where
  pub each : IsEach counts.each errors
  pub all : counts.all ≡ length errors

-- they are those of some errors, and one more can be counted
pub record HasRoom (counts : Counts) : Type 0 where
  pub errors : List MonitorError
  pub each : IsEach counts.each errors
  pub few : length errors < 2 ^ 127 + 2 ^ 64

-- they are those of some errors, and as many more as a note may have can be counted
pub record HasRoomFor (counts : Counts) : Type 0 where
  pub errors : List MonitorError
  pub counted : IsCounted counts errors
  pub few : length errors < 2 ^ 127

-- the counts are those of the errors of notes, of which each has fewer than 2^64
pub record AreCounted (counts : Counts) (notes : List ErrorNote) : Type 0 where
  pub counted : IsCounted counts (errors_of_notes notes)
  pub few : length (errors_of_notes notes) ≤ length notes * 2 ^ 64

-- a note is on no PID
abbrev pub no_pid : ErrorNote → ℕ
no_pid note = 0
