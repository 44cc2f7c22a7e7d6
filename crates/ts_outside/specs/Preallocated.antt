-- The outside in memory that never fails, and of what it takes keeps only the number of bytes. This project's own rule.
use Rattle.std.specs.Prelude.{ℕ, ◌+◌, ◌-◌, ◌^◌, List, None, Some, min}
use Rattle.ts_outside.specs.Source.{SourceView, own_bytes}
use Rattle.ts_outside.specs.Sink.{SinkView}
use Rattle.ts_outside.specs.Desk.{DeskView}

-- a source of these bytes still to come, which are known
abbrev pub preallocated_source : List ℕ → SourceView
preallocated_source left = record { left = Some left; faults = 0; origin = own_bytes }

-- a sink that took so many bytes; neither the bytes nor the name are known
abbrev pub preallocated_sink : ℕ → SinkView
preallocated_sink taken = record { taken = None; name = None; faults = 0 }

-- what contracts see of a preallocated desk: its files, and the numbers of bytes written by closed sinks and reported
pub record PreallocatedDeskView : Type 0 where
  pub files : List (List ℕ × List ℕ)
  pub written : ℕ
  pub reported : ℕ

-- of a preallocated desk only the files are known, and nothing ever failed
abbrev pub preallocated_desk : PreallocatedDeskView → DeskView
preallocated_desk d =
    record {
      files = Some d.files;
      outputs = None;
      reported = None;
      asked = None;
      closed_in = None;
      read_faults = 0;
      write_faults = 0;
      report_faults = 0;
    }

-- a number of bytes and some more; it saturates at the greatest number of its type
abbrev pub counted : ℕ → ℕ → ℕ
counted n more = min (n + more) (2 ^ 64 - 1)
