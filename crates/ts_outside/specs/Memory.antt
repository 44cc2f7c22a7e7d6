-- The outside in memory, and which of its calls fail. This project's own rule.
use Rattle.std.specs.Prelude.{ℕ, ◌==◌, ◌-◌, List, [], ◌∷◌, ◌++◌, Bool, true, false, ◌||◌, length, drop, min, nat_le, nat_lt, if◌then◌else◌, Some}
use Rattle.std.specs.List.{list_any}
use Rattle.ts_outside.specs.declared.closed_inputs.ClosedInput.{ClosedInput}
use Rattle.ts_outside.specs.declared.closed_inputs.ClosedInputs.{ClosedInputs}
use Rattle.ts_outside.specs.declared.closed_inputs.ClosedInputs.TheVariants as inputs
use Rattle.ts_outside.specs.declared.closed_outputs.ClosedOutputs.{ClosedOutputs}
use Rattle.ts_outside.specs.declared.closed_outputs.ClosedOutputs.TheVariants as outputs
use Rattle.ts_outside.specs.declared.fail_plan.FailPlan.{FailPlan}
use Rattle.ts_outside.specs.declared.requests.Asked.{Asked}
use Rattle.ts_outside.specs.declared.requests.Purpose.{Purpose}
use Rattle.ts_outside.specs.declared.requests.Purpose.TheVariants.{Output}
use Rattle.ts_outside.specs.Count.{raised}
use Rattle.ts_outside.specs.Source.{SourceView, own_bytes}
use Rattle.ts_outside.specs.Sink.{SinkView}
use Rattle.ts_outside.specs.Desk.{DeskView, file_of}

-- whether a plan makes the next call fail after so many calls: its number is one more, and is in the list
abbrev pub fails_next : List ℕ → ℕ → Bool
fails_next numbers calls = list_any (λ n. n == raised calls) numbers

-- what contracts see of a source in memory
pub record MemorySourceView : Type 0 where
  pub left : List ℕ
  pub faults : ℕ
  pub calls : ℕ
  pub failing : List ℕ
  pub piece : ℕ

-- all of a source in memory is known
abbrev pub source_seen : MemorySourceView → SourceView
source_seen s = record { left = Some s.left; faults = s.faults; origin = own_bytes }

-- the number of bytes that the next read moves into so many places: at most a piece, and what is there
abbrev pub read_count : MemorySourceView → ℕ → ℕ
read_count s places = min (min places s.piece) (length s.left)

-- the source after a read that moved so many bytes
abbrev pub source_read : MemorySourceView → ℕ → MemorySourceView
source_read s count = record s { left = drop count s.left; calls = raised s.calls }

-- the source after a read that failed
abbrev pub source_failed : MemorySourceView → MemorySourceView
source_failed s = record s { faults = raised s.faults; calls = raised s.calls }

-- what contracts see of a sink in memory
pub record MemorySinkView : Type 0 where
  pub taken : List ℕ
  pub name : List ℕ
  pub faults : ℕ
  pub calls : ℕ
  pub failing : List ℕ
  pub piece : ℕ
  pub room : ℕ

-- all of a sink in memory is known
abbrev pub sink_seen : MemorySinkView → SinkView
sink_seen s = record { taken = Some s.taken; name = Some s.name; faults = s.faults }

-- whether the next write fails: by the plan, or because the room is full
abbrev pub write_fails : MemorySinkView → Bool
write_fails s = fails_next s.failing s.calls || nat_le s.room (length s.taken)

-- the number of bytes that the next write takes of so many: at most a piece, and what the room has left
abbrev pub write_count : MemorySinkView → ℕ → ℕ
write_count s bytes = min (min bytes s.piece) (s.room - length s.taken)

-- the sink after a write that took these bytes
abbrev pub sink_wrote : MemorySinkView → List ℕ → MemorySinkView
sink_wrote s bytes = record s { taken = s.taken ++ bytes; calls = raised s.calls }

-- the sink after a write that failed
abbrev pub sink_failed : MemorySinkView → MemorySinkView
sink_failed s = record s { faults = raised s.faults; calls = raised s.calls }

-- the closed inputs of a chain of links, the first one first
abbrev pub inputs_of : ClosedInputs → List ClosedInput
inputs_of inputs.Empty = []
inputs_of (inputs.Behind' entry p before) = inputs_of before ++ entry ∷ []

-- the closed outputs of a chain of links with their names and bytes, the first one first
abbrev pub outputs_of : ClosedOutputs → List (List ℕ × List ℕ)
outputs_of outputs.Empty = []
outputs_of (outputs.Behind' name bytes p before) = outputs_of before ++ (name, bytes) ∷ []

-- what contracts see of a desk in memory: all of it, the number of calls of each kind that it had, and its plan
pub record MemoryDeskView : Type 0 where
  pub files : List (List ℕ × List ℕ)
  pub outputs : List (List ℕ × List ℕ)
  pub reported : List ℕ
  pub asked : List Asked
  pub closed_in : List ClosedInput
  pub read_faults : ℕ
  pub write_faults : ℕ
  pub report_faults : ℕ
  pub opens : ℕ
  pub reports : ℕ
  pub closes : ℕ
  pub plan : FailPlan

-- all of a desk in memory is known
abbrev pub desk_seen : MemoryDeskView → DeskView
desk_seen d =
    record {
      files = Some d.files;
      outputs = Some d.outputs;
      reported = Some d.reported;
      asked = Some d.asked;
      closed_in = Some d.closed_in;
      read_faults = d.read_faults;
      write_faults = d.write_faults;
      report_faults = d.report_faults;
    }

-- a new desk: its files and its plan, and nothing done
abbrev pub new_desk : List (List ℕ × List ℕ) → FailPlan → MemoryDeskView
new_desk files plan =
    record {
      files = files;
      outputs = [];
      reported = [];
      asked = [];
      closed_in = [];
      read_faults = 0;
      write_faults = 0;
      report_faults = 0;
      opens = 0;
      reports = 0;
      closes = 0;
      plan = plan;
    }

-- whether the next open fails
abbrev pub open_fails : MemoryDeskView → Bool
open_fails d = fails_next d.plan.opens d.opens

-- the desk after a request without a fault
abbrev pub opened : MemoryDeskView → Purpose → List ℕ → MemoryDeskView
opened d purpose name =
    record d {
      asked = d.asked ++ record { purpose = purpose; name = name; ok = true } ∷ [];
      opens = raised d.opens;
    }

-- the desk after a request for an input or a file failed
abbrev pub in_failed : MemoryDeskView → Purpose → List ℕ → MemoryDeskView
in_failed d purpose name =
    record d {
      asked = d.asked ++ record { purpose = purpose; name = name; ok = false } ∷ [];
      opens = raised d.opens;
      read_faults = raised d.read_faults;
    }

-- the desk after a request for an output failed
abbrev pub out_failed : MemoryDeskView → List ℕ → MemoryDeskView
out_failed d name =
    record d {
      asked = d.asked ++ record { purpose = Output; name = name; ok = false } ∷ [];
      opens = raised d.opens;
      write_faults = raised d.write_faults;
    }

-- the source that an open returns
abbrev pub new_source : MemoryDeskView → List ℕ → MemorySourceView
new_source d name =
    record { left = file_of d.files name; faults = 0; calls = 0; failing = d.plan.reads; piece = d.plan.read_piece }

-- the sink that an open returns
abbrev pub new_sink : MemoryDeskView → List ℕ → MemorySinkView
new_sink d name =
    record {
      taken = [];
      name = name;
      faults = 0;
      calls = 0;
      failing = d.plan.writes;
      piece = d.plan.write_piece;
      room = d.plan.room;
    }

-- whether the next closing of an output fails
abbrev pub close_fails : MemoryDeskView → Bool
close_fails d = fails_next d.plan.closes d.closes

-- whether the next report fails: by the plan, or because the room is full
abbrev pub report_fails : MemoryDeskView → Bool
report_fails d = fails_next d.plan.reports d.reports || nat_le d.plan.room (length d.reported)

-- the number of bytes that the next report takes of so many: at most a piece, and what the room has left
abbrev pub report_count : MemoryDeskView → ℕ → ℕ
report_count d bytes = min (min bytes d.plan.write_piece) (d.plan.room - length d.reported)

-- the desk after it took these bytes of a report
abbrev pub reported_more : MemoryDeskView → List ℕ → MemoryDeskView
reported_more d bytes = record d { reported = d.reported ++ bytes; reports = raised d.reports }

-- the desk after a report failed
abbrev pub report_stood : MemoryDeskView → MemoryDeskView
report_stood d = record d { report_faults = raised d.report_faults; reports = raised d.reports }

-- the desk after a source was closed
abbrev pub closed_a_source : MemoryDeskView → MemorySourceView → MemoryDeskView
closed_a_source d s =
    record d {
      closed_in = d.closed_in ++ record { left = length s.left; failed = nat_lt 0 s.faults } ∷ [];
      read_faults = if nat_lt 0 s.faults then raised d.read_faults else d.read_faults;
    }

-- the desk after a sink was closed
abbrev pub closed_a_sink : MemoryDeskView → MemorySinkView → MemoryDeskView
closed_a_sink d s =
    record d {
      outputs = d.outputs ++ (s.name, s.taken) ∷ [];
      write_faults = if nat_lt 0 s.faults || close_fails d then raised d.write_faults else d.write_faults;
      closes = raised d.closes;
    }
