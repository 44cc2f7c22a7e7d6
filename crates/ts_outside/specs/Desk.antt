-- The outside as one desk, at which files are opened and closed and lines are reported. This project's own rule.
use Rattle.std.specs.Prelude.{ℕ, List, [], ◌∷◌, ◌++◌, Option, None, Some, Bool, true, false, ◌||◌, if◌then◌else◌, length, nat_lt, unwrap_or}
use Rattle.std.specs.Option.{option_and_then, option_map}
use Rattle.std.specs.Str.{bytes_eq}
use Rattle.ts_outside.specs.declared.requests.Purpose.{Purpose}
use Rattle.ts_outside.specs.declared.requests.Purpose.TheVariants.{Output}
use Rattle.ts_outside.specs.declared.requests.Asked.{Asked}
use Rattle.ts_outside.specs.declared.closed_inputs.ClosedInput.{ClosedInput}
use Rattle.ts_outside.specs.Count.{raised}
use Rattle.ts_outside.specs.Told.{grown}
use Rattle.ts_outside.specs.Source.{SourceView}
use Rattle.ts_outside.specs.Sink.{SinkView}

-- what contracts see of a desk: the files by name, the closed outputs with name and bytes, the bytes of the reports,
-- the names requested and the closed inputs, each known or not; and three counts of faults
pub record DeskView : Type 0 where
  pub files : Option (List (List ℕ × List ℕ))
  pub outputs : Option (List (List ℕ × List ℕ))
  pub reported : Option (List ℕ)
  pub asked : Option (List Asked)
  pub closed_in : Option (List ClosedInput)
  pub read_faults : ℕ
  pub write_faults : ℕ
  pub report_faults : ℕ

-- the name of a stream: the empty one where none was given
abbrev pub stream_name : Option (List ℕ) → List ℕ
stream_name name = unwrap_or name []

-- the bytes of a name: those of the first pair of that name, and none where there is no such pair
abbrev pub file_of : List (List ℕ × List ℕ) → List ℕ → List ℕ
file_of [] name = []
file_of (f ∷ fs) name = if bytes_eq f.0 name then f.1 else file_of fs name

-- the bytes of a name, known where the files are
abbrev pub content : DeskView → List ℕ → Option (List ℕ)
content d name = option_map (λ fs. file_of fs name) d.files

-- the desk after a name was requested without a fault
abbrev pub asked_well : DeskView → Purpose → List ℕ → DeskView
asked_well d purpose name =
    record d { asked = grown d.asked (record { purpose = purpose; name = name; ok = true } ∷ []) }

-- the desk after a name was requested with a fault: it counts for the outputs where it is an output, else for the inputs
abbrev pub asked_in_vain : DeskView → Purpose → List ℕ → DeskView
asked_in_vain d Output name =
    record d {
      asked = grown d.asked (record { purpose = Output; name = name; ok = false } ∷ []);
      write_faults = raised d.write_faults;
    }
asked_in_vain d purpose name =
    record d {
      asked = grown d.asked (record { purpose = purpose; name = name; ok = false } ∷ []);
      read_faults = raised d.read_faults;
    }

-- the closed inputs with this one after them, known where both they and its bytes are
abbrev pub with_input : Option (List ClosedInput) → SourceView → Option (List ClosedInput)
with_input None s = None
with_input (Some l) s = option_map (λ left. l ++ record { left = length left; failed = nat_lt 0 s.faults } ∷ []) s.left

-- the closed outputs with this one after them, known where they, its name and its bytes are
abbrev pub with_output : Option (List (List ℕ × List ℕ)) → SinkView → Option (List (List ℕ × List ℕ))
with_output None s = None
with_output (Some l) s = option_and_then (λ name. option_map (λ taken. l ++ (name, taken) ∷ []) s.taken) s.name

-- the desk after an input was closed: the count of the inputs rises exactly where that input's count is above 0
abbrev pub input_closed : DeskView → SourceView → DeskView
input_closed d s =
    record d {
      closed_in = with_input d.closed_in s;
      read_faults = if nat_lt 0 s.faults then raised d.read_faults else d.read_faults;
    }

-- the desk after an output was closed: the count of the outputs rises exactly where that output's count is above 0
-- or the closing failed
abbrev pub output_closed : DeskView → SinkView → Bool → DeskView
output_closed d s failed =
    record d {
      outputs = with_output d.outputs s;
      write_faults = if nat_lt 0 s.faults || failed then raised d.write_faults else d.write_faults;
    }

-- the desk after these bytes were reported
abbrev pub reports : DeskView → List ℕ → DeskView
reports d bytes = record d { reported = grown d.reported bytes }

-- the desk after a report failed
abbrev pub report_failed : DeskView → DeskView
report_failed d = record d { report_faults = raised d.report_faults }
