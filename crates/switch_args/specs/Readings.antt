-- What the code's reading of the words stands for. This project's own rule.
use Rattle.std.specs.Prelude.{◌≡◌, ℕ, List, Bool, true, false, Some, None, Result, Ok, Err}
use Rattle.switch_args.specs.declared.reading.Reading.{Reading}
use Rattle.switch_args.specs.declared.reading.Expected as code
use Rattle.switch_args.specs.declared.reading.Expected.TheVariants.{OptionOrInput, Cycle, Buffer, InputKind, InputName, InputOrOutput, OutputKind, OutputName, Nothing}
use Rattle.switch_args.specs.declared.settings.SwitchOutput.{SwitchOutput}
use Rattle.switch_args.specs.declared.settings.SwitchOutput.TheVariants as out
use Rattle.switch_args.specs.SwitchWords.{Given, Output, to_file, dropped, Expected, an_option_or_input, the_cycle, the_buffer, the_input_kind, the_input_name, an_input_or_output, the_output_kind, the_output_name, nothing, place, step, may_end, read_of, IsFirstFault}
use Rattle.switch_args.specs.declared.settings.SwitchSettings.{SwitchSettings}
use Rattle.switch_args.specs.declared.words.WordsFault.{WordsFault}
use Rattle.switch_args.specs.declared.words.WordsFault.TheVariants.{At, NoMemory}

-- the definition's word for what the code expects
abbrev pub expected_of : code.Expected → Expected
expected_of OptionOrInput = an_option_or_input
expected_of Cycle = the_cycle
expected_of Buffer = the_buffer
expected_of InputKind = the_input_kind
expected_of InputName = the_input_name
expected_of InputOrOutput = an_input_or_output
expected_of OutputKind = the_output_kind
expected_of OutputName = the_output_name
expected_of Nothing = nothing

-- the definition's word for the code's output
abbrev pub output_of : SwitchOutput → Output
output_of (out.File name) = to_file name
output_of out.Drop = dropped

-- what the words read so far gave
abbrev pub given_of : Reading → Given
given_of r = record { cycle = r.cycle; buffer = r.buffer; resync = r.resync; inputs = r.inputs.items; output = output_of r.output }

-- the word may be there, and the new reading is what is given and expected after it; or it may not
abbrev pub Went : Reading → List ℕ → Bool → Reading → Type 0
Went old word true new = step (given_of old) (expected_of old.expected) word ≡ Some (place (given_of new) (expected_of new.expected))
Went old word false new = step (given_of old) (expected_of old.expected) word ≡ None

-- what settings stand for
abbrev pub given_of_settings : SwitchSettings → Given
given_of_settings w = record { cycle = w.cycle; buffer = w.buffer; resync = w.resync; inputs = w.inputs.items; output = output_of w.output }

-- at the end of the words: they are complete, or not
abbrev pub EndsAt : Reading → ℕ → Result SwitchSettings WordsFault → Type 0
EndsAt r at (Ok w) = may_end (place (given_of r) (expected_of r.expected)) ≡ Some (given_of_settings w)
EndsAt r at (Err (At word)) = (may_end (place (given_of r) (expected_of r.expected)) ≡ None) × (word ≡ at)
EndsAt r at (Err NoMemory) = Unit {0}

-- the words are read, or this is their first fault, or memory ran out
abbrev pub ReadsWords : List (List ℕ) → Result SwitchSettings WordsFault → Type 0
ReadsWords words (Ok w) = read_of words ≡ Some (given_of_settings w)
ReadsWords words (Err (At word)) = IsFirstFault words word
ReadsWords words (Err NoMemory) = Unit {0}
