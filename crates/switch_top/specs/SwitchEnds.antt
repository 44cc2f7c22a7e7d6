-- How a call ends after its plays: what is written, reported and returned. This project's own rule.
use Rattle.std.specs.Prelude.{◌≡◌, ◌⊎◌, ℕ, ◌+◌, ◌-◌, ◌^◌, min, List, [], ◌∷◌, ◌++◌, length, take, drop, codes, Bool, true, false, ◌||◌, if◌then◌else◌, Option, None, Some}
use Rattle.ts_packet.specs.declared.cell.Cell.{Cell}
use Rattle.ts_outside.specs.Source.{SourceView}
use Rattle.ts_outside.specs.Told.{grown}
use Rattle.ts_outside.specs.Count.{HasCause}
use Rattle.ts_outside.specs.declared.requests.Asked.{Asked}
use Rattle.ts_outside.specs.declared.requests.Purpose.TheVariants as purpose
use Rattle.ts_outside.specs.Desk.{DeskView, asked_well, asked_in_vain}
use Rattle.ts_outside.specs.Saying.{Says}
use Rattle.ts_outside.specs.Entries.{outputs_with}
use Rattle.chain_model.specs.declared.input_end.InputEnd.TheVariants as how
use Rattle.chain_model.specs.Written.{written, IsPartOfFirst}
use Rattle.chain_model.specs.Each.{Each}
use Rattle.chain_plays.specs.declared.played.PlayEnd.{PlayEnd}
use Rattle.chain_plays.specs.declared.played.PlayEnd.TheVariants.{Input, WriteFault}
use Rattle.chain_model.specs.Apply.{StageList}
use Rattle.chain_plays.specs.PlayList.{EndsAs}
use Rattle.switch_args.specs.SwitchWords.{Output, to_file, dropped}
use Rattle.switch_top.specs.declared.status.SwitchStatus.{SwitchStatus}
use Rattle.switch_top.specs.declared.status.SwitchStatus.TheVariants as status
use Rattle.switch_top.specs.PlayNames.{PlayName}
use Rattle.switch_top.specs.PlayLists.{IsListOf}
use Rattle.switch_top.specs.Lines.{play_line, switch_end_line}
use Rattle.switch_top.specs.PlaysAfter.{Behind, IsAfter, names_of, cells_of, lines_of, all_asked, asked_of, with_inputs, LastRead, AskedFirst}

-- the status of the last play's end; the number of the input has 32 bits
abbrev pub status_of : ℕ → PlayEnd → SwitchStatus
status_of input (Input (how.End left)) = status.Done
status_of input (Input (how.Sync packet)) = status.Sync (min input (2 ^ 32 - 1)) packet
status_of input (Input how.ReadFault) = status.ReadFault
status_of input (Input how.TooLong) = status.TooLong
status_of input WriteFault = status.WriteFault

-- where a report or the closing of the output failed
abbrev pub when_late : SwitchStatus → SwitchStatus
when_late status.Done = status.WriteFault
when_late other = other

-- the text is reported and the status gives the end; or memory ran out for the text, and nothing is reported
abbrev pub ReportsPlays : List ℕ → ℕ → PlayEnd → Bool → DeskView → DeskView → SwitchStatus → Type 0
ReportsPlays text input end late old new answer =
    ((failed : Bool) × Says old new text failed
    × (answer ≡ (if late || failed then when_late (status_of input end) else status_of input end)))
    ⊎ ((answer ≡ status.NoMemory) × (new ≡ old))

-- the count of the outputs rose by a failed write and where the closing failed, and by nothing else
pub record CountsOutput (old new : ℕ) (end : PlayEnd) (late : Bool) : Type 0 where
  pub fault : end ≡ WriteFault → HasCause old new
  pub late_cause : late ≡ true → HasCause old new
  pub still : late ≡ false → (end ≡ WriteFault → ⊥) → new ≡ old

-- only after a failed write a part of the next packet was taken too
abbrev pub IsPart : List Cell → ℕ → PlayEnd → List ℕ → Type 0
IsPart cells n (Input how) part = part ≡ []
IsPart cells n WriteFault part = IsPartOfFirst (drop n cells) part

-- a call whose plays were played: `start` is the desk when the output was open
pub record SwitchRan (resync : Bool) (buffer : ℕ) (names : List PlayName) (output : Option (List ℕ)) (start new : DeskView)
    (answer : SwitchStatus) : Type 0 where
  pub behind : List Behind
  pub all : Each (IsAfter resync start) behind
  pub input : ℕ
  pub name : List ℕ
  pub later : List PlayName
  pub names_are : names ≡ names_of behind ++ record { input = input; name = name } ∷ later
  pub list : StageList
  pub list_is : IsListOf resync start.files name list
  pub n : ℕ
  pub end : PlayEnd
  pub ends : EndsAs list n end
  pub plain_is_last : (left : ℕ) → end ≡ Input (how.End left) → later ≡ []
  pub part : List ℕ
  pub part_is : IsPart list.cells n end part
  pub written_is : new.outputs ≡ outputs_with output start.outputs
      (written (cells_of behind) ++ (written (take n list.cells) ++ part))
  pub late : Bool
  pub closed : DeskView
  pub reported_before : closed.reported ≡ start.reported
  pub counted_before : closed.report_faults ≡ start.report_faults
  pub counts : CountsOutput start.write_faults closed.write_faults end late
  pub writes : new.write_faults ≡ closed.write_faults
  pub reported : ReportsPlays (lines_of behind ++ (play_line input n end ++ switch_end_line input end (length (cells_of behind) + n)))
      input end late closed new answer
  pub ok : Bool
  pub ahead : List Asked
  pub asked : new.asked ≡ grown start.asked (all_asked behind ++ asked_of ok (record { input = input; name = name }) ∷ ahead)
  pub sources : List SourceView
  pub last_read : LastRead resync buffer start behind name n end later ahead ok sources
  pub closed_in : new.closed_in ≡ with_inputs start.closed_in sources
  pub files : new.files ≡ start.files
  pub read_fault : end ≡ Input how.ReadFault → HasCause start.read_faults new.read_faults

-- memory ran out while the plays were played: what was written begins what they write, and nothing is reported
pub record SwitchWanted (resync : Bool) (names : List PlayName) (output : Option (List ℕ)) (start new : DeskView) (answer : SwitchStatus) : Type 0 where
  pub answer_is : answer ≡ status.NoMemory
  pub behind : List Behind
  pub all : Each (IsAfter resync start) behind
  pub later : List PlayName
  pub names_are : names ≡ names_of behind ++ later
  -- of the next play some packets may have been written
  pub more : List Cell
  pub n : ℕ
  pub end : PlayEnd
  pub of_next : (more ≡ []) ⊎ ((play : PlayName) × (rest : List PlayName) × (list : StageList) × (later ≡ play ∷ rest)
      × IsListOf resync start.files play.name list × (more ≡ list.cells) × EndsAs list n end)
  pub part : List ℕ
  pub part_is : IsPart more n end part
  pub written_is : new.outputs ≡ outputs_with output start.outputs (written (cells_of behind) ++ (written (take n more) ++ part))
  pub reported : new.reported ≡ start.reported
  pub asked : List Asked
  pub asked_first : AskedFirst names asked
  pub asked_is : new.asked ≡ grown start.asked asked
  pub files : new.files ≡ start.files

-- the name of an output
abbrev pub output_name : Output → Option (List ℕ)
output_name (to_file name) = Some name
output_name dropped = None

-- the desk after the output was opened
abbrev pub opened_as : DeskView → Option (List ℕ) → DeskView
opened_as desk None = desk
opened_as desk (Some name) = asked_well desk purpose.Output name

-- a call from its plan on
pub data SwitchesPlan (resync : Bool) (buffer : ℕ) (names : List PlayName) (output : Option (List ℕ)) (old new : DeskView)
    (answer : SwitchStatus) : Type 0 where
  -- the output was not opened
  no_output : (name : List ℕ) → (failed : Bool) → output ≡ Some name → answer ≡ status.WriteFault
      → Says (asked_in_vain old purpose.Output name) new (codes "tsswitch: cannot open output" ++ 10 ∷ []) failed
      → SwitchesPlan resync buffer names output old new answer
  -- memory ran out before anything was asked for
  out_of_memory : answer ≡ status.NoMemory → new ≡ old → SwitchesPlan resync buffer names output old new answer
  wanted : SwitchWanted resync names output (opened_as old output) new answer → SwitchesPlan resync buffer names output old new answer
  ran : SwitchRan resync buffer names output (opened_as old output) new answer → SwitchesPlan resync buffer names output old new answer
