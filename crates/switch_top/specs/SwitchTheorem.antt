-- What a call of `tsswitch` does, in terms of the switched list. This project's own rule.
use Rattle.std.specs.Prelude.{◌≡◌, ◌⊎◌, ℕ, ◌+◌, ◌<◌, ◌≤◌, List, [], ◌∷◌, ◌++◌, length, map, take, codes, Bool, true, false, Option, Some}
use Rattle.std.specs.List.{flat_map, list_all}
use Rattle.ts_packet.specs.declared.cell.Cell.{Cell}
use Rattle.ts_outside.specs.Told.{grown}
use Rattle.ts_outside.specs.Source.{SourceView}
use Rattle.ts_outside.specs.Desk.{DeskView, file_of, asked_in_vain}
use Rattle.ts_outside.specs.declared.requests.Purpose.TheVariants as purpose
use Rattle.ts_outside.specs.Saying.{Says, ReportsText}
use Rattle.ts_outside.specs.Entries.{outputs_with}
use Rattle.ts_outside.specs.declared.requests.Asked.{Asked}
use Rattle.chain_model.specs.Written.{written}
use Rattle.chain_model.specs.Stuffed.{no_stuffing}
use Rattle.chain_model.specs.declared.input_end.InputEnd.TheVariants as how
use Rattle.chain_model.specs.InputRead.{list_at_fault}
use Rattle.chain_plays.specs.declared.played.PlayEnd.{PlayEnd}
use Rattle.chain_plays.specs.declared.played.PlayEnd.TheVariants.{Input, WriteFault}
use Rattle.chain_plays.specs.PlayList.{EndsAs}
use Rattle.switch_args.specs.SwitchWords.{Given}
use Rattle.switch_top.specs.declared.status.SwitchStatus.{SwitchStatus}
use Rattle.switch_top.specs.declared.status.SwitchStatus.TheVariants as status
use Rattle.switch_top.specs.PlayNames.{PlayName}
use Rattle.switch_top.specs.PlayLists.{list_of}
use Rattle.switch_top.specs.Lines.{play_line, switch_end_line}
use Rattle.switch_top.specs.Switched.{PlayList, lists_of, is_plain, played, switched, end_of_list, line_of, last_of, switched_report}
use Rattle.switch_top.specs.PlaysAfter.{asked_of, with_inputs}
use Rattle.switch_top.specs.SwitchEnds.{status_of, opened_as, IsPart}
use Rattle.switch_top.specs.SwitchPlans.{plays_of}

-- the plays of settings, over the bytes of files
abbrev pub lists_given : Given → List (List ℕ × List ℕ) → List PlayList
lists_given given files = lists_of given.resync files (plays_of given)

-- the status of plays that are played to their ends: that of the last one
abbrev pub status_of_plays : List PlayList → SwitchStatus
status_of_plays [] = status.Done
status_of_plays (play ∷ plays) = status_of (last_of play plays).input (end_of_list (last_of play plays).list.ended)

-- every play ends plainly
abbrev pub AllEndPlainly : List PlayList → Type 0
AllEndPlainly plays = list_all (λ (play : PlayList). is_plain play.list.ended) plays ≡ true

-- the call wrote, reported and returned what the switched list gives
pub record IsPureSwitch (plays : List PlayList) (output : Option (List ℕ)) (old new : DeskView) (answer : SwitchStatus) : Type 0 where
  pub written_is : new.outputs ≡ outputs_with output old.outputs (written (switched plays))
  pub reported_is : new.reported ≡ grown old.reported (switched_report plays)
  pub answer_is : answer ≡ status_of_plays (played plays)

-- the call wrote the switched list and returned its end; its report is all that was reported, or a report failed after a
-- first part of it
pub record WritesSwitched (plays : List PlayList) (output : Option (List ℕ)) (old new : DeskView) (answer : SwitchStatus) : Type 0 where
  pub written_is : new.outputs ≡ outputs_with output old.outputs (written (switched plays))
  pub reported_is : ReportsText old new (switched_report plays)
  pub answer_is : answer ≡ status_of_plays (played plays)

-- nothing was written, since no output was opened, or it is not known; or what was written begins the switched list
abbrev pub WritesFirst : List PlayList → Option (List ℕ) → DeskView → DeskView → Type 0
WritesFirst plays output old new = (new.outputs ≡ old.outputs)
    ⊎ ((bytes : List ℕ) × (rest : List ℕ) × (new.outputs ≡ outputs_with output old.outputs bytes)
    × (written (switched plays) ≡ bytes ++ rest))

-- a status after which the whole list is written
abbrev pub TellsWhole : SwitchStatus → Type 0
TellsWhole status.Done = Unit {0}
TellsWhole (status.Sync input packet) = Unit {0}
TellsWhole status.TooLong = Unit {0}
TellsWhole _ = ⊥

-- no count of the outputs and of the reports rose
pub record NothingLate (old new : DeskView) : Type 0 where
  pub writes : new.write_faults ≡ old.write_faults
  pub reports : new.report_faults ≡ old.report_faults

-- a play could not be opened, or a source was closed with a fault, after which one more was closed at most
abbrev pub ReadFailed : DeskView → DeskView → Type 0
ReadFailed start new =
    ((before : List Asked) × (play : PlayName) × (ahead : List Asked) × (length ahead ≤ 1)
    × (new.asked ≡ grown start.asked (before ++ asked_of false play ∷ ahead)))
    ⊎ ((before : List SourceView) × (made : SourceView) × (more : List SourceView) × (length more ≤ 1) × (0 < made.faults)
    × (new.closed_in ≡ with_inputs start.closed_in (before ++ made ∷ more)))

-- ---- what a status says

-- the packets of plays, joined
abbrev pub packets_of : List PlayList → List Cell
packets_of plays = flat_map (λ (play : PlayList). play.list.cells) plays

-- the report where these plays gave their whole lists, and the play after them, of this input, gave so many packets and ended so
abbrev pub report_to : List PlayList → ℕ → ℕ → PlayEnd → List ℕ
report_to behind input n end =
    flat_map line_of behind ++ (play_line input n end ++ switch_end_line input end (length (packets_of behind) + n))

-- how many packets come of what was read before the read that failed: those in it; where packets are found again, the bytes
-- that were read last may not have decided where they are
abbrev pub CountsRead : Bool → List ℕ → ℕ → Type 0
CountsRead true read n = Unit {0}
CountsRead false read n = n ≡ length (list_at_fault no_stuffing read).cells

-- a play that ends by a read fault could not be opened: it was asked for last, and then it gave nothing, and only the plays
-- before it had sources to close. Or it was opened, and gave the packets of what was read before the read that failed, which is
-- its file without the bytes that its source had still to come when it was closed; after it one play was asked for at most
abbrev pub GivesRead : Bool → Option (List ℕ) → List ℕ → DeskView → DeskView → List PlayName → PlayName → ℕ → Type 0
GivesRead resync output file old new behind play n =
    ((sources : List SourceView) × (n ≡ 0) × (length sources ≡ length behind)
    × (new.asked ≡ grown (opened_as old output).asked (map (asked_of true) behind ++ asked_of false play ∷ []))
    × (new.closed_in ≡ with_inputs (opened_as old output).closed_in sources))
    ⊎ ((read : List ℕ) × (left : List ℕ) × (before : List SourceView) × (made : SourceView) × (more : List SourceView) × (ahead : List Asked)
    × (file ≡ read ++ left) × CountsRead resync read n × (made.left ≡ Some left) × (0 < made.faults)
    × (length before ≡ length behind) × (length more ≤ 1) × (length ahead ≤ 1)
    × (new.asked ≡ grown (opened_as old output).asked (map (asked_of true) behind ++ asked_of true play ∷ ahead))
    × (new.closed_in ≡ with_inputs (opened_as old output).closed_in (before ++ made ∷ more)))

-- these plays end plainly, and the one after them is the last that was played: it gave so many packets, and ended so. These
-- packets are written, after a failed write also a part of the next one; and that is reported, or a report failed after a
-- first part of it
pub record EndsIn (resync : Bool) (files : List (List ℕ × List ℕ)) (names : List PlayName) (output : Option (List ℕ)) (old new : DeskView)
    (end : PlayEnd) : Type 0 where
  pub behind : List PlayName
  pub play : PlayName
  pub later : List PlayName
  pub names_are : names ≡ behind ++ play ∷ later
  pub plain : AllEndPlainly (lists_of resync files behind)
  pub n : ℕ
  pub ends : EndsAs (list_of resync (file_of files play.name)) n end
  pub plain_is_last : (left : ℕ) → end ≡ Input (how.End left) → later ≡ []
  pub part : List ℕ
  pub part_is : IsPart (list_of resync (file_of files play.name)).cells n end part
  pub written_is : new.outputs ≡ outputs_with output old.outputs
      (written (packets_of (lists_of resync files behind)) ++ (written (take n (list_of resync (file_of files play.name)).cells) ++ part))
  pub reported_is : ReportsText old new (report_to (lists_of resync files behind) play.input n end)
  pub read : end ≡ Input how.ReadFault → GivesRead resync output (file_of files play.name) old new behind play n

-- an output was asked for and could not be opened; that is all that is reported
abbrev pub MissesOutput : Option (List ℕ) → DeskView → DeskView → Type 0
MissesOutput output old new = (name : List ℕ) × (failed : Bool) × (output ≡ Some name)
    × Says (asked_in_vain old purpose.Output name) new (codes "tsswitch: cannot open output" ++ 10 ∷ []) failed

-- how plays end after which a write fault is returned: by a failed write, or plainly, and then a report or the closing failed
abbrev pub MayFailLate : PlayEnd → Type 0
MayFailLate (Input (how.End left)) = Unit {0}
MayFailLate WriteFault = Unit {0}
MayFailLate _ = ⊥

-- what each status says of the plays: the end of the last one that was played is that of the status, and no other
abbrev pub StatusTells : Bool → List (List ℕ × List ℕ) → List PlayName → Option (List ℕ) → DeskView → DeskView → SwitchStatus → Type 0
StatusTells resync files names output old new status.Done =
    AllEndPlainly (lists_of resync files names) × ((left : ℕ) × EndsIn resync files names output old new (Input (how.End left)))
StatusTells resync files names output old new status.NoMemory = Unit {0}
StatusTells resync files names output old new (status.Words word) = ⊥
StatusTells resync files names output old new status.ReadFault = EndsIn resync files names output old new (Input how.ReadFault)
StatusTells resync files names output old new status.WriteFault =
    MissesOutput output old new ⊎ ((end : PlayEnd) × MayFailLate end × EndsIn resync files names output old new end)
StatusTells resync files names output old new (status.Sync input packet) =
    (ends : EndsIn resync files names output old new (Input (how.Sync packet))) × (input ≡ ends.play.input)
StatusTells resync files names output old new status.TooLong = EndsIn resync files names output old new (Input how.TooLong)

-- the status gives the first faulty word and the line is reported; nothing was opened
abbrev pub RefusesWords : ℕ → DeskView → DeskView → SwitchStatus → Type 0
RefusesWords word old new answer =
    (answer ≡ status.Words word) × ((failed : Bool) × Says old new (codes "tsswitch: words" ++ 10 ∷ []) failed)
