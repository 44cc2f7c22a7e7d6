-- Plays that were played, and what was asked for and closed meanwhile. This project's own rule.
use Rattle.std.specs.Prelude.{Option, ◌≡◌, ◌⊎◌, ℕ, List, [], ◌∷◌, ◌++◌, length, map, Bool, true, false, Some}
use Rattle.std.specs.List.{flat_map}
use Rattle.ts_packet.specs.declared.cell.Cell.{Cell}
use Rattle.ts_outside.specs.Source.{SourceView, own_bytes}
use Rattle.ts_outside.specs.declared.requests.Asked.{Asked}
use Rattle.ts_outside.specs.declared.requests.Purpose.TheVariants as purpose
use Rattle.ts_outside.specs.declared.closed_inputs.ClosedInput.{ClosedInput}
use Rattle.ts_outside.specs.Desk.{DeskView, content, with_input}
use Rattle.chain_model.specs.declared.input_end.InputEnd.TheVariants.{End, ReadFault}
use Rattle.chain_model.specs.Apply.{StageList, input_over}
use Rattle.chain_plays.specs.declared.played.PlayEnd.{PlayEnd}
use Rattle.chain_plays.specs.declared.played.PlayEnd.TheVariants.{Input}
use Rattle.chain_plays.specs.PlayList.{cause_of}
use Rattle.switch_top.specs.PlayNames.{PlayName}
use Rattle.switch_top.specs.PlayLists.{IsListOf}
use Rattle.switch_top.specs.PlaySources.{WasRead, ReadsFile}
use Rattle.switch_top.specs.Lines.{play_line}

-- a play that was played to its plain end: its list, how many bytes of its file were left out, and its source when it was closed
pub record Behind : Type 0 where
  pub play : PlayName
  pub list : StageList
  pub left : ℕ
  pub source : SourceView

-- the source of a file when it was opened
abbrev pub opened_source : DeskView → List ℕ → SourceView
opened_source start name = record { left = content start name; faults = 0; origin = own_bytes }

-- the list is the file's, and it ends plainly; its source was closed when some of it was read
pub record IsAfter (resync : Bool) (start : DeskView) (b : Behind) : Type 0 where
  pub list_is : IsListOf resync start.files b.play.name b.list
  pub plain : b.list.ended ≡ Some (input_over (End b.left))
  pub read : WasRead resync (opened_source start b.play.name) b.source

abbrev pub names_of : List Behind → List PlayName
names_of behind = map (λ b. b.play) behind

-- their packets, joined
abbrev pub cells_of : List Behind → List Cell
cells_of behind = flat_map (λ (b : Behind). b.list.cells) behind

-- their lines
abbrev pub lines_of : List Behind → List ℕ
lines_of behind = flat_map (λ (b : Behind). play_line b.play.input (length b.list.cells) (Input (End b.left))) behind

-- what was asked for
abbrev pub asked_of : Bool → PlayName → Asked
asked_of ok play = record { purpose = purpose.Input; name = play.name; ok = ok }

abbrev pub all_asked : List Behind → List Asked
all_asked behind = map (λ (b : Behind). asked_of true b.play) behind

-- a first part of the plays was asked for; the last of them may have failed
abbrev pub AskedFirst : List PlayName → List Asked → Type 0
AskedFirst names asked = (before : List PlayName) × (rest : List PlayName) × (names ≡ before ++ rest)
    × ((asked ≡ map (asked_of true) before)
    ⊎ ((play : PlayName) × (later : List PlayName) × (rest ≡ play ∷ later)
    × (asked ≡ map (asked_of true) before ++ asked_of false play ∷ [])))

-- a play that is not played: it could not be opened; or it was, and closed when some of it may have been read
abbrev pub LeavesPlay : Bool → DeskView → PlayName → List Asked → List SourceView → Type 0
LeavesPlay resync start play ahead more =
    ((ahead ≡ asked_of false play ∷ []) × (more ≡ []))
    ⊎ ((source : SourceView) × (ahead ≡ asked_of true play ∷ []) × (more ≡ source ∷ [])
    × WasRead resync (opened_source start play.name) source)

-- after the last play that was played the first of these was asked for, and no other, and left; or there are none
abbrev pub AsksNext : Bool → DeskView → List PlayName → List Asked → List SourceView → Type 0
AsksNext resync start later ahead more =
    ((later ≡ []) × (ahead ≡ []) × (more ≡ []))
    ⊎ ((play : PlayName) × (rest : List PlayName) × (later ≡ play ∷ rest) × LeavesPlay resync start play ahead more)

abbrev pub sources_of : List Behind → List SourceView
sources_of behind = map (λ (b : Behind). b.source) behind

-- the closed inputs with some more
unfoldable pub with_inputs : Option (List ClosedInput) → List SourceView → Option (List ClosedInput)
with_inputs closed [] = closed
with_inputs closed (s ∷ ss) = with_inputs (with_input closed s) ss

-- what was read of the source of the last play before it was closed, and what was asked for and closed after it; or the play
-- could not be opened, and nothing was read, asked for or closed after it
abbrev pub LastRead : Bool → ℕ → DeskView → List Behind → List ℕ → ℕ → PlayEnd → List PlayName → List Asked → Bool → List SourceView → Type 0
LastRead resync buffer start behind name n end later ahead true sources =
    (made : SourceView) × (more : List SourceView) × (sources ≡ sources_of behind ++ made ∷ more) × AsksNext resync start later ahead more
    × ReadsFile resync buffer (opened_source start name) made n (cause_of end)
LastRead resync buffer start behind name n end later ahead false sources =
    (sources ≡ sources_of behind) × (n ≡ 0) × (end ≡ Input ReadFault) × (ahead ≡ [])
