-- A run in one thread that tells after each round the lines of its plugins and what its input's source says there, and who hears
-- it. This project's own rule.
use Rattle.std.specs.Prelude.{◌≡◌, ◌≢◌, ◌⊎◌, ◌≤◌, ◌<◌, ℕ, suc, List, [], ◌∷◌, ◌++◌, length, map, Bool, true, Option, None, Some, IfSome}
use Rattle.std.specs.List.{AllByRecursion}
use Rattle.ts_packet.specs.declared.cell.Cell.{Cell}
use Rattle.ts_outside.specs.Source.{SourceView, unread, read_failed}
use Rattle.chain_model.specs.InputRead.{list_at_fault}
use Rattle.chain_model.specs.Reports.{NamedRule}
use Rattle.chain_core.specs.Stages.{stages_of}
use Rattle.chain_core.specs.declared.closed.Closed.{Closed}
use Rattle.chain_core.specs.declared.core_plan.CorePlan.{CorePlan}
use Rattle.chain_core.specs.CoreNumbers.{CoreNumbers, progress_of_core}
use Rattle.plugin_trait.specs.declared.heard.Heard.{Heard}
use Rattle.stage_run.specs.Seeing.{Seeing}
use Rattle.stage_run.specs.PartStands.{source_kind, a_stream}
use Rattle.stage_run.specs.Parts.{IsSourceOf}
use Rattle.stage_run.specs.declared.input_part.InputPart.{InputPart}
use Rattle.stage_run.specs.declared.output_part.OutputPart.{OutputPart}
use Rattle.stage_run.specs.declared.stage_part.StagePart.{StagePart}
use Rattle.stage_run.specs.declared.stuffing.Stuffing.{Stuffing}
use Rattle.chain_live.specs.LiveReports.{lines_below}
use Rattle.chain_rounds.specs.Told.{shown}
use Rattle.chain_rounds.specs.declared.told_line.ToldLine.{ToldLine}
use Rattle.chain_run.specs.Runs.{RunStart, began_with}
use Rattle.chain_run.specs.RunTold.{RunTold}
use Rattle.chain_run.specs.declared.serial_chain.SerialChain.{SerialChain}
use Rattle.chain_tells.specs.Telling.{Tells}

-- what is told in a round: the lines of plugins at the positions from one to another, and the input's source as it stands, if it
-- reads one
pub record Round (S : Type 0) : Type 0 where
  pub lines : List ToldLine
  pub source : Option S
  pub from : ℕ
  pub to : ℕ

-- the lines of rounds, of which the last one comes first
abbrev pub lines_of_rounds : {S : Type 0} → List (Round S) → List ToldLine
lines_of_rounds [] = []
lines_of_rounds (round ∷ earlier) = lines_of_rounds earlier ++ round.lines

-- the listener heard these rounds, one behind another up to a position, and nothing else: the last one comes first
abbrev pub HeardRounds : {S L : Type 0} → (L → L → Round S → Type 0) → L → L → ℕ → List (Round S) → Type 0
HeardRounds hears first now w [] = (now ≡ first) × (w ≡ 0)
HeardRounds {L = L} hears first now w (round ∷ earlier) =
    (before : L) × HeardRounds hears first before round.from earlier × (round.to ≡ w) × hears before now round

-- the line is at a position from one to another
abbrev pub IsWithin : ℕ → ℕ → ToldLine → Type 0
IsWithin from to line = (from ≤ line.line.at) × (line.line.at < to)

module _ {S K P : Type 0} (see : Seeing S K P) (begun : RunStart S K) where
  -- a source that the input reads, of which these bytes were read, and at most one call failed: the whole packets among them give all cells up to a
  -- position, or nothing of it is left, where that is known
  pub record ReadsUpTo (source : S) (to : ℕ) : Type 0 where
    pub stream : source_kind begun.from ≡ a_stream
    pub first : SourceView
    pub first_is : IsSourceOf see.source begun.from first
    pub read : List ℕ
    pub read_is : (first ≡ unread read (see.source source)) ⊎ (read_failed first ≡ unread read (see.source source))
    pub reach : IfSome (see.source source).left (λ left. left ≡ []) ⊎ (to ≤ length (list_at_fault begun.stuffing read).cells)

  -- the same, if the input reads a source
  abbrev pub SourceReaches : Option S → ℕ → Type 0
  SourceReaches (Some source) to = ReadsUpTo source to
  SourceReaches None to = source_kind begun.from ≢ a_stream

  -- a round as it was when it was told
  pub record RoundStands (round : Round S) : Type 0 where
    pub goes_on : round.from ≤ round.to
    pub lines : AllByRecursion (IsWithin round.from round.to) round.lines
    pub source : SourceReaches round.source round.to

  -- what a chain in one thread told so far, up to a position, and the listener heard
  pub record HasToldRounds {L : Type 0} (plugins : List NamedRule) (name_of : ℕ → List ℕ) (hears : L → L → Round S → Type 0)
      (first now : L) (told : ℕ) (core : CoreNumbers) (parts : List (StagePart S K P)) (cells : List Cell) : Type 0 where
    pub rounds : List (Round S)
    pub heard : HeardRounds hears first now told rounds
    pub stand : AllByRecursion RoundStands rounds
    pub tells : Tells see begun plugins name_of (λ _. told) told (lines_of_rounds rounds) core parts cells

-- a run that was closed, and what was told of it: the lines of the run without faults at the positions below `w`, which the
-- listener heard in these rounds, with what the input's source said in each; the plugins came back with the lines from `w` on
pub record LiveRounds {S K P L : Type 0} (see : Seeing S K P) (plugins : List NamedRule) (name_of : ℕ → List ℕ)
    (hears : L → L → Round S → Type 0) (first now : L) (all : Bool) (from made_from : InputPart S) (stuffing : Stuffing)
    (met_none made : List (Heard P)) (to made_to : OutputPart K) (plan : CorePlan) (closed : Closed) : Type 0 where
  pub w : ℕ
  pub run : RunTold see (λ _. w) from made_from stuffing met_none made to made_to plan closed
  pub rounds : List (Round S)
  pub heard : HeardRounds hears first now w rounds
  pub stand : AllByRecursion (RoundStands see (began_with see from stuffing met_none to plan)) rounds
  pub lines : map (shown name_of) (lines_of_rounds rounds) ≡ lines_below (record {
    input = run.list;
    plugins = plugins;
    users = stages_of plan.users;
  }) w
  pub within : w ≤ closed.cut
  -- all was told of the run, but where memory ran out for the last lines
  pub whole : all ≡ true → w ≡ closed.cut

-- ---- the same of a chain as a whole

module _ {S K P L : Type 0} (see : Seeing S K P) (hears : L → L → Round S → Type 0) where
  -- whatever the chain told before, up to this position, and from whenever on the listener is looked at, it told more, and the
  -- listener heard it
  abbrev pub TellsRounds : L → L → ℕ → ℕ → SerialChain S K P → SerialChain S K P → Type 0
  TellsRounds was now told told_new old new = (begun : RunStart S K) (plugins : List NamedRule) (name_of : ℕ → List ℕ) (first : L)
      → HasToldRounds see begun plugins name_of hears first was told old.core old.parts.items old.cells.items
      → HasToldRounds see begun plugins name_of hears first now told_new new.core new.parts.items new.cells.items

  -- all that the output has given was told, where nothing is late
  abbrev pub IsAllTold : Bool → ℕ → SerialChain S K P → Type 0
  IsAllTold all told chain = all ≡ true → told ≡ (progress_of_core chain.core (suc chain.core.plan.plugins)).given
