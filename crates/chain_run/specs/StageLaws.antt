-- What can be said of one stage of a run, whoever serves it, through its own work and what others do.
-- This project's own rule.
use Rattle.std.specs.Prelude.{◌≡◌, ℕ, suc, ◌+◌, ◌≤◌, List, [], ◌++◌, length, take, drop, Option, None}
use Rattle.ts_packet.specs.declared.cell.Cell.{Cell}
use Rattle.chain_model.specs.Apply.{StageList}
use Rattle.chain_core.specs.declared.news.News.{News}
use Rattle.chain_core.specs.declared.stage_end.StageEnd.{StageEnd}
use Rattle.chain_core.specs.Numbers.{written_of, limit_of, news_of}
use Rattle.chain_core.specs.Machine.{Visit, progress_of_stages, visit_of, start, Allowed}
use Rattle.chain_core.specs.ChainRun.{ChainRun, state_after, took}
use Rattle.chain_core.specs.Keeps.{AllKeep, Keeps, StageKeeps}
use Rattle.stage_run.specs.Seeing.{Seeing}
use Rattle.stage_run.specs.declared.stage_part.StagePart.{StagePart}
use Rattle.stage_run.specs.declared.work.Work.{Work}
use Rattle.stage_run.specs.PartLists.{PartLists}
use Rattle.stage_run.specs.PartStands.{PartStands, PartGives, MayWork}
use Rattle.stage_run.specs.Parts.{IsListOf}
use Rattle.stage_run.specs.Works.{PartWork}
use Rattle.chain_run.specs.Runs.{RunStart, nothing_told}
use Rattle.chain_run.specs.Ran.{IsValidRun}
use Rattle.chain_run.specs.OneStage.{SoFarUpTo, Doing, MayBe}

-- what is known of a list that may be the input's: nothing, that the chain theorem held of what was seen, or that a part
-- gives it
pub data Premise (S K P : Type 0) : Type 0 where
  Anything : Premise S K P
  HeldSoFar : List Visit → Premise S K P
  GivenBy : StagePart S K P → PartLists → Premise S K P

module _ {S K P : Type 0} (see : Seeing S K P) (begun : RunStart S K) where
  abbrev pub premise : Premise S K P → StageList → Type 0
  premise Anything input = Unit {0}
  premise (HeldSoFar visits) input = SoFarUpTo begun.plan begun.rules visits input
  premise (GivenBy part lists) input = PartGives see part lists input

  -- a stage that goes on, after these visits, and its news
  pub record HasNews (visits : List Visit) (k : ℕ) (part : StagePart S K P) (lists : PartLists)
      (known : Premise S K P) (news : News) : Type 0 where
    pub valid : IsValidRun begun
    pub run : ChainRun begun.plan visits
    pub is_stage : k ≤ suc begun.plan.plugins
    pub doing : Doing see begun part k lists ((state_after begun.plan visits).stages k).given None
        (written_of begun.plan (progress_of_stages (state_after begun.plan visits)))
        ((state_after begun.plan visits).stages k).taken (λ j. ((state_after begun.plan visits).stages j).given)
        (premise known)
    pub told : news ≡ news_of begun.plan (progress_of_stages (state_after begun.plan visits)) k

  -- its part worked on a window of the cells that it took, the next ones of those that the stage before gave
  pub record WorksOn (visits : List Visit) (k : ℕ) (old new : StagePart S K P) (news : News)
      (window window_new : List Cell) (work : Work) : Type 0 where
    pub in_hand : length ((state_after begun.plan visits).stages k).given + length window ≤ news.taken
    pub same_length : length window_new ≡ length window
    pub worked : PartWork see old new (length ((state_after begun.plan visits).stages k).given) news window window_new work
    pub window_is : (j : ℕ) → suc j ≡ k
        → window ≡ take (length window) (drop (length ((state_after begun.plan visits).stages k).given)
        ((state_after begun.plan visits).stages j).given)

  -- what it stands for then, and that it may give what it worked on with its next visit, as its list says
  pub record HasWorked (visits : List Visit) (k : ℕ) (old new : StagePart S K P) (lists : PartLists)
      (given : List Cell) (work : Work) : Type 0 where
    pub after : PartLists
    pub doing : Doing see begun new k after (((state_after begun.plan visits).stages k).given ++ given) work.word.ended
        (written_of begun.plan (progress_of_stages (state_after begun.plan visits)))
        ((state_after begun.plan visits).stages k).taken (λ j. ((state_after begun.plan visits).stages j).given)
        (SoFarUpTo begun.plan begun.rules visits)
    -- an input's list that may be now might have been before
    pub less : (input : StageList) → MayBe see begun new k after input → MayBe see begun old k lists input
    pub keeps : (input : StageList) → MayBe see begun new k after input
        → Keeps begun.plan begun.rules input (state_after begun.plan visits) (visit_of k given work.word)
    pub allowed : ((state_after begun.plan visits).stages k).ended ≡ None
        → (k ≡ suc begun.plan.plugins → (state_after begun.plan visits).told
        ≡ limit_of begun.plan (progress_of_stages (state_after begun.plan visits)))
        → Allowed begun.plan (state_after begun.plan visits) (visit_of k given work.word)

pub record StageLaws {S K P : Type 0} (see : Seeing S K P) : Type 0 where
  -- what a stage stands for is not changed by what others do
  pub more : (begun : RunStart S K) (part : StagePart S K P) (k : ℕ) (lists : PartLists) (given : List Cell)
      (ended : Option StageEnd) (low low_later taken taken_later : ℕ) (before before_later : ℕ → List Cell)
      (known known_later : Premise S K P)
      → low ≤ low_later → taken ≤ taken_later
      → ((j : ℕ) → suc j ≡ k → (more : List Cell) × (before_later j ≡ before j ++ more) × (length given ≤ length (before j)))
      → ((input : StageList) → premise see begun known_later input → premise see begun known input)
      → Doing see begun part k lists given ended low taken before (premise see begun known)
      → Doing see begun part k lists given ended low_later taken_later before_later
      (premise see begun known_later)
  -- at first it stands for giving and reporting nothing
  pub first : (begun : RunStart S K) (part : StagePart S K P) (k plugins : ℕ) (lists : PartLists)
      (known : Premise S K P) (input : StageList)
      → Doing see begun part k lists [] None 0 0 (λ _. []) (premise see begun known) → MayBe see begun part k lists input
      → StageKeeps begun.rules input plugins k (took start k) [] [] nothing_told
  -- its part may work after a visit
  pub may_work : (begun : RunStart S K) (visits : List Visit) (k : ℕ) (part : StagePart S K P) (lists : PartLists)
      (known : Premise S K P) (news : News) → HasNews see begun visits k part lists known news
      → MayWork (PartStands see part) (length ((state_after begun.plan visits).stages k).given) news.written lists
  -- the result of the work
  pub works : (begun : RunStart S K) (visits : List Visit) (k : ℕ) (old new : StagePart S K P) (lists : PartLists)
      (known : Premise S K P) (news : News) (window window_new : List Cell) (work : Work)
      → HasNews see begun visits k old lists known news → WorksOn see begun visits k old new news window window_new work
      → HasWorked see begun visits k old new lists (take work.done window_new) work
  -- the chain theorem holds of each earlier part of a run
  pub so_far : (begun : RunStart S K) (input : StageList) (visits : List Visit) → IsValidRun begun
      → IsListOf see.source begun.from begun.stuffing input → AllKeep begun.plan begun.rules input visits
      → ChainRun begun.plan visits → SoFarUpTo begun.plan begun.rules visits input
