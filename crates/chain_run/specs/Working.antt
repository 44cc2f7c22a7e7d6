-- How a stage works on a window of the buffer. This project's own rule.
use Rattle.std.specs.Prelude.{◌≡◌, ℕ, ◌+◌, ◌%◌, ◌<◌, ◌≤◌, List, ◌++◌, length, take, drop, slice_index_or, slice_set}
use Rattle.ts_packet.specs.declared.cell.Cell.{Cell}
use Rattle.chain_core.specs.declared.news.News.{News}
use Rattle.chain_core.specs.Machine.{ChainState, Visit, visit_of, visited, news_after}
use Rattle.chain_core.specs.CoreNumbers.{CoreNumbers, StandsFor, progress_of_core}
use Rattle.stage_run.specs.Seeing.{Seeing}
use Rattle.stage_run.specs.declared.stage_part.StagePart.{StagePart}
use Rattle.stage_run.specs.declared.work.Work.{Work}
use Rattle.stage_run.specs.Works.{PartWork}
use Rattle.chain_run.specs.declared.serial_chain.SerialChain.{SerialChain}
use Rattle.chain_run.specs.Runs.{nothing_told, RunStart}
use Rattle.chain_run.specs.SerialRuns.{NumbersFit, Runs, remaining_work}

module _ {S K P : Type 0} (see : Seeing S K P) where
  -- a chain that runs, as it began
  pub record IsRunning (begun : RunStart S K) (core : CoreNumbers) (parts : List (StagePart S K P))
      (cells : List Cell) : Type 0 where
    pub fits : NumbersFit begun core (length parts) (length cells)
    pub runs : Runs see begun core parts cells

  -- a chain that ran on from these visits: its stages made more
  pub record RanOn (begun : RunStart S K) (visits : List Visit) (core : CoreNumbers) (parts : List (StagePart S K P))
      (cells : List Cell) : Type 0 where
    pub now : IsRunning begun core parts cells
    pub more : List Visit
    pub visits_are : now.runs.visits ≡ more ++ visits

  -- a chain that runs, however it began
  abbrev pub IsRunningSomehow : CoreNumbers → List (StagePart S K P) → List Cell → Type 0
  IsRunningSomehow core parts cells = (begun : RunStart S K) × IsRunning begun core parts cells

  -- the stage of this number worked on cells that are in one row of the buffer
  pub record StageWorks (parts parts_new : List (StagePart S K P)) (cells cells_new : List Cell)
      (stage at : ℕ) (news : News) (work : Work) : Type 0 where
    pub old : StagePart S K P
    pub new : StagePart S K P
    pub is_old : old ≡ slice_index_or parts stage old
    pub is_new : parts_new ≡ slice_set parts stage new
    pub len : ℕ
    pub in_hand : at + len ≤ news.taken
    pub some : at < news.taken → 0 < len
    pub in_row : at % length cells + len ≤ length cells
    pub window_new : List Cell
    pub same_length : length window_new ≡ len
    pub cells_are : cells_new
        ≡ take (at % length cells) cells ++ (window_new ++ drop (at % length cells + len) cells)
    pub worked : PartWork see old new at news (take len (drop (at % length cells) cells)) window_new work

  -- ---- the same of a chain as a whole

  abbrev pub RunsSomehow : SerialChain S K P → Type 0
  RunsSomehow chain = IsRunningSomehow chain.core chain.parts.items chain.cells.items

  -- whatever it began as, the chain runs on
  abbrev pub RunsOn : SerialChain S K P → SerialChain S K P → Type 0
  RunsOn old new = (begun : RunStart S K) (goes : IsRunning begun old.core old.parts.items old.cells.items)
      → RanOn begun goes.runs.visits new.core new.parts.items new.cells.items

  -- the stage worked on cells after those that it has given
  abbrev pub WorksOn : SerialChain S K P → SerialChain S K P → ℕ → News → Work → Type 0
  WorksOn old new stage news work =
      StageWorks old.parts.items new.parts.items old.cells.items new.cells.items
      stage (progress_of_core old.core stage).given news work

-- less is left to do
abbrev pub LeavesLess : {S K P : Type 0} → SerialChain S K P → SerialChain S K P → Type 0
LeavesLess old new =
    remaining_work (progress_of_core new.core) (old.core.plan.plugins + 2)
    < remaining_work (progress_of_core old.core) (old.core.plan.plugins + 2)

-- a stage made a visit that gave and reported nothing, and these are its news
pub record Looks (core new : CoreNumbers) (stage : ℕ) (news : News) : Type 0 where
  pub plan_same : new.plan ≡ core.plan
  pub visited_is : (state : ChainState) (gave : List Cell) → length gave ≡ 0 → StandsFor core state
      → StandsFor new (visited core.plan state (visit_of stage gave nothing_told))
  pub news_is : (state : ChainState) (gave : List Cell) → length gave ≡ 0 → StandsFor core state
      → news ≡ news_after core.plan state (visit_of stage gave nothing_told)
