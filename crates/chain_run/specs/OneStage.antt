-- What one stage of a run stands for, in terms of that stage alone. This project's own rule.
use Rattle.std.specs.Prelude.{◌≡◌, ℕ, suc, ◌<◌, ◌≤◌, List, ◌++◌, length, take, drop, slice_index_or, Option, None, Some}
use Rattle.ts_packet.specs.declared.cell.Cell.{Cell}
use Rattle.chain_model.specs.PluginRule.{PluginRule}
use Rattle.chain_model.specs.Apply.{StageList}
use Rattle.chain_model.specs.StageLists.{rule_after}
use Rattle.chain_model.specs.Joint.{joint_position}
use Rattle.chain_core.specs.declared.core_plan.CorePlan.{CorePlan}
use Rattle.chain_core.specs.declared.stage_end.StageEnd.{StageEnd}
use Rattle.chain_core.specs.declared.stage_end.StageEnd.TheVariants.{WriteFault, NoMemory}
use Rattle.chain_core.specs.Stages.{stages_of}
use Rattle.chain_core.specs.Numbers.{written_of}
use Rattle.chain_core.specs.Machine.{ChainState, Visit, progress_of_stages}
use Rattle.chain_core.specs.ChainRun.{state_after}
use Rattle.chain_core.specs.EveryOrder.{SoFar}
use Rattle.stage_run.specs.Seeing.{Seeing}
use Rattle.stage_run.specs.declared.stage_part.StagePart.{StagePart}
use Rattle.stage_run.specs.PartLists.{PartLists}
use Rattle.stage_run.specs.PartStands.{PartStands, PartGives, MayWantMemory, rule_of, preallocated_of, kind_of, stuffing_in, source_kind, sink_kind, stream_kind, an_input, a_plugin, an_output}
use Rattle.chain_model.specs.Written.{IsPartOfFirst}
use Rattle.stage_run.specs.Parts.{IsListOf, IsSourceOf, IsSinkOf}
use Rattle.chain_model.specs.InputRead.{MayRead}
use Rattle.chain_run.specs.Runs.{RunStart}

-- the chain theorem holds of each earlier part of what was seen
abbrev pub SoFarUpTo : CorePlan → List PluginRule → List Visit → StageList → Type 0
SoFarUpTo plan rules seen input = (x q : List Visit) → seen ≡ x ++ q → SoFar plan rules input (state_after plan q)

module _ {S K P : Type 0} (see : Seeing S K P) (begun : RunStart S K) where
  -- an input that knows that `low` cells were written
  pub record IsInput (part : StagePart S K P) (lists : PartLists) (low : ℕ) : Type 0 where
    pub kind : kind_of part ≡ an_input
    pub stuffing_is : stuffing_in part ≡ Some begun.stuffing
    pub stream : stream_kind part ≡ source_kind begun.from
    pub source : IsSourceOf see.source begun.from lists.source
    pub within : MayRead begun.plan.buffer low (length lists.read)
    pub is_list : (input : StageList) → PartGives see part lists input
        → IsListOf see.source begun.from begun.stuffing input

  -- the plugin after `j` others, which met as many of the cells that were given before it as it gave, and of which the lines
  -- were taken away as far as is known
  pub record IsPlugin (part : StagePart S K P) (j : ℕ) (lists : PartLists) (given before : List Cell)
      : Type 0 where
    pub kind : kind_of part ≡ a_plugin
    pub rule_is : rule_of see part ≡ rule_after begun.rules j
    pub room_is : preallocated_of see part ≡ slice_index_or begun.rooms j None
    pub met : lists.met ≡ take (length given) before
    pub since : lists.from ≡ begun.told j

  -- a write failed in the packet of the next cell, and no joint position is so near
  pub record Failed (lists : PartLists) (given before : List Cell) (taken : ℕ) (Gives : StageList → Type 0)
      : Type 0 where
    pub few : length given < taken
    pub part : IsPartOfFirst (drop (length given) before) lists.cut
    pub late : (input : StageList) → Gives input → (joint : ℕ)
        → joint_position begun.rules input (stages_of begun.plan.users) ≡ Some joint → length given < joint

  -- the output
  pub record IsOutput (part : StagePart S K P) (lists : PartLists) (given before : List Cell)
      (ended : Option StageEnd) (taken : ℕ) (Gives : StageList → Type 0) : Type 0 where
    pub kind : kind_of part ≡ an_output
    pub stream : stream_kind part ≡ sink_kind begun.to
    pub met : lists.met ≡ take (length given) before
    pub sink : IsSinkOf see.sink begun.to lists.sink
    pub failed : ended ≡ Some WriteFault → Failed lists given before taken Gives

  -- stage `k` stands for these lists: it gave `given` and reported `ended`, as it knew that `low` cells were
  -- written, that it took `taken` cells, and what each other stage gave
  pub record Doing (part : StagePart S K P) (k : ℕ) (lists : PartLists) (given : List Cell)
      (ended : Option StageEnd) (low taken : ℕ) (gave : ℕ → List Cell) (Gives : StageList → Type 0)
      : Type 0 where
    pub stands_for : PartStands see part lists ended
    pub given_is : lists.given ≡ given
    pub mark : lists.mark ≤ low
    -- no stage takes more than the buffer ahead of the mark, so it may run out of memory only where there is no room for that
    pub memory : ended ≡ Some NoMemory → MayWantMemory see part begun.plan.buffer
    pub input : 0 ≡ k → IsInput part lists low
    pub plugin : (j : ℕ) → suc j ≡ k → j < begun.plan.plugins → IsPlugin part j lists given (gave j)
    pub output : suc begun.plan.plugins ≡ k
        → IsOutput part lists given (gave begun.plan.plugins) ended taken Gives

  -- the input's list may be this one, as far as stage `k` knows
  abbrev pub MayBe : StagePart S K P → ℕ → PartLists → StageList → Type 0
  MayBe part k lists input = 0 ≡ k → PartGives see part lists input

  -- the same in a state of the whole chain
  abbrev pub StandsIn : StagePart S K P → ℕ → PartLists → ChainState → (StageList → Type 0) → Type 0
  StandsIn part k lists state Gives =
      Doing part k lists (state.stages k).given (state.stages k).ended
      (written_of begun.plan (progress_of_stages state)) (state.stages k).taken (λ j. (state.stages j).given) Gives
