-- What a stage does: it gives its list, ends where its list ends, and reports its agreement. It is said of what
-- the stage took, gave and reports, and of nothing else. This project's own rule.
use Rattle.std.specs.Prelude.{◌≡◌, ℕ, zero, suc, ◌+◌, ◌<◌, List, [], ◌∷◌, ◌++◌, length, take, Option, Some, false}
use Rattle.std.specs.List.{All}
use Rattle.ts_packet.specs.declared.cell.Cell.{Cell}
use Rattle.chain_model.specs.declared.input_end.InputEnd.{InputEnd}
use Rattle.chain_model.specs.declared.input_end.InputEnd.TheVariants.{End, Sync, ReadFault, TooLong}
use Rattle.chain_model.specs.Prefix.{IsPrefix}
use Rattle.chain_model.specs.PluginRule.{PluginRule}
use Rattle.chain_model.specs.Apply.{OwnEnd, input_over, last_passed, stopped, refused, StageList, apply}
use Rattle.chain_model.specs.StageLists.{rule_after}
use Rattle.chain_model.specs.Joint.{agreement_of}
use Rattle.chain_core.specs.declared.core_plan.CorePlan.{CorePlan}
use Rattle.chain_core.specs.declared.stage_end.StageEnd.{StageEnd}
use Rattle.chain_core.specs.declared.stage_end.StageEnd.TheVariants.{Input, Last, Stop, Refuse, WriteFault, NoMemory, Followed}
use Rattle.chain_core.specs.declared.stage_word.StageWord.{StageWord}
use Rattle.chain_core.specs.Numbers.{UsersArePlugins}
use Rattle.chain_core.specs.Machine.{ChainState, Visit}
use Rattle.chain_core.specs.ChainRun.{ChainRun, state_after, took}

-- the stage has given all of its list, and this is how the list ends
pub record IsEndOf (list : StageList) (given : List Cell) (own : OwnEnd) : Type 0 where
  pub ended : list.ended ≡ Some own
  pub whole : given ≡ list.cells

-- the stage may end so: by the own end of its list, by a fault, or by following
abbrev pub EndsAs : ℕ → ℕ → StageList → List Cell → StageEnd → Type 0
EndsAs plugins k list given (Input (End left)) = IsEndOf list given (input_over (End left))
EndsAs plugins k list given (Input (Sync packet)) = IsEndOf list given (input_over (Sync packet))
EndsAs plugins k list given (Input ReadFault) = k ≡ 0
EndsAs plugins k list given (Input TooLong) = IsEndOf list given (input_over TooLong)
EndsAs plugins k list given Last = IsEndOf list given last_passed
EndsAs plugins k list given Stop = IsEndOf list given stopped
EndsAs plugins k list given (Refuse reason) = IsEndOf list given (refused reason)
EndsAs plugins k list given WriteFault = k ≡ suc plugins
EndsAs plugins k list given NoMemory = Unit {0}
EndsAs plugins k list given Followed = Unit {0}

-- stage `k` has given `given`, of the list that it makes of the cells that it took, and reports this end:
-- it reports that a last packet passed with the visit that gives this packet
pub record KeepsList (plugins k : ℕ) (list : StageList) (given : List Cell) (ended : Option StageEnd) : Type 0 where
  pub gives : IsPrefix given list.cells
  pub ends : (end : StageEnd) → ended ≡ Some end → EndsAs plugins k list given end
  pub last_at_once : IsEndOf list given last_passed → ended ≡ Some Last

-- a plugin that met the cells `met`, and had given `before` cells before this visit, reports its agreement with
-- the visit that gives the cell at which it first holds
pub record KeepsAgreement (rule : PluginRule) (met : List Cell) (before : ℕ) (told : Option ℕ) : Type 0 where
  pub truly : (agreed : ℕ) → told ≡ Some agreed → agreement_of rule met ≡ Some agreed
  pub at_once : (agreed : ℕ) → agreement_of rule met ≡ Some agreed → before < agreed → told ≡ Some agreed

-- what stage `k` makes of the cells that it took; past the plugins everything passes
abbrev pub list_made : List PluginRule → StageList → ℕ → List Cell → StageList
list_made rules input zero took = input
list_made rules input (suc j) took = apply (rule_after rules j) took

-- the stage reports its agreement as its rule says; the input has none
abbrev pub Agrees : List PluginRule → ℕ → List Cell → ℕ → ℕ → Option ℕ → Type 0
Agrees rules zero took before now told = Unit {0}
Agrees rules (suc j) took before now told = KeepsAgreement (rule_after rules j) (take now took) before told

-- stage `k`, which took and gave these cells before, gives `cells` and reports the word as its list says
pub record StageKeeps (rules : List PluginRule) (input : StageList) (plugins k : ℕ) (took given cells : List Cell)
    (word : StageWord) : Type 0 where
  pub list : KeepsList plugins k (list_made rules input k took) (given ++ cells) word.ended
  pub agreement : Agrees rules k took (length given) (length given + length cells) word.agreed

-- the stage of the visit does so
abbrev pub Keeps : CorePlan → List PluginRule → StageList → ChainState → Visit → Type 0
Keeps plan rules input state visit =
    StageKeeps rules input plan.plugins visit.stage (took state visit.stage) (state.stages visit.stage).given visit.cells visit.word

-- each stage does so at each of its visits, of which the last one comes first
abbrev pub AllKeep : CorePlan → List PluginRule → StageList → List Visit → Type 0
AllKeep plan rules input [] = Unit {0}
AllKeep plan rules input (visit ∷ earlier) =
    AllKeep plan rules input earlier × Keeps plan rules input (state_after plan earlier) visit

-- what the chain theorem asks of a run: the rules are those of the plan's plugins, only plugins use joint
-- termination, none of them agrees before it met a cell, the input's list ends by the input's end, and every
-- visit is allowed by the machine and made as the stage's list says
pub record KeptRun (plan : CorePlan) (rules : List PluginRule) (input : StageList) (visits : List Visit) : Type 0 where
  pub plugins : length rules ≡ plan.plugins
  pub users : UsersArePlugins plan
  pub agree_late : All (λ rule. rule.agrees [] ≡ false) rules
  pub input_ends : (how : InputEnd) × (input.ended ≡ Some (input_over how))
  pub run : ChainRun plan visits
  pub kept : AllKeep plan rules input visits
