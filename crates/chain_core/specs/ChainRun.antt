-- Runs of the machine, in any order of visits. This project's own rule.
use Rattle.std.specs.Prelude.{ℕ, zero, suc, ◌≤◌, List, [], ◌∷◌, take, IsSome}
use Rattle.ts_packet.specs.declared.cell.Cell.{Cell}
use Rattle.chain_core.specs.declared.core_plan.CorePlan.{CorePlan}
use Rattle.chain_core.specs.Numbers.{StagesProgress}
use Rattle.chain_core.specs.Machine.{ChainState, Visit, start, visited, Allowed}

-- the state after visits, of which the last one comes first
unfoldable pub state_after : CorePlan → List Visit → ChainState
state_after plan [] = start
state_after plan (visit ∷ earlier) = visited plan (state_after plan earlier) visit

-- the machine allows each of the visits
abbrev pub ChainRun : CorePlan → List Visit → Type 0
ChainRun plan [] = Unit {0}
ChainRun plan (visit ∷ earlier) = ChainRun plan earlier × Allowed plan (state_after plan earlier) visit

-- the cells that a stage took; the input makes its own
abbrev pub took : ChainState → ℕ → List Cell
took state zero = []
took state (suc j) = take (state.stages (suc j)).taken (state.stages j).given

-- every stage has ended
abbrev pub AllEnded : CorePlan → StagesProgress → Type 0
AllEnded plan progress = (k : ℕ) → k ≤ suc plan.plugins → IsSome (progress k).ended
