-- What the turn guards: the numbers of the chain, the cells between the stages, and the last visit.
-- This project's own rule.
use Rattle.std.specs.Prelude.{◌≡◌, ℕ, suc, ◌+◌, ◌-◌, ◌≤◌, ◌==◌, if◌then◌else◌, List, length, drop, slice_index_or}
use Rattle.ts_packet.specs.declared.cell.Cell.{Cell}
use Rattle.chain_core.specs.declared.core_plan.CorePlan.{CorePlan}
use Rattle.chain_core.specs.Machine.{Visit, visit_of, ChainState}
use Rattle.chain_core.specs.ChainRun.{state_after}
use Rattle.chain_core.specs.CoreNumbers.{StandsFor}
use Rattle.window_ring.specs.Hands.{Row, row_of, no_row}
use Rattle.window_ring.specs.Views.{land_of}
use Rattle.window_ring.specs.declared.state.State.{State}
use Rattle.window_ring.specs.declared.view.Key.{Key}

-- the link after a stage: after the output lie the free cells
abbrev pub behind : CorePlan → ℕ → ℕ
behind plan stage = if stage == suc plan.plugins then 0 else suc stage

-- the cells on a link: link `suc k` leads from stage `k` to the next one, and on link 0 lie the free cells
abbrev pub on_link : List Row → ℕ → Row
on_link links k = slice_index_or links k no_row

-- the same in the value
abbrev pub link : State → ℕ → Row
link value k = on_link value.links.items k

-- the last of them, so many as a visit gave
abbrev pub last_cells : Row → ℕ → List Cell
last_cells row done = drop (length row.cells - done) row.cells

-- the last visit: the cells that it gave are the last ones on the link after its stage
abbrev pub visit_in : CorePlan → State → Visit
visit_in plan value =
    visit_of value.last.stage
    (last_cells (link value (behind plan value.last.stage)) value.last.done) value.last.word

-- the cells that wait on the link to stage `suc k`
abbrev pub waiting : ChainState → ℕ → List Cell
waiting state k = drop (state.stages (suc k)).taken (state.stages k).given

-- the value stands for a history: it has its numbers, and on each link lie the cells that the stage before
-- it gave and the one after it has not taken; the free cells are the others, in the slots that the input
-- takes next
pub record Stands (key : Key) (value : State) (history : List Visit) : Type 0 where
  pub plan_is : value.core.plan ≡ key.plan
  pub numbers : StandsFor value.core (state_after key.plan history)
  pub count : length value.links.items ≡ suc (suc key.plan.plugins)
  pub links : (k : ℕ) → k ≤ key.plan.plugins
      → link value (suc k) ≡ row_of ((state_after key.plan history).stages (suc k)).taken (land_of key)
      (waiting (state_after key.plan history) k)
  pub free_at : (link value 0).at ≡ ((state_after key.plan history).stages 0).taken
  pub free_land : (link value 0).land ≡ land_of key
  pub free_many : length (link value 0).cells + ((state_after key.plan history).stages 0).taken
      ≡ length ((state_after key.plan history).stages (suc key.plan.plugins)).given + key.plan.buffer
