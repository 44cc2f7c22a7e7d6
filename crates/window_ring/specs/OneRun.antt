-- What each stage promises of its own visits. This project's own rule.
use Rattle.std.specs.Prelude.{◌≡◌, ℕ, List, [], ◌∷◌}
use Rattle.atomic_table.specs.Seated.{TableId}
use Rattle.chain_model.specs.PluginRule.{PluginRule}
use Rattle.chain_model.specs.Apply.{StageList}
use Rattle.chain_core.specs.declared.core_plan.CorePlan.{CorePlan}
use Rattle.chain_core.specs.Machine.{Visit}
use Rattle.chain_core.specs.ChainRun.{state_after}
use Rattle.chain_core.specs.Keeps.{Keeps}
use Rattle.window_ring.specs.Views.{Since}
use Rattle.window_ring.specs.Seats.{seen_of, IsSeat}
use Rattle.window_ring.specs.declared.view.Key.{Key}
use Rattle.window_ring.specs.declared.stage_seat.StageSeat.{StageSeat}

-- each visit of stage `k` among these was made as its list says
abbrev pub KeptBy : CorePlan → List PluginRule → StageList → ℕ → List Visit → Type 0
KeptBy plan rules input k [] = Unit {0}
KeptBy plan rules input k (v ∷ vs) =
    KeptBy plan rules input k vs × (v.stage ≡ k → Keeps plan rules input (state_after plan vs) v)

-- all visits of stage `k` in a history are in a part of it, and were made as its list says
abbrev pub HasKept : CorePlan → List PluginRule → StageList → ℕ → List Visit → Type 0
HasKept plan rules input k history =
    (seen : List Visit) × Since k seen history × KeptBy plan rules input k seen

-- the seat rests, and all that its stage did is as its list says
pub record IsDriven (key : Key) (table : TableId) (rules : List PluginRule) (input : StageList)
    (seat : StageSeat) : Type 0 where
  pub seat_is : IsSeat key table seat
  pub kept : KeptBy key.plan rules input seat.stage (seen_of seat)
