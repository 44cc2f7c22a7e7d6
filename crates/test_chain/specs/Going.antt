-- The seat of a stage that has not ended, in a ring without joint termination. This project's own rule.
use Rattle.std.specs.Prelude.{◌≡◌, suc, ◌<◌, ◌≤◌, [], None}
use Rattle.atomic_table.specs.Seated.{TableId}
use Rattle.chain_core.specs.Stages.{stages_of}
use Rattle.chain_core.specs.CoreNumbers.{IsValidPlan}
use Rattle.chain_core.specs.ChainRun.{state_after}
use Rattle.window_ring.specs.declared.view.Key.{Key}
use Rattle.window_ring.specs.declared.stage_seat.StageSeat.{StageSeat}
use Rattle.window_ring.specs.Seats.{seen_of, IsSeat}

-- the seat belongs to a stage that has not ended, in a ring whose plan has no users of joint termination
pub record GoesOn (key : Key) (table : TableId) (seat : StageSeat) : Type 0 where
  pub seat_is : IsSeat key table seat
  pub words : 0 < table.words
  pub slots : table.slots ≡ 1
  pub valid : IsValidPlan key.plan
  pub no_users : stages_of key.plan.users ≡ []
  pub stage : seat.stage ≤ suc key.plan.plugins
  pub goes_on : ((state_after key.plan (seen_of seat)).stages seat.stage).ended ≡ None
