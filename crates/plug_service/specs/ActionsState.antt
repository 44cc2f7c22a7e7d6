-- When what is kept of the actions of all PIDs stands for the tables in force.
-- This project's own rule.
use Rattle.std.specs.Prelude.{◌≡◌, ℕ, ◌<◌, List, [], Option, slice_index_or}
use Rattle.ts_packet.specs.declared.numbers.TheConstants.{PID_COUNT}
use Rattle.ts_table_rows.specs.TableValues.{TableHolding}
use Rattle.plug_psi.specs.InForce.{pat_of, pmt_of}
use Rattle.plug_psi.specs.ForceStands as forcing
use Rattle.named_services.specs.NamesStand.{NamesStand}
use Rattle.named_services.specs.declared.service_word.ServiceWord.{ServiceWord}
use Rattle.plug_service.specs.Actions.{action_of, other_pids}
use Rattle.plug_service.specs.Present.{present_after}
use Rattle.plug_service.specs.declared.present.Present.{Present}
use Rattle.plug_service.specs.declared.way.Way.{Way}
use Rattle.plug_service.specs.declared.way.Way.TheVariants.{Keep, Remove}
use Rattle.plug_service.specs.declared.action.Action.{Action}
use Rattle.plug_service.specs.declared.action.Action.TheVariants.{Drop}
use Rattle.plug_service.specs.declared.pid_actions.PidActions.{PidActions}
use Rattle.plug_service.specs.declared.service_follower.ServiceFollower.{ServiceFollower}

-- the PIDs whose flags are not set even if the services' PMTs have them
abbrev pub protected_pids : Way → List ℕ → Option TableHolding → (ℕ → Option TableHolding) → List ℕ
protected_pids (Keep kept) services pat pmts = []
protected_pids (Remove everywhere) services pat pmts = other_pids services pat pmts

-- a row has for each PID what becomes of its packets if this PAT and these PMTs are in force
abbrev pub AreActions : Way → List ℕ → List Action → Option TableHolding → (ℕ → Option TableHolding) → Type 0
AreActions way services row pat pmts = (pid : ℕ) → pid < PID_COUNT → slice_index_or row pid Drop ≡ action_of way services pat pmts pid

-- the actions stand for this PAT and these PMTs, where these services are meant
abbrev pub ActionsStand : PidActions → Present → Option TableHolding → (ℕ → Option TableHolding) → Type 0
ActionsStand actions present pat pmts = AreActions present.way present.services actions.row pat pmts

-- the actions, the services and the tables in force stand for the packets that were processed
pub record FollowsServices (way : Way) (words : List ServiceWord) (follower : ServiceFollower) (met : List (List ℕ)) : Type 0 where
  pub present : follower.present ≡ present_after way words met
  pub named : NamesStand words follower.names met
  pub forced : forcing.StandsFor follower.force met
  pub fated : ActionsStand follower.actions follower.present (pat_of met) (λ other. pmt_of other met)
