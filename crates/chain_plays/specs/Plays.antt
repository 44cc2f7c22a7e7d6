-- A play of several, before it is played and while it is. This project's own rule.
use Rattle.std.specs.Prelude.{◌≡◌, ℕ, ◌≤◌, List, [], ◌∷◌, vec_capacity}
use Rattle.chain_model.specs.Stuffed.{no_stuffing}
use Rattle.chain_core.specs.declared.core_plan.CorePlan.{CorePlan}
use Rattle.chain_core.specs.CoreNumbers.{IsValidPlan}
use Rattle.stage_run.specs.Seeing.{Seeing}
use Rattle.stage_run.specs.declared.input_part.InputPart.TheVariants.{Stream}
use Rattle.stage_run.specs.declared.output_part.OutputPart.{OutputPart}
use Rattle.chain_run.specs.Runs.{RunStart}
use Rattle.window_ring.specs.declared.ring.Ring.{Ring}
use Rattle.window_ring.specs.declared.stage_seat.StageSeat.{StageSeat}
use Rattle.window_ring.specs.Views.{root_view}
use Rattle.window_ring.specs.Opening.{IsFresh}
use Rattle.window_ring.specs.Seats.{key_of, table_of}
use Rattle.chain_threads.specs.declared.stage.Stage.{Stage}
use Rattle.chain_threads.specs.Driving.{Holds}
use Rattle.chain_threads.specs.Beginning.{parts_of, seats_of}
use Rattle.chain_threads.specs.Over.{AllHaveEnded}
use Rattle.chain_plays.specs.declared.ahead.AheadPlay.{AheadPlay}
use Rattle.chain_plays.specs.declared.open_plays.HerePlay.{HerePlay}
use Rattle.chain_plays.specs.declared.playing.Playing.{Playing}

-- what a play begins with: its source, and some output
abbrev pub began : {S K : Type 0} → CorePlan → S → OutputPart K → RunStart S K
began plan source to =
    record { from = Stream source; to = to; stuffing = no_stuffing; rules = []; rooms = []; plan = plan; told = λ _. 0 }

-- a source alone is a play of it, by any plan
abbrev pub is_source : {S : Type 0} → CorePlan → S → HerePlay S → Type 0
is_source plan source play = play.source ≡ source

-- the ring of a play with this plan, which has no plugins
pub record IsRingOf (plan : CorePlan) (ring : Ring) : Type 0 where
  pub valid : IsValidPlan plan
  pub plugins : plan.plugins ≡ 0
  pub plan_is : (key_of ring).plan ≡ plan
  pub words : (table_of ring).words ≡ 1
  pub slots : (table_of ring).slots ≡ 1

module _ {S K P : Type 0} (see : Seeing S K P) (plan : CorePlan) (source : S) where
  -- the stage of the input goes on or has ended, whatever the output will be: it knows nothing of it
  pub record IsInputAhead (ring : Ring) (stage : Stage S K P) : Type 0 where
    pub number : stage.seat.stage ≡ 0
    pub holds : (to : OutputPart K) → Holds see (began plan source to) (key_of ring).base (table_of ring) stage

  -- a play whose input is open, and of whose output nothing was done
  pub record IsAhead (play : AheadPlay S K P) : Type 0 where
    pub ring : IsRingOf plan play.ring
    pub of_table : play.root.table_id ≡ table_of play.ring
    pub root : (made : ℕ) × (play.root.me ≡ (root_view (key_of play.ring) made [], []))
    pub seat : StageSeat
    pub one_seat : play.seats.items ≡ seat ∷ []
    pub fresh : IsFresh (key_of play.ring) (table_of play.ring) 1 seat
    pub seats_room : 2 ≤ vec_capacity play.seats
    pub stage : Stage S K P
    pub one_stage : play.stages.items ≡ stage ∷ []
    pub input : IsInputAhead play.ring stage
    pub stages_room : vec_capacity play.stages ≡ 2
    pub no_part : play.parts.items ≡ []
    pub parts_room : vec_capacity play.parts ≡ 2

  module _ (to : OutputPart K) where
    -- the stages of the input and the output go on or have ended
    pub record ArePlaying (ring : Ring) (stages : List (Stage S K P)) : Type 0 where
      pub input : Stage S K P
      pub output : Stage S K P
      pub both : stages ≡ input ∷ output ∷ []
      pub first : input.seat.stage ≡ 0
      pub second : output.seat.stage ≡ 1
      pub input_holds : Holds see (began plan source to) (key_of ring).base (table_of ring) input
      pub output_holds : Holds see (began plan source to) (key_of ring).base (table_of ring) output

    -- all of a play but its stages
    pub record HasRoom (play : Playing S K P) : Type 0 where
      pub ring : IsRingOf plan play.ring
      pub of_table : play.root.table_id ≡ table_of play.ring
      pub root : (made : ℕ) × (play.root.me ≡ (root_view (key_of play.ring) made [], []))
      pub no_seat : play.seats.items ≡ []
      pub seats_room : 2 ≤ vec_capacity play.seats
      pub no_part : play.parts.items ≡ []
      pub parts_room : vec_capacity play.parts ≡ 2

    pub record IsPlaying (play : Playing S K P) : Type 0 where
      pub room : HasRoom play
      pub stages : ArePlaying play.ring play.stages.items

    -- both have ended
    pub record HasPlayed (play : Playing S K P) : Type 0 where
      pub room : HasRoom play
      pub ended : AllHaveEnded see (began plan source to) (key_of play.ring).base (table_of play.ring)
          (seats_of play.stages.items) (parts_of play.stages.items)
