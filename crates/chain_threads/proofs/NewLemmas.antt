-- A stage of which nothing was done.
use Rattle.std.proofs.Common.{◌≡◌, [], None, refl, sym, ap, subst, arith}
use Rattle.cell_land.specs.declared.cell_window.Bases.{Bases}
use Rattle.chain_model.specs.Apply.{StageList}
use Rattle.chain_core.specs.Machine.{Allowed}
use Rattle.chain_core.specs.ChainRun.{state_after}
use Rattle.chain_core.specs.Keeps.{Keeps}
use Rattle.stage_run.specs.Seeing.{Seeing}
use Rattle.stage_run.specs.declared.stage_part.StagePart.{StagePart}
use Rattle.chain_run.specs.Runs.{RunStart, nothing_told}
use Rattle.atomic_table.specs.Seated.{TableId}
use Rattle.window_ring.specs.declared.stage_seat.StageSeat.{StageSeat}
use Rattle.window_ring.specs.Hands.{Row, row_of}
use Rattle.window_ring.specs.Views.{land_of}
use Rattle.window_ring.specs.Visits.{giving}
use Rattle.window_ring.specs.Seats.{seen_in, seen_of}
use Rattle.chain_run.specs.OneStage.{SoFarUpTo, Doing, MayBe}
use Rattle.chain_threads.specs.Standing.{key_at, Standing, StandsAt}
use Rattle.chain_threads.specs.Turning.{IsNewStage}
use Rattle.chain_run.specs.StageLaws.Premise.{Anything, HeldSoFar}
use Rattle.chain_threads.specs.RunLaws.{RunLaws}

module _ {S K P : Type 0} (see : Seeing S K P) (laws : RunLaws see) (begun : RunStart S K) (base : Bases) (table : TableId) (part : StagePart S K P) (seat : StageSeat) (n : IsNewStage see begun base table part seat) where
  abbrev hand : Row
  hand = row_of 0 (land_of (key_at begun base)) []

  allowed : Allowed begun.plan (state_after begun.plan []) (giving hand seat.stage 0 nothing_told)
  unfolding state_after
  allowed = record {
    is_stage = n.is_stage;
    goes_on = refl;
    held = omega arith;
    agreement = λ agreed e. cc;
    below_limit = λ o limit t lt. absurd (omega (arith, lt));
    follows = λ e. cc;
  }

  doing : Doing see begun part seat.stage n.lists [] None 0 0 (λ j. ((state_after begun.plan []).stages j).given) (SoFarUpTo begun.plan begun.rules [])
  unfolding state_after
  doing = laws.stages.more begun part seat.stage n.lists [] None 0 0 0 0 (λ _. []) (λ j. ((state_after begun.plan []).stages j).given) Anything (HeldSoFar [])
      (omega arith) (omega arith) (λ j e. ([], refl, omega arith)) (λ input x. tt) n.doing

  keeps : (input : StageList) → MayBe see begun part seat.stage n.lists input → Keeps begun.plan begun.rules input (state_after begun.plan []) (giving hand seat.stage 0 nothing_told)
  unfolding state_after
  keeps input may-be = laws.stages.first begun part seat.stage begun.plan.plugins n.lists Anything input n.doing may-be

  standing : Standing see begun seat.stage [] hand part 0 nothing_told
  unfolding state_after
  standing = record {
    lists = n.lists;
    done_within = omega arith;
    allowed = allowed;
    doing = laws.stages.more begun part seat.stage n.lists [] None 0 _ 0 _ (λ _. []) (λ j. ((state_after begun.plan []).stages j).given) Anything (HeldSoFar [])
        (omega arith) (omega arith) (λ j e. ([], refl, omega arith)) (λ input x. tt) n.doing;
    kept = λ input may-be. tt;
    keeps = keeps;
    content = λ j e. refl;
  }

  seen-none : seen_of seat ≡ []
  seen-none = ap (λ me. seen_in me.0.held) n.fresh.rests

  pub new-stands : StandsAt see begun base table seat part 0 nothing_told
  new-stands = record {
    run = n.run;
    words = n.words;
    slots = n.slots;
    is_stage = n.is_stage;
    seat_is = laws.seats.fresh (key_at begun base) table seat n.fresh;
    standing = subst (λ l. Standing see begun seat.stage l seat.hand part 0 nothing_told) (sym seen-none)
        (subst (λ h. Standing see begun seat.stage [] h part 0 nothing_told) (sym n.fresh.hand) standing);
  }
