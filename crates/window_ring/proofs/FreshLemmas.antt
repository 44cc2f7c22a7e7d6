-- The seat of a stage that has made no visit.
use Rattle.std.proofs.Common.{◌≡◌, ◌+◌, [], length, sym, ap, ◌∙◌, subst}
use Rattle.atomic_table.specs.Seated.{TableId}
use Rattle.chain_core.specs.Machine.{ChainState, start}
use Rattle.chain_core.specs.ChainRun.{ChainRun, state_after}
use Rattle.window_ring.specs.declared.view.Key.{Key}
use Rattle.window_ring.specs.declared.stage_seat.StageSeat.{StageSeat}
use Rattle.window_ring.specs.Views.{at_rest, land_of}
use Rattle.window_ring.specs.Visits.{IsHandOf}
use Rattle.window_ring.specs.Seats.{seen_in, seen_of, IsSeat}
use Rattle.window_ring.specs.Opening.{IsFresh}
use Rattle.window_ring.proofs.Starts.{unvisited}

module _ (key : Key) (table : TableId) (seat : StageSeat) (fresh : IsFresh key table seat.stage seat) where
  seen : seen_of seat ≡ []
  seen = ap (λ me. seen_in me.0.held) fresh.rests

  state : state_after key.plan (seen_of seat) ≡ start
  state = ap (state_after key.plan) seen ∙ unvisited key.plan

  pub seat_is : IsSeat key table seat
  seat_is = record {
    of_table = fresh.of_table;
    rests = subst (λ b. seat.seat.me ≡ (at_rest key seat.stage (seen_of seat) b, [])) (sym (ap (λ me. me.0.busy) fresh.rests))
        (subst (λ l. seat.seat.me ≡ (at_rest key seat.stage l [], [])) (sym seen) fresh.rests);
    run = subst (ChainRun key.plan) (sym seen) tt;
    hand_is = subst (λ (s : ChainState). IsHandOf s seat.stage (land_of key) seat.hand) (sym state)
        (record { at = ap (λ r. r.at) fresh.hand; cells = ap (λ r. length r.cells + 0) fresh.hand; same = ap (λ r. r.land) fresh.hand });
  }
