use Rattle.window_ring.proofs.Since.{stage_stays}
use Rattle.window_ring.proofs.Again.{seat_again, seat_still}
use Rattle.window_ring.proofs.FreshLemmas.{seat_is}
use Rattle.window_ring.proofs.laws.seat_laws.Goals as goal

pub returns : goal.returns
returns c = record {
  stays = λ plan k later seen users none. stage_stays plan users c.one_visit.ensures.changes c.one_visit.ensures.leaves k later seen none;
  fresh = seat_is;
  again = seat_again;
  still = seat_still;
}
