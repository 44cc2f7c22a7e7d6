use Rattle.window_ring.specs.Seats.{key_of, table_of}
use Rattle.test_chain.proofs.SeatLemmas.{goes_first}
use Rattle.test_chain.proofs.rings.begins.Goals as goal

pub returns : goal.returns
returns c = let r = c.requires in goes_first c.seat_laws.ensures (key_of c.args.ring.now) (table_of c.args.ring.now) c.args.seat.now r.fresh r.table.0 r.table.1 r.valid r.no_users r.stage
