use Rattle.window_ring.specs.Seats.{key_of, table_of}
use Rattle.chain_plays.proofs.AbandonLemmas.{is_at, is_done}
use Rattle.chain_plays.proofs.abandoning.stops.Goals as goal

pub visit-requires : goal.visit-requires
visit-requires c = let r = c.requires in is_at (key_of c.args.ring.now) (table_of c.args.ring.now) c.args.seat.now r.unvisited r.words r.slots r.valid r.stage

pub returns-in-Given-clause-told : goal.returns-in-Given-clause-told
returns-in-Given-clause-told c = λ _. is_done (key_of c.args.ring.now) (table_of c.args.ring.now) c.args.seat.now c.visit.new.seat c.in-Given.field-0 c.one_visit.ensures.changes c.seat_laws.ensures
    c.requires.unvisited c.in-Given.ensures.visited c.visit.ensures.same_stage c.visit.ensures.of_table
