use Rattle.std.proofs.Common.{◌≡◌, Some, refl, arith}
use Rattle.chain_core.specs.declared.stage_end.StageEnd.TheVariants.{NoMemory, Followed}
use Rattle.window_ring.specs.Seats.{key_of, table_of}
use Rattle.test_chain.proofs.SeatLemmas.{may_visit, is_done}
use Rattle.test_chain.proofs.rings.ends.Goals as goal

pub visit-requires : goal.visit-requires
visit-requires c = may_visit (key_of c.args.ring.now) (table_of c.args.ring.now) c.args.seat.now c.requires 0 _ (omega arith) refl (λ e. let bad : Some NoMemory ≡ Some Followed = e in cc)

pub returns-in-Given : goal.returns-in-Given
returns-in-Given c = λ _. is_done c.seat_laws.ensures c.one_visit.ensures.changes (key_of c.args.ring.now) (table_of c.args.ring.now) c.args.seat.now c.visit.new.seat 0 _ c.in-Given.field-0 c.in-Given.ensures.visited c.visit.ensures.same_stage c.visit.ensures.of_table c.requires refl
