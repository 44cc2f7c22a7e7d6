use Rattle.std.proofs.Common.{◌≡◌, None, Some, refl, arith}
use Rattle.chain_core.specs.declared.stage_end.StageEnd.TheVariants.{Followed}
use Rattle.window_ring.specs.Seats.{key_of, table_of}
use Rattle.test_chain.proofs.SeatLemmas.{may_visit, goes_again}
use Rattle.test_chain.proofs.rings.gives.Goals as goal

pub visit-requires : goal.visit-requires
visit-requires c = may_visit (key_of c.args.ring.now) (table_of c.args.ring.now) c.front-front.new.seat c.front-front.ensures.goes c.args.done _ (let a = c.front-front.ensures.within in omega (arith, a)) refl (λ e. let bad : None ≡ Some Followed = e in cc)

pub returns-in-Given-clause-goes : goal.returns-in-Given-clause-goes
returns-in-Given-clause-goes c = λ _. goes_again c.seat_laws.ensures c.one_visit.ensures.changes (key_of c.args.ring.now) (table_of c.args.ring.now) c.front-front.new.seat c.visit.new.seat c.args.done _ c.in-Given.field-0 c.in-Given.ensures.visited c.visit.ensures.same_stage c.visit.ensures.of_table c.front-front.ensures.goes refl
