use Rattle.std.proofs.Common.{◌∙◌, length, ap, arith, length-append}
use Rattle.window_ring.specs.Hands.{Row, IsFront}
use Rattle.window_ring.specs.Seats.{key_of, table_of}
use Rattle.test_chain.proofs.SeatLemmas.{low, fits, same_seat, back_again}
use Rattle.test_chain.proofs.rings.front.Goals as goal

pub lift_front-requires : goal.lift_front-requires
lift_front-requires c = record { low = low (key_of c.args.ring.now) (table_of c.args.ring.now) c.args.seat.now c.requires.goes c.news_promises.ensures.hold }

pub put_front-requires : goal.put_front-requires
put_front-requires c = (c.args.seat.now.hand.at, c.in-Some.ensures.some.is_front (fits (key_of c.args.ring.now) (table_of c.args.ring.now) c.args.seat.now c.requires.goes c.news_promises.ensures.hold))

pub returns-in-None-clause-goes : goal.returns-in-None-clause-goes
returns-in-None-clause-goes c = same_seat (key_of c.args.ring.now) (table_of c.args.ring.now) c.args.seat.now c.lift_front.new.self c.lift_front.ensures.seat c.lift_front.ensures.stage c.in-None.ensures.none.1 c.requires.goes

pub returns-in-Some-clause-goes : goal.returns-in-Some-clause-goes
returns-in-Some-clause-goes c =
    let lifts = c.in-Some.ensures.some in
    let front : IsFront c.args.seat.now.hand.at c.lift_front.new.self.hand c.in-Some.window = lifts.is_front (fits (key_of c.args.ring.now) (table_of c.args.ring.now) c.args.seat.now c.requires.goes c.news_promises.ensures.hold) in
    same_seat (key_of c.args.ring.now) (table_of c.args.ring.now) c.args.seat.now c.put_front.new.self (c.put_front.ensures.seat ∙ c.lift_front.ensures.seat) (c.put_front.ensures.stage ∙ c.lift_front.ensures.stage)
    (back_again c.args.seat.now.hand c.lift_front.new.self.hand c.put_front.new.self.hand c.in-Some.window lifts (c.put_front.ensures.hand c.args.seat.now.hand.at front)) c.requires.goes

pub returns-in-Some-clause-within : goal.returns-in-Some-clause-within
returns-in-Some-clause-within c =
    let lifts = c.in-Some.ensures.some in
    let front : IsFront c.args.seat.now.hand.at c.lift_front.new.self.hand c.in-Some.window = lifts.is_front (fits (key_of c.args.ring.now) (table_of c.args.ring.now) c.args.seat.now c.requires.goes c.news_promises.ensures.hold) in
    let back = ap (λ (r : Row). length r.cells) (c.put_front.ensures.hand c.args.seat.now.hand.at front) in
    omega (arith, back, length-append c.in-Some.window.cells c.lift_front.new.self.hand.cells)
