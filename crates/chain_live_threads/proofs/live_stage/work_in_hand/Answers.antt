use Rattle.std.proofs.Common.{[], length, refl, ap, ◌∙◌, subst, arith}
use Rattle.stage_run.specs.Seeing.{seeing}
use Rattle.stage_run.specs.Works.{PartWork}
use Rattle.window_ring.specs.Hands.{Row, IsFront}
use Rattle.chain_threads.proofs.FrontLemmas.{front_again}
use Rattle.chain_live_threads.proofs.live_stage.work_in_hand.Goals as goal

pub returns-in-None-clause-works : goal.returns-in-None-clause-works
returns-in-None-clause-works g c =
    let see = seeing g.S.Source.seen g.K.Sink.seen g.P.Plugin.rule g.P.Plugin.stands_for g.P.Plugin.preallocated in
    record {
      window = [];
      window_new = [];
      rest = [];
      cells = c.in-None.ensures.none.0;
      cells_new = ap (λ (r : Row). r.cells) c.in-None.ensures.none.1 ∙ c.in-None.ensures.none.0;
      same_length = refl;
      at_same = ap (λ (r : Row). r.at) c.in-None.ensures.none.1;
      land_same = ap (λ (r : Row). r.land) c.in-None.ensures.none.1;
      some = λ e. c.in-None.ensures.none.0;
      worked = subst (λ n. PartWork see c.args.part.now c.work_on_none.new.self n c.args.news.now [] [] c.work_on_none.result) c.position-at.ensures c.work_on_none.ensures;
    }

pub put_front-requires : goal.put_front-requires
put_front-requires g c =
    let lifts = c.in-Some.ensures.some in
    (c.args.seat.now.hand.at, front_again c.args.seat.now.hand.at c.lift_front.new.self.hand c.in-Some.window c.work-window.result.1 (lifts.is_front c.requires.fits) c.work-window.ensures.slots)

pub returns-in-Some-clause-works : goal.returns-in-Some-clause-works
returns-in-Some-clause-works g c =
    let see = seeing g.S.Source.seen g.K.Sink.seen g.P.Plugin.rule g.P.Plugin.stands_for g.P.Plugin.preallocated in
    let w = c.in-Some.window in let lifts = c.in-Some.ensures.some in
    let front : IsFront c.args.seat.now.hand.at c.lift_front.new.self.hand w = lifts.is_front c.requires.fits in
    let back = c.put_front.ensures.hand c.args.seat.now.hand.at (front_again c.args.seat.now.hand.at c.lift_front.new.self.hand w c.work-window.result.1 front c.work-window.ensures.slots) in
    record {
      window = w.cells;
      window_new = c.work-window.result.1.cells;
      rest = c.lift_front.new.self.hand.cells;
      cells = lifts.cells;
      cells_new = ap (λ (r : Row). r.cells) back;
      same_length = c.work-window.ensures.slots.2;
      at_same = ap (λ (r : Row). r.at) back;
      land_same = ap (λ (r : Row). r.land) back ∙ lifts.same;
      some = λ e. absurd (let n = ap length e in let s = front.some in omega (arith, n, s));
      worked = subst (λ n. PartWork see c.args.part.now c.work-window.new.self n c.args.news.now w.cells c.work-window.result.1.cells c.work-window.result.0) c.position-at.ensures c.work-window.ensures.work;
    }
