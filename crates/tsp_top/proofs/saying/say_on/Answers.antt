use Rattle.std.proofs.Common.{◌≡◌, ◌++◌, ◌∙◌, Bool, true, false, subst, sym}
use Rattle.ts_outside.specs.Saying.{Says}
use Rattle.tsp_top.proofs.Pieces.{one_more, stays_failed}
use Rattle.tsp_top.proofs.saying.say_on.Goals as goal

pub returns-then-failed-clause-said : goal.returns-then-failed-clause-said
returns-then-failed-clause-said g c = λ first before said.
    subst (λ (failed : Bool). Says first (g.D.Desk.seen c.args.desk.now) (before ++ c.args.piece.now) failed) (sym c.if-failed.true)
    (stays_failed first (g.D.Desk.seen c.args.desk.now) before c.args.piece.now
    (subst (λ (failed : Bool). Says first (g.D.Desk.seen c.args.desk.now) before failed) c.if-failed.true said))

pub returns-clause-said : goal.returns-clause-said
returns-clause-said g c = λ first before said.
    one_more first _ _ before c.args.piece.now c.say.result (subst (λ (failed : Bool). Says first (g.D.Desk.seen c.args.desk.now) before failed) c.if-failed.false said) c.say.ensures

pub returns-clause-over : goal.returns-clause-over
returns-clause-over g c = λ is. absurd (let e : true ≡ false = sym is ∙ c.if-failed.false in cc)
