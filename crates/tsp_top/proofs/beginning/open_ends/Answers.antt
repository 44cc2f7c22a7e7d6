use Rattle.std.proofs.Common.{inl}
use Rattle.tsp_top.proofs.CallLemmas.{no-input-theorem, open-failed, over-before}
use Rattle.tsp_top.proofs.beginning.open_ends.Goals as goal

pub returns-in-Err-Failed : goal.returns-in-Err-Failed
returns-in-Err-Failed g c = λ tables ready.
    inl (no-input-theorem c.args.plan.now tables (g.D.Desk.seen c.args.desk.now) (g.D.Desk.seen c.open_input.new.desk) (g.D.Desk.seen c.say.new.desk) c.say.result
    (open-failed _ _ _ c.in-Err-Failed.field-0 c.in-Err-Failed.field-0-is c.in-Err-Failed.ensures.named) (open-failed _ _ _ c.in-Err-Failed.field-0 c.in-Err-Failed.field-0-is c.in-Err-Failed.ensures.asked) c.say.ensures)

pub returns-in-Ok : goal.returns-in-Ok
returns-in-Ok g c = λ tables ready.
    over-before _ c.open_after.result c.args.plan.now tables (g.D.Desk.seen c.args.desk.now) (g.D.Desk.seen c.open_after.new.desk)
    (c.open_after.ensures tables (g.D.Desk.seen c.args.desk.now) ready c.in-Ok.ensures.asked c.in-Ok.ensures.part)
