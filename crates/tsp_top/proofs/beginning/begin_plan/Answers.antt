use Rattle.tsp_top.proofs.BeginLemmas.{opens-plan, over-plan, said-again}
use Rattle.tsp_top.proofs.beginning.begin_plan.Goals as goal

pub returns-in-Ok : goal.returns-in-Ok
returns-in-Ok g c =
    said-again c.begin_chain.result
    (λ call said. opens-plan c.args.plan.now _ (g.D.Desk.seen c.args.desk.now) (g.D.Desk.seen c.read_tables.new.desk) c.in-Ok.ensures _ _ call.core (g.D.Desk.seen c.begin_chain.new.desk)
    call.stages.input call.stages.stuffing call.stages.plugins.items call.stages.output said)
    (λ status over. over-plan c.args.plan.now _ (g.D.Desk.seen c.args.desk.now) (g.D.Desk.seen c.read_tables.new.desk) c.in-Ok.ensures (g.D.Desk.seen c.begin_chain.new.desk) status over)
    c.begin_chain.ensures
