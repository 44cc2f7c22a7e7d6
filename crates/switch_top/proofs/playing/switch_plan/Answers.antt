use Rattle.std.proofs.Common.{refl, subst, sym}
use Rattle.std.specs.Prelude.{codes}
use Rattle.ts_outside.specs.Desk.{DeskView}
use Rattle.ts_outside.specs.Saying.{Says}
use Rattle.switch_top.specs.SwitchEnds.{no_output, output_name}
use Rattle.switch_top.specs.OutputKept.{IsOutputOf}
use Rattle.switch_top.specs.PlayNames.{rows_of}
use Rattle.switch_args.specs.Readings.{output_of}
use Rattle.switch_top.proofs.EndLemmas.{failed-of, plan-played}
use Rattle.switch_top.proofs.playing.switch_plan.Goals as goal

pub returns-in-Err-Failed : goal.returns-in-Err-Failed
returns-in-Err-Failed g c =
    let a = failed-of _ _ _ c.in-Err-Failed.field-0 c.in-Err-Failed.field-0-is c.in-Err-Failed.ensures.asked in
    no_output a.0 c.say.result a.1 refl (subst (λ (d : DeskView). Says d (g.D.Desk.seen c.say.new.desk) (codes "tsswitch: cannot open output\n") c.say.result) a.2 c.say.ensures)

pub returns-in-Ok : goal.returns-in-Ok
returns-in-Ok g c =
    let plan = c.args.plan.now in
    let name = output_name (output_of plan.output) in
    let names = rows_of plan.cycle plan.inputs.items in
    let mid = g.D.Desk.seen c.open_output.new.desk in
    let p = c.play_from_first-played.ensures in
    plan-played plan.resync plan.buffer names name (g.D.Desk.seen c.args.desk.now) mid (g.D.Desk.seen c.finish_plays.new.desk) c.finish_plays.result c.in-Ok.ensures.asked
    (c.finish_plays.ensures plan.resync p.0 plan.inputs.items names mid c.in-Ok.output name plan.buffer p.2
    (subst (λ (d : DeskView). IsOutputOf g.D.Out.Sink.seen d name c.in-Ok.output) (sym c.in-Ok.ensures.asked) c.in-Ok.ensures.part) p.1)
