use Rattle.std.proofs.Common.{refl}
use Rattle.tsp_top.proofs.PrintedRounds.{live-rounds}
use Rattle.tsp_top.proofs.SourceLemmas.{six-units}
use Rattle.tsp_top.proofs.live_run.run_printing.Goals as goal

pub returns : goal.returns
returns g c =
    let end = c.run_telling-end.result.end in
    live-rounds _ c.args.plan.now c.args.stages.stuffing c.args.core.now c.args.stages.input end.input c.args.stages.plugins.items end.plugins.items c.args.stages.output end.output
    g.D.Desk.seen (_, c.printing_well-printing.result, c.args.desk.now) (c.run_telling-end.new.texts, c.run_telling-end.new.printing, c.run_telling-end.new.desk)
    c.run_telling-end.result.all_told c.is_whole-whole.result end.closed
    c.run_telling-end.ensures.closed c.run_telling-end.ensures.never_began c.run_telling-end.ensures.silent
    c.as_slice.ensures refl c.requires.every c.requires.stuffing refl c.none.ensures c.printing_well-printing.ensures.wants c.printing_well-printing.ensures.failed c.is_whole-whole.ensures
    (λ source. refl) (λ source form units. six-units source.form form units) c.gaps_noted_so_far.ensures
