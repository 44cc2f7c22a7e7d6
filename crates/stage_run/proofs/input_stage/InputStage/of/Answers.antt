use Rattle.std.proofs.Common.{None, refl}
use Rattle.stage_run.specs.declared.input_stage.InputStage.{InputStage}
use Rattle.stage_run.proofs.PartLemmas.{gives_list, stands_fresh}
use Rattle.stage_run.proofs.input_stage.InputStage.of.Goals as goal

pub returns-clause-gives : goal.returns-clause-gives
returns-clause-gives g c = λ source sink mark input.
    let stage : InputStage g.row.S.Denot = record { feed = c.of-feed.result; stuffing = c.args.stuffing; nulls = c.args.stuffing.start; ended = None } in
    gives_list g.S.Source.seen c.args.part stage source sink mark input c.of-feed.ensures refl

pub returns-clause-stands : goal.returns-clause-stands
returns-clause-stands g c = λ source sink mark view.
    let stage : InputStage g.row.S.Denot = record { feed = c.of-feed.result; stuffing = c.args.stuffing; nulls = c.args.stuffing.start; ended = None } in
    stands_fresh g.S.Source.seen c.args.part stage source sink mark view c.requires.unused c.of-feed.ensures refl refl c.requires.every
