use Rattle.std.proofs.Common.{ap, ◌∙◌, Option}
use Rattle.chain_model.specs.declared.cause.Cause.{Cause}
use Rattle.chain_core.specs.Close.{least_among, ending_with}
use Rattle.chain_core.specs.CoreNumbers.{progress_in}
use Rattle.chain_core.proofs.RowLaws.{least-more}
use Rattle.chain_core.proofs.ending.least_end.Goals as goal

pub loop-stage-preserved : goal.loop-stage-preserved
loop-stage-preserved c =
    let progress = progress_in c.args.progress.now in
    c.lesser_with-least.ensures ∙ (ap (λ (own : Option Cause). least_among c.loop-stage.least (ending_with (progress c.loop-stage.stage).given own)) c.own_cause.ensures
    ∙ least-more progress c.loop-stage.stage c.args.limit c.loop-stage.least c.loop-stage.invariant)
