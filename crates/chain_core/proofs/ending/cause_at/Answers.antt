use Rattle.std.proofs.Common.{ap, ◌∙◌, Option, List}
use Rattle.std.specs.Prelude.{find}
use Rattle.std.specs.Option.{option_or}
use Rattle.chain_model.specs.declared.cause.Cause.{Cause}
use Rattle.chain_model.specs.Cut.{is_until}
use Rattle.chain_core.specs.CoreNumbers.{progress_in}
use Rattle.chain_core.proofs.RowLaws.{until-more, last-more}
use Rattle.chain_core.proofs.ending.cause_at.Goals as goal

pub loop-stage-preserved : goal.loop-stage-preserved
loop-stage-preserved c =
    let progress = progress_in c.args.progress.now in (
      c.or-until.ensures ∙ (ap (λ (o : Option Cause). option_or c.loop-stage.until o) (c.last_packet.ensures ∙ ap (λ (causes : List Cause). find is_until causes) c.cause_at-here.ensures)
          ∙ until-more progress c.args.cut c.loop-stage.stage c.loop-stage.until c.loop-stage.invariant.0),
      c.or-last.ensures ∙ last-more progress c.args.cut c.loop-stage.stage c.cause_at-here.result c.loop-stage.last c.cause_at-here.ensures c.loop-stage.invariant.1,
    )
