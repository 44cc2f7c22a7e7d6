use Rattle.ts_packet.specs.Cells.{Dropped}
use Rattle.plugin_trait.proofs.FindLemmas.{find-dropped}
use Rattle.plug_time.specs.HasTime.{finds_time}
use Rattle.plug_time.proofs.HasTimeLemmas.{marks_more}
use Rattle.plug_time.proofs.time.TimeStepsSteps.pass_over.Goals as goal

pub returns-clause-meets : goal.returns-clause-meets
returns-clause-meets c = λ history mark stands count.
    (find-dropped finds_time history c.args.self.now.found stands.0, marks_more history Dropped mark stands.1)
