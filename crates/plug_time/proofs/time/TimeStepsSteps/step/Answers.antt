use Rattle.ts_packet.specs.Cells.{Live}
use Rattle.plugin_trait.proofs.FindLemmas.{find-met}
use Rattle.plug_time.specs.HasTime.{finds_time}
use Rattle.plug_time.proofs.HasTimeLemmas.{marks_more}
use Rattle.plug_time.proofs.time.TimeStepsSteps.step.Goals as goal

pub returns-clause-meets : goal.returns-clause-meets
returns-clause-meets c = λ history mark stands count. (
  find-met finds_time history c.args.packet.now c.args._labels.now c.args.at c.has_time-found.result c.args.self.now.found c.meet.new.self
      stands.0 count c.has_time-found.ensures c.meet.ensures,
  marks_more history (Live c.args.packet.now c.args._labels.now) mark stands.1,
)
