use Rattle.ts_packet.specs.Cells.{Dropped}
use Rattle.plugin_trait.proofs.FindLemmas.{find-dropped}
use Rattle.plug_inject.specs.InjectRule.{replaces}
use Rattle.plug_inject.specs.InjectState.{how_of}
use Rattle.plug_inject.proofs.MetLemmas.{marks-more, stands-dropped}
use Rattle.plug_inject.proofs.inject.InjectStepsSteps.pass_over.Goals as goal

pub returns-clause-meets : goal.returns-clause-meets
returns-clause-meets c = λ history mark stands count.
    let s = c.args.self.now in (
      (stands-dropped (how_of s) s.supply.given s.wait s.counting history stands.0.0, find-dropped (replaces (how_of s)) history s.found stands.0.1),
      marks-more history Dropped mark stands.1,
    )
