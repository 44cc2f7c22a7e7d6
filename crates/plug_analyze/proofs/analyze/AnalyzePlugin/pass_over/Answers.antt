use Rattle.std.proofs.Common.{[], ◌∷◌, arith, length-append}
use Rattle.ts_packet.specs.Cells.{Dropped}
use Rattle.plug_analyze.proofs.Analyzing.{analyzes_dropped}
use Rattle.plug_analyze.proofs.analyze.AnalyzePlugin.pass_over.Goals as goal

pub returns-clause-meets : goal.returns-clause-meets
returns-clause-meets c = λ history mark s count. (
  λ works. analyzes_dropped _ _ _ history mark (omega (arith, count, c.requires.in_range)) (s.0 works),
  omega (arith, s.1, length-append history (Dropped ∷ [])),
)
