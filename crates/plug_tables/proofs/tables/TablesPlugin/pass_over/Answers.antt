use Rattle.std.proofs.Common.{[], ◌∷◌, arith, length-append}
use Rattle.ts_packet.specs.Cells.{Dropped}
use Rattle.plug_tables.proofs.ToldLemmas.{tells_dropped}
use Rattle.plug_tables.proofs.tables.TablesPlugin.pass_over.Goals as goal

pub returns-clause-meets : goal.returns-clause-meets
returns-clause-meets c = λ history mark s count. (
  λ works. tells_dropped _ _ _ history mark (s.0 works),
  omega (arith, s.1, length-append history (Dropped ∷ [])),
)
