use Rattle.std.proofs.Common.{◌≡◌, List, length}
use Rattle.ts_packet.specs.declared.cell.Cell.{Cell}
use Rattle.test_plugins.proofs.applied.apply.Given as goal

abbrev pub invariant-loop-i : goal.invariant-loop-i
invariant-loop-i g l = (history : List Cell) × g.P.Plugin.stands_for l.plugin history 0 × (length history ≡ l.i)
