use Rattle.std.proofs.Common.{◌≡◌, ◌++◌, List, map, take}
use Rattle.ts_packet.specs.declared.cell.Cell.{Cell}
use Rattle.plugin_trait.specs.PlacedLines.{placed_at}
use Rattle.plug_analyze.specs.AnalyzeRule.{counts_on, pid_text}
use Rattle.plug_analyze.specs.TotalsOf.{AreCounted}
use Rattle.plug_analyze.proofs.summary.push_pids.Given as goal

abbrev pub invariant-loop-pid : goal.invariant-loop-pid
invariant-loop-pid l = (cells : List Cell) → AreCounted l.totals cells
    → l.lines.items ≡ l.fn.lines.items ++ placed_at l.cut (map (λ pid. pid_text pid (counts_on pid cells)) (take l.pid-index l.pids))
