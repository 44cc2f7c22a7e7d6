use Rattle.std.proofs.Common.{◌≡◌, ◌++◌, map, take}
use Rattle.plugin_trait.specs.PlacedLines.{placed_at}
use Rattle.plug_analyze.specs.AnalyzeRule.{service_text}
use Rattle.plug_analyze.proofs.summary.push_services.Given as goal

abbrev pub invariant-loop-service : goal.invariant-loop-service
invariant-loop-service l = l.lines.items ≡ l.fn.lines.items ++ placed_at l.cut (map service_text (take l.service-index l.services))
