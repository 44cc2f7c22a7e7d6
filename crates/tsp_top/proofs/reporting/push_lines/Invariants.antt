use Rattle.std.proofs.Common.{◌≡◌, ◌++◌, map, take}
use Rattle.std.specs.List.{flat_map}
use Rattle.std.specs.String.{string_bytes}
use Rattle.tsp_top.specs.Printed.{printed_line}
use Rattle.tsp_top.proofs.reporting.push_lines.Given as goal

abbrev pub invariant-loop-line : goal.invariant-loop-line
invariant-loop-line l = string_bytes l.text ≡ string_bytes l.initial.text ++ flat_map (printed_line l.bare l.j l.name) (map (λ line. line.text) (take l.line-index l.lines))
