use Rattle.std.proofs.Common.{◌≡◌, ◌++◌, drop, map}
use Rattle.plugin_trait.specs.PlacedLines.{placed_at}
use Rattle.plug_info.specs.InfoRule.{system_line}
use Rattle.plug_info.proofs.cat_lines.push_lines.Given as goal

-- the lines so far, with those of the systems that are left
abbrev pub invariant-loop-system : goal.invariant-loop-system
invariant-loop-system l =
    l.lines.items ++ placed_at l.cut (map system_line (drop l.system-index l.systems)) ≡ l.fn.lines.items ++ placed_at l.cut (map system_line l.systems)
