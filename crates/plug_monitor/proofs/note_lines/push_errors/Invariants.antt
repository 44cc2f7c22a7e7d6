use Rattle.std.proofs.Common.{◌≡◌, ◌++◌, drop, map}
use Rattle.plugin_trait.specs.PlacedLines.{placed_at}
use Rattle.monitor_lines.specs.ErrorTexts.{text_of_error}
use Rattle.plug_monitor.proofs.note_lines.push_errors.Given as goal

-- the lines so far and those of the errors that are left
abbrev pub invariant-loop-error : goal.invariant-loop-error
invariant-loop-error l =
    l.lines.items ++ placed_at l.at (map text_of_error (drop l.error-index l.errors)) ≡ l.fn.lines.items ++ placed_at l.at (map text_of_error l.errors)
