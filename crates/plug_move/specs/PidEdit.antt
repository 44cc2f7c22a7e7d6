-- What the edit of the tables on a PID makes of them. This project's own rule.
use Rattle.std.specs.Prelude.{ℕ, List}
use Rattle.std.specs.Arc.{arc_value}
use Rattle.plug_psi.specs.Edits.{Change}
use Rattle.plug_move.specs.MappedTables.{change_on}
use Rattle.plug_move.specs.declared.pid_edit.PidsOnTables.{PidsOnTables}

-- the PIDs in them are mapped by the pairs of the edit's table
abbrev pub edit_change : PidsOnTables → List (List ℕ) → Change
edit_change edit run = change_on (arc_value edit.table).0 edit.pid run
