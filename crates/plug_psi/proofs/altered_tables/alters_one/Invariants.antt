use Rattle.std.proofs.Common.{◌≡◌, drop}
use Rattle.plug_psi.specs.AlteredTables.{alters_one}
use Rattle.plug_psi.proofs.altered_tables.alters_one.Given as goal

-- what holds for the tables that are left holds for all of them
abbrev pub invariant-loop-table : goal.invariant-loop-table
invariant-loop-table g l = alters_one (g.E.TableEdit.change l.edit) (drop l.table-index l.tables) ≡ alters_one (g.E.TableEdit.change l.edit) l.tables
