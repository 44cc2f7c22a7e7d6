use Rattle.std.proofs.Common.{ap}
use Rattle.plug_move.specs.MappedTables.{change_on}
use Rattle.plug_move.proofs.pid_edit.PidsOnTablesSeededEdit.on.Goals as goal

pub returns : goal.returns
returns c = ap (λ v. change_on v.0 c.args.pid) c.in_ok-table.ensures
