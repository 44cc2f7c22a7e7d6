use Rattle.std.proofs.Common.{ap}
use Rattle.plug_edit.specs.Changes.{change_pmt}
use Rattle.plug_edit.proofs.pmt_tables.PmtTablesServiceTableEdit.copy.Goals as goal

pub returns : goal.returns
returns c = ap change_pmt c.in_ok-tables.ensures
