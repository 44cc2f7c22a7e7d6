use Rattle.std.proofs.Common.{arith}
use Rattle.std.proofs.lemmas.Grind.{common_steps}
use Rattle.ts_json_tables.specs.RunTables.{bytes_table}
use Rattle.ts_json_tables.proofs.RunLemmas.{bytes_valid, same_valid}
use Rattle.ts_json_tables.proofs.runs.table_of.Goals as goal

pub returns-in-None-clause-valid : goal.returns-in-None-clause-valid
returns-in-None-clause-valid c =
    same_valid c.bytes_table-in-None.result (bytes_table c.args.run.now)
    (rw c.sections-sections.ensures.same at c.bytes_table-in-None.ensures)
    (bytes_valid c.args.run.now c.sections-sections.ensures.whole c.sections-sections.ensures.valid)

pub returns-in_default-clause-table : goal.returns-in_default-clause-table
returns-in_default-clause-table c = grind (arith, common_steps)

pub returns-in_default-clause-valid : goal.returns-in_default-clause-valid
returns-in_default-clause-valid c = grind (arith, common_steps)

pub returns-in-Some-layout_with_id-clause-table : goal.returns-in-Some-layout_with_id-clause-table
returns-in-Some-layout_with_id-clause-table c = grind (arith, common_steps)

pub returns-in-Some-layout_with_id-clause-valid : goal.returns-in-Some-layout_with_id-clause-valid
returns-in-Some-layout_with_id-clause-valid c = grind (arith, common_steps)

pub returns-in-None-clause-table : goal.returns-in-None-clause-table
returns-in-None-clause-table c = grind (arith, common_steps)
