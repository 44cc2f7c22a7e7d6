use Rattle.std.proofs.Common.{sym}
use Rattle.ts_demux.proofs.EraEntries.{last_of_entry, table_of_entry}
use Rattle.ts_demux.proofs.assembly.add_to_era.Goals as goal

pub add-requires-clause-last : goal.add-requires-clause-last
add-requires-clause-last c = last_of_entry _ c.in-Some.era.now _ _ (sym c.in-Some.ensures.value) c.requires.has_era

pub returns-in-Some-clause-table : goal.returns-in-Some-clause-table
returns-in-Some-clause-table c = table_of_entry _ c.in-Some.era.now c.args.section c.add.result (sym c.in-Some.ensures.value) c.add.ensures.table
