use Rattle.tabcomp_core.proofs.FaultLemmas.{no-memory-of-text, no-memory-of-sections}
use Rattle.tabcomp_core.proofs.table_file_law.memory_refuses_no_file.Goals as goal

pub returns-clause-text : goal.returns-clause-text
returns-clause-text c = no-memory-of-text

pub returns-clause-sections : goal.returns-clause-sections
returns-clause-sections c = no-memory-of-sections
