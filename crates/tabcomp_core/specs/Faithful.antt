-- Runs that are decompiled without loss.
-- This project's own rule: the element of a run's table is read as that table, its text as that element wherever it
-- stands, and the sections of that table, where it has some, give it again.
use Rattle.std.specs.Prelude.{ℕ, List}
use Rattle.ts_json_tables.specs.RunTables.{table_of_run}
use Rattle.ts_json_tables.specs.TableElements.{table_shown}
use Rattle.ts_json_tables.specs.ToldTables.{IsKept}
use Rattle.tabcomp_core.specs.Decompiling.{IsReadAgain}
use Rattle.tabcomp_core.specs.ElementTexts.{IsReadWithin}

-- the run is decompiled without loss
pub record IsFaithful (run : List (List ℕ)) : Type 0 where
  pub again : IsReadAgain run
  pub kept : IsKept run
  pub within : IsReadWithin (table_shown (table_of_run run))
