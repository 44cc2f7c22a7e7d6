use Rattle.ts_table_rows.proofs.FitLemmas.{run_fit}
use Rattle.ts_table_rows.proofs.read_laws.read_tables_fit.Goals as goal

pub returns : goal.returns
returns c = λ p ss h valid is. run_fit c.length_of_read_rows.ensures p ss h valid is
