use Rattle.ts_fields.proofs.TakesLemmas.{rows_length}
use Rattle.ts_fields.proofs.rows_laws.length_of_read_rows.Goals as goal

pub returns : goal.returns
returns c = λ rs from values rest is. rows_length rs from values rest is
