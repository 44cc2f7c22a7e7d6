use Rattle.ts_fields.proofs.AgainLemmas.{rows_again}
use Rattle.ts_fields.proofs.rows_laws.spelled_rows_are_read.Goals as goal

pub returns : goal.returns
returns c = λ rs values rest fit last end. rows_again rs values rest fit last end
