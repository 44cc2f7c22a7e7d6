use Rattle.ts_fields.proofs.LengthLemmas.{length-shaped}
use Rattle.ts_fields.proofs.rows_laws.length_of_spelled_rows.Goals as goal

pub returns : goal.returns
returns c = λ rs values fit. length-shaped rs values fit
