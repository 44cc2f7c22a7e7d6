use Rattle.ts_fields.proofs.SizeLemmas.{rows_are_shaped}
use Rattle.ts_fields.proofs.rows_laws.fit_rows_are_shaped.Goals as goal

pub returns : goal.returns
returns c = λ rs values fit. rows_are_shaped rs values fit
