use Rattle.ts_fields.proofs.TakesLemmas.{rows_takes}
use Rattle.ts_fields.proofs.rows_laws.read_rows_are_spelled.Goals as goal

pub returns : goal.returns
returns c = λ rs from values rest exact is. rows_takes rs from values rest exact is
