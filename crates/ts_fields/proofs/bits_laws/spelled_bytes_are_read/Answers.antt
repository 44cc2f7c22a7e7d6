use Rattle.ts_fields.proofs.AgainLemmas.{bytes_again}
use Rattle.ts_fields.proofs.bits_laws.spelled_bytes_are_read.Goals as goal

pub returns : goal.returns
returns c = λ row rest fit. bytes_again row rest fit
