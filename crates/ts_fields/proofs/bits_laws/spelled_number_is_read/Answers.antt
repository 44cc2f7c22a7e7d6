use Rattle.ts_fields.proofs.AgainLemmas.{number_again}
use Rattle.ts_fields.proofs.bits_laws.spelled_number_is_read.Goals as goal

pub returns : goal.returns
returns c = λ count value rest. number_again count value rest
