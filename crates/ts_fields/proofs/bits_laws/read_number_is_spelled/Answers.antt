use Rattle.ts_fields.proofs.TakesLemmas.{number_takes}
use Rattle.ts_fields.proofs.bits_laws.read_number_is_spelled.Goals as goal

pub returns : goal.returns
returns c = λ count value from rest is. number_takes count from value rest is
