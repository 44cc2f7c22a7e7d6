use Rattle.ts_fields.proofs.TakesLemmas.{bytes_takes}
use Rattle.ts_fields.proofs.bits_laws.read_bytes_are_spelled.Goals as goal

pub returns : goal.returns
returns c = λ count row from rest is. bytes_takes count from row rest is
