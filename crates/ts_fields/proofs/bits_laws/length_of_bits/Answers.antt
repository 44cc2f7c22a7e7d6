use Rattle.ts_fields.proofs.BitLemmas.{length-bits, length-bits_of}
use Rattle.ts_fields.proofs.bits_laws.length_of_bits.Goals as goal

pub returns-clause-number : goal.returns-clause-number
returns-clause-number c = λ count value. length-bits count value

pub returns-clause-bytes : goal.returns-clause-bytes
returns-clause-bytes c = λ row. length-bits_of row
