use Rattle.ts_fields.proofs.BodyLemmas.{page_again}
use Rattle.ts_fields.proofs.pages_laws.written_is_read.Goals as goal

pub returns : goal.returns
returns c = λ p h none sound fit. page_again p h none sound fit
