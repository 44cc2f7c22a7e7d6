use Rattle.ts_fields.proofs.BodyLemmas.{page_takes}
use Rattle.ts_fields.proofs.pages_laws.read_is_written.Goals as goal

pub returns : goal.returns
returns c = λ p from h exact is. page_takes p from h exact is
