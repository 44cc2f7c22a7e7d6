use Rattle.ts_fields.proofs.SizeLemmas.{small_page}
use Rattle.ts_fields.proofs.pages_laws.small_page_fits.Goals as goal

pub returns : goal.returns
returns c = λ p h fit sound small. small_page p h fit sound small
