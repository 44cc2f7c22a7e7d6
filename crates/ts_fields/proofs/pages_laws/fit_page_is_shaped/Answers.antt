use Rattle.ts_fields.proofs.SizeLemmas.{page_is_shaped, page_shaped_so}
use Rattle.ts_fields.proofs.pages_laws.fit_page_is_shaped.Goals as goal

pub returns-clause-fit : goal.returns-clause-fit
returns-clause-fit c = λ p h fit. page_is_shaped p h fit

pub returns-clause-uncounted : goal.returns-clause-uncounted
returns-clause-uncounted c = λ p h fit. page_shaped_so p h fit
