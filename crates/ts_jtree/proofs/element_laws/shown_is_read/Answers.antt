use Rattle.ts_jtree.proofs.AgainLemmas.{attributes_again}
use Rattle.ts_jtree.proofs.element_laws.shown_is_read.Goals as goal

pub returns : goal.returns
returns c = λ rs values ms fit inside keys none.
    attributes_again (record { texts = c.texts_tell_bytes.ensures.written; tables = c.tabled_texts_tell_bytes.ensures; starts = c.texts_tell_numbers.ensures.start; times = c.texts_tell_numbers.ensures.time })
    rs values ms fit inside keys none
