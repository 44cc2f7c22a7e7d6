use Rattle.ts_fields.proofs.TextLemmas.{text_is_written, text_is_read}
use Rattle.ts_fields.proofs.texts.texts_tell_bytes.Goals as goal

pub returns-clause-written : goal.returns-clause-written
returns-clause-written c = λ row text is. text_is_written row text is

pub returns-clause-read : goal.returns-clause-read
returns-clause-read c = λ text utf8. text_is_read text utf8
