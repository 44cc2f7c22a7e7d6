use Rattle.ts_charsets.proofs.SpellingLemmas.{back}
use Rattle.ts_charsets.proofs.laws.shown_bytes_are_written.Goals as goal

pub returns : goal.returns
returns c = λ a row cs once small is. (back a row cs once small is).0
