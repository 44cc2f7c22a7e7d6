use Rattle.ts_charsets.proofs.OnceLemmas.{once}
use Rattle.ts_charsets.proofs.TableLemmas.{told}
use Rattle.ts_charsets.proofs.laws.tabled_texts_tell_bytes.Goals as goal

pub returns : goal.returns
returns c = told once
