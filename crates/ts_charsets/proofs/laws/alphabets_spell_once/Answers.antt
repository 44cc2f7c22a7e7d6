use Rattle.ts_charsets.proofs.OnceLemmas.{once}
use Rattle.ts_charsets.proofs.laws.alphabets_spell_once.Goals as goal

pub returns : goal.returns
returns c = once
