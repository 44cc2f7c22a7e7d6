use Rattle.ts_groups.proofs.ReadLemmas.{is_read_again}
use Rattle.ts_groups.proofs.groups_laws.grouped_is_read.Goals as goal

pub returns : goal.returns
returns c = λ p groups h sound fit. is_read_again c.written_is_read.ensures p groups h sound fit
