use Rattle.ts_groups.proofs.ReadLemmas.{was_written}
use Rattle.ts_groups.proofs.groups_laws.grouped_is_written.Goals as goal

pub returns : goal.returns
returns c = λ p groups from q h exact is. was_written c.read_is_written.ensures p groups from q h exact is
