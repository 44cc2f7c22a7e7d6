use Rattle.ts_groups.proofs.ReadLemmas.{front_first}
use Rattle.ts_groups.proofs.groups_laws.front_is_read_first.Goals as goal

pub returns : goal.returns
returns c = λ a b from y all. front_first a b from y all
