use Rattle.ts_groups.proofs.SoundLemmas.{chosen_exact}
use Rattle.ts_groups.proofs.groups_laws.chosen_page_is_exact.Goals as goal

pub returns : goal.returns
returns c = λ p groups values is. chosen_exact p groups values is
