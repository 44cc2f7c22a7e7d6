use Rattle.ts_groups.proofs.SoundLemmas.{chosen_sound}
use Rattle.ts_groups.proofs.groups_laws.chosen_page_is_sound.Goals as goal

pub returns : goal.returns
returns c = λ p groups values is. chosen_sound p groups values is
