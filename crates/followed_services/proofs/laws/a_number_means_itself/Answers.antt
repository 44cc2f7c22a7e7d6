use Rattle.followed_services.proofs.NumberLemmas.{number-fixed}
use Rattle.followed_services.proofs.laws.a_number_means_itself.Goals as goal

pub returns : goal.returns
returns c = number-fixed
