use Rattle.followed_services.proofs.NumberLemmas.{services-one}
use Rattle.followed_services.proofs.laws.a_word_means_one_service.Goals as goal

pub returns : goal.returns
returns c = services-one
