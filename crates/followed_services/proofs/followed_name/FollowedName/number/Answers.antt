use Rattle.std.proofs.Common.{[], ◌∷◌, ◌∙◌}
use Rattle.followed_services.proofs.NumberLemmas.{first-number}
use Rattle.followed_services.proofs.followed_name.FollowedName.number.Goals as goal

pub returns : goal.returns
returns c = λ word met h. c.first_number.ensures ∙ first-number _ word met (c.services.ensures (word ∷ []) met h.named)
