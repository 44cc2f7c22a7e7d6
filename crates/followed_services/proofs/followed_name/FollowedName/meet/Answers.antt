use Rattle.std.proofs.Common.{◌≡◌, false, ◌++◌, ◌∷◌, []}
use Rattle.plug_psi.specs.SameForce.{SameInForce}
use Rattle.followed_services.proofs.NumberLemmas.{same-number}
use Rattle.followed_services.proofs.followed_name.FollowedName.meet.Goals as goal

pub returns-clause-stands : goal.returns-clause-stands
returns-clause-stands c = λ word met h.
    let forced = c.in_ok-came.ensures.stands met h.forced in
    let same : c.in_ok-came.came ≡ false → SameInForce met c.args.packet.now = λ none. c.in_ok-came.ensures.same none met h.forced in
    record { named = c.in_ok-other.ensures.stands (word ∷ []) met h.named forced same; forced = forced }

pub returns-clause-same : goal.returns-clause-same
returns-clause-same c = λ none word met h.
    let forced = c.in_ok-came.ensures.stands met h.forced in
    let same : c.in_ok-came.came ≡ false → SameInForce met c.args.packet.now = λ n. c.in_ok-came.ensures.same n met h.forced in
    same-number word (met ++ c.args.packet.now ∷ []) met (c.in_ok-other.ensures.same none (word ∷ []) met h.named forced same).services
