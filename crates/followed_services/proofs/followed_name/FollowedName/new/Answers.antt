use Rattle.std.proofs.Common.{[], IfOk, sym, subst}
use Rattle.plug_psi.specs.ForceStands as forcing
use Rattle.named_services.specs.NamesStand.{NamesStand}
use Rattle.followed_services.proofs.followed_name.FollowedName.new.Goals as goal

pub returns : goal.returns
returns c = record {
  named = subst (λ words. NamesStand words c.in_ok-names-2.names []) c.in_ok-words.ensures
      (subst (λ n. NamesStand c.in_ok-words.words n []) (sym c.in_ok-names-2.ensures.first) c.in_ok-names.ensures);
  forced = subst (λ r. IfOk r (λ f. forcing.StandsFor f [])) c.in_ok-names-2.ensures.second c.new-force.ensures;
}
