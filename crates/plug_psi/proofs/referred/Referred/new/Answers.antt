use Rattle.std.proofs.Common.{[], IfOk, sym, subst, ◌∙◌}
use Rattle.plug_psi.specs.ForceStands.{StandsFor}
use Rattle.plug_psi.specs.ReferredState.{HasCat}
use Rattle.plug_psi.proofs.NamedLemmas.{named-none}
use Rattle.plug_psi.proofs.referred.Referred.new.Goals as goal

pub returns : goal.returns
returns c = record {
  working = c.unset.ensures;
  forced = subst (λ r. IfOk r (λ f. StandsFor f [])) c.in_ok-one-2.ensures.second c.new-force.ensures;
  cat_fed = subst (λ o. HasCat o []) (sym c.in_ok-one-2.ensures.first) c.in_ok-one.ensures;
  flagged = λ pid below. c.in_ok-flags.ensures.each pid ∙ sym (named-none pid);
}
