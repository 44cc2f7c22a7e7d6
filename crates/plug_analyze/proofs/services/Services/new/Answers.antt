use Rattle.std.proofs.Common.{◌≡◌, ℕ, [], List, IfOk, sym, subst, ap}
use Rattle.plug_psi.specs.ForceStands.{StandsFor}
use Rattle.plug_analyze.specs.AnalyzeRule.{services_in_force}
use Rattle.plug_analyze.proofs.ServicesKeeping.{serves_new}
use Rattle.plug_analyze.proofs.services.Services.new.Goals as goal

pub returns-clause-serves : goal.returns-clause-serves
returns-clause-serves c =
    serves_new _ (subst (λ f. StandsFor f []) (sym c.in_ok-force-2.ensures.first) c.in_ok-force.ensures)
    (subst (λ r. IfOk r (λ s. (fed : List (List ℕ)) → StandsFor c.in_ok-force.force fed → s.items ≡ services_in_force fed)) c.in_ok-force-2.ensures.second
    c.services_of-services.ensures [] c.in_ok-force.ensures)
    (ap (λ b. b.items) c.in_ok-changes.ensures)
