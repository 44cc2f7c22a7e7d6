use Rattle.std.proofs.Common.{◌++◌, ◌∷◌, [], sym, ◌∙◌, ap}
use Rattle.plug_service.specs.Present.{present_after}
use Rattle.plug_service.specs.declared.present.Present.{Present}
use Rattle.plug_service.proofs.StepLemmas.{same-actions, same-present}
use Rattle.plug_service.proofs.service_follower.renew_where.Goals as goal

pub returns-then-not-changed-clause-stands : goal.returns-then-not-changed-clause-stands
returns-then-not-changed-clause-stands c = λ way words met packet forced named same is stands.
    let both = same c.if-not-changed.true in
    (is ∙ sym (same-present way words met packet both.0 both.1), same-actions c.args.actions.now c.args.present.now met packet both.0 stands)

pub returns-clause-stands : goal.returns-clause-stands
returns-clause-stands c = λ way words met packet forced named same is stands.
    let after = met ++ packet ∷ [] in
    (c.in_ok-now.ensures words after named forced ∙ ap (λ w. present_after w words after) (ap (λ (p : Present). p.way) is), c.in_ok-renew.ensures after forced)
