use Rattle.std.proofs.Common.{[], sym, subst}
use Rattle.followed_services.specs.NumberStands as following
use Rattle.plug_eit.specs.EitRule.{eit_edit}
use Rattle.plug_eit.specs.declared.eit_conf.EitConf.{EitConf}
use Rattle.plug_eit.proofs.Taking.{fresh-stands}
use Rattle.plug_eit.proofs.eit.new_steps.Goals as goal

pub returns-clause-fresh : goal.returns-clause-fresh
returns-clause-fresh c =
    fresh-stands c.in_ok-own.own c.in_ok-service.service c.in_ok-flow.flow c.none.result _
    (record {
      named = subst (λ (k : EitConf). following.StandsFor k.service c.in_ok-service.service []) (sym c.in_ok-own.ensures) c.in_ok-service.ensures.fresh;
      flows = c.in_ok-flow.ensures (eit_edit c.in_ok-own.own);
    })
    c.none.ensures
