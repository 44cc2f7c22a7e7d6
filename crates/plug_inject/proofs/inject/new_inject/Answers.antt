use Rattle.std.proofs.Common.{ap, zero-le}
use Rattle.plugin_trait.proofs.FindLemmas.{find-first}
use Rattle.plug_inject.specs.Supplied.{Supplied}
use Rattle.plug_inject.proofs.TurnLemmas.{at_first}
use Rattle.plug_inject.proofs.inject.new_inject.Goals as goal

pub returns-clause-fresh : goal.returns-clause-fresh
returns-clause-fresh c =
    ((at_first _ _ _ (ap (λ (supply : Supplied). supply.given) c.in_ok-supply.ensures) c.counting_of-counting.ensures.fresh, find-first _ _ c.none.ensures), zero-le)
