use Rattle.std.proofs.Common.{ap}
use Rattle.chain_model.specs.PluginRule.{passes}
use Rattle.plug_eit.proofs.NumberedLemmas.{fault-numbered, made-numbered}
use Rattle.plug_eit.proofs.eit_laws.a_number_is_edited_by_one_pid.Goals as goal

pub returns-clause-outcome : goal.returns-clause-outcome
returns-clause-outcome c = λ conf id history packet labels is.
    ap passes (made-numbered conf id is c.a_number_means_itself.ensures c.an_edit_that_stays_goes_by_one_pid.ensures.replaced history packet)

pub returns-clause-fault : goal.returns-clause-fault
returns-clause-fault c = λ conf id history is. fault-numbered conf id is c.a_number_means_itself.ensures c.an_edit_that_stays_goes_by_one_pid.ensures.completed history
