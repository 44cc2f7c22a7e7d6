use Rattle.plugin_trait.proofs.FindLemmas.{find-first}
use Rattle.service_edit.specs.ServiceRule.{is_edited}
use Rattle.service_edit.proofs.service_steps.new_service_steps.Goals as goal

pub returns-clause-fresh : goal.returns-clause-fresh
returns-clause-fresh g c = (
  λ works. record { forced = c.in_ok-force.ensures; edited = c.new-2.ensures c.args.edit (is_edited c.args.service) },
  find-first _ c.none.result c.none.ensures,
)
