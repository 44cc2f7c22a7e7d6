use Rattle.std.proofs.Common.{ap, ◌∙◌}
use Rattle.plug_edit.specs.Changes.{change_nit}
use Rattle.plug_edit.specs.EditRule.{edit_rule}
use Rattle.plug_edit.proofs.nit_plugin.new_edit_nit.Goals as goal

pub returns-clause-rule : goal.returns-clause-rule
returns-clause-rule c = c.in_ok-plugin.ensures.rule ∙ ap (λ conf. edit_rule 16 (change_nit conf)) c.in_ok-copy.ensures
