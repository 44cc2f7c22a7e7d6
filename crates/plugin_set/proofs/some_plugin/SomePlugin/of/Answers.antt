use Rattle.plugin_set.proofs.some_plugin.SomePlugin.of.Goals as goal

pub returns-in-Ok-new_edit_pmt-clause-rule : goal.returns-in-Ok-new_edit_pmt-clause-rule
returns-in-Ok-new_edit_pmt-clause-rule c = rw c.in-Pmt.is c.in-Ok-new_edit_pmt.ensures.rule
