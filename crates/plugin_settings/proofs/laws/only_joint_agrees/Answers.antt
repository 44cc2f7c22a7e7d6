use Rattle.plugin_settings.proofs.ListLemmas.{never_agrees}
use Rattle.plugin_settings.proofs.laws.only_joint_agrees.Goals as goal

pub returns : goal.returns
returns c = never_agrees
