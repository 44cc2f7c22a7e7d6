use Rattle.plugin_settings.proofs.ListLemmas.{same_rule}
use Rattle.plugin_settings.proofs.laws.only_named_sections_count.Goals as goal

pub returns : goal.returns
returns c = same_rule
