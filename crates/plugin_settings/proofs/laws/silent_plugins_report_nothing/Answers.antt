use Rattle.plugin_settings.proofs.ListLemmas.{silent_item}
use Rattle.plugin_settings.proofs.laws.silent_plugins_report_nothing.Goals as goal

pub returns : goal.returns
returns c = silent_item
