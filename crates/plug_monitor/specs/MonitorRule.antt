-- The rule of `monitor`. This project's own rule, over ETSI TR 101 290, 5.2.
use Rattle.std.specs.Prelude.{false, length, map, nat_lt}
use Rattle.chain_model.specs.PluginRule.{PluginRule, passes}
use Rattle.monitor_lines.specs.ErrorTexts.{text_of_error}
use Rattle.plug_monitor.specs.Counting.{count_of}
use Rattle.plug_monitor.specs.ErrorNotes.{errors_in}
use Rattle.plug_monitor.specs.MonitorErrors.{errors_on}
use Rattle.plug_monitor.specs.MonitorTexts.{summary_texts}
use Rattle.plug_monitor.specs.declared.monitor_conf.MonitorConf.{MonitorConf}

-- every packet passes; each error has a line at the packet with which it is known, and all have the summary; an error is a fault
abbrev pub monitor_rule : MonitorConf → PluginRule
monitor_rule conf = record {
  outcome_of = λ _ packet _. passes packet;
  labels_of = λ _ _ labels. labels;
  lines_of = λ history packet _. map text_of_error (errors_on conf history packet);
  summary_of = λ history. summary_texts conf (count_of (errors_in conf history)) (length (errors_in conf history));
  agrees = λ _. false;
  has_fault = λ history. nat_lt 0 (length (errors_in conf history));
}
