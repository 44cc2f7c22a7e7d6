-- The rule of `filter`. This project's own rule, over the fields of ISO/IEC 13818-1, 2.4.3.2 to 2.4.3.5.
use Rattle.std.specs.Prelude.{ℕ, List, Bool, None, not, is_some, ◌==◌, ◌&&◌, ◌||◌, if◌then◌else◌}
use Rattle.ts_packet.specs.Labels.{joined, shares_label}
use Rattle.ts_packet.specs.Header.{pid_of, unit_start_of, scrambling_of}
use Rattle.ts_packet.specs.Pcr.{pcr_of}
use Rattle.plugin_trait.specs.Actions.{action}
use Rattle.plugin_trait.specs.SilentRule.{silent_rule_with}
use Rattle.chain_model.specs.PluginRule.{PluginRule, RuleOutcome, passes}
use Rattle.plugin_options.specs.LabelSet.{label_set}
use Rattle.plugin_options.specs.NumberSet.{has_number}
use Rattle.plug_pass.specs.declared.filter_conf.FilterConf.{FilterConf}
use Rattle.plug_pass.specs.FilterSettings.{sets_labels}

-- one of the conditions that are given holds of the packet or of its labels
abbrev pub meets_condition : FilterConf → List ℕ → ℕ → Bool
meets_condition conf packet labels = has_number conf.pid (pid_of packet)
    || ((conf.pcr && is_some (pcr_of packet))
    || ((conf.unit_start && unit_start_of packet)
    || ((conf.scrambled && not (scrambling_of packet == 0))
    || shares_label labels (label_set conf.label))))

-- the packet is selected: it meets a condition, or with `negate` it meets none
abbrev pub selects : FilterConf → List ℕ → ℕ → Bool
selects conf packet labels =
    if conf.negate then not (meets_condition conf packet labels) else meets_condition conf packet labels

-- what becomes of a packet: where labels are set every one passes; else the selected ones do, and the others are dropped,
-- or become null packets
abbrev pub filtered : FilterConf → List ℕ → ℕ → RuleOutcome
filtered conf packet labels =
    if sets_labels conf then passes packet
    else if selects conf packet labels then passes packet else action conf.stuffing None

-- the labels of a packet then: where labels are set, a selected one has these besides its own
abbrev pub labelled : FilterConf → List ℕ → ℕ → ℕ
labelled conf packet labels =
    if sets_labels conf && selects conf packet labels then joined labels (label_set conf.set_label) else labels

-- what becomes of a packet and of its labels does not depend on the cells before
abbrev pub filter_rule : FilterConf → PluginRule
filter_rule conf = silent_rule_with
    (λ _ packet labels. filtered conf packet labels)
    (λ _ packet labels. labelled conf packet labels)
