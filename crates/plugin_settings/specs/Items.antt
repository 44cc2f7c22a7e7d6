-- A plugin of the chain: its settings with the options that plugins share, its words, and its rule.
-- This project's own rule.
use Rattle.std.specs.Prelude.{◌≡◌, ◌≤◌, ℕ, List, [], ◌∷◌, ◌++◌, ◌&&◌, Bool, true, false, not, IfSome, Option, None, Some, codes, option_map}
use Rattle.clap.specs.Walk.{Row}
use Rattle.ts_packet.specs.declared.labels.TheConstants.{LABEL_COUNT}
use Rattle.chain_model.specs.PluginRule.{PluginRule}
use Rattle.plugin_options.specs.LabelSet.{label_set}
use Rattle.plugin_options.specs.Number.{number_within}
use Rattle.plugin_options.specs.NumberSet.{AllBelow}
use Rattle.plugin_options.specs.declared.limits.TheConstants.{LAST_LABEL, MOST_PACKETS}
use Rattle.plugin_options.specs.Forms.{number, ranges}
use Rattle.plugin_options.specs.Options.{OptionRow, has_flag, has_value, is_formed, read_value, value}
use Rattle.plugin_options.specs.OptionTable.{OptionTable, first_broken}
use Rattle.plugin_options.specs.Ranges.{ranges_of}
use Rattle.plugin_options.specs.declared.refusal.Refusal.{Refusal}
use Rattle.plugin_options.specs.declared.refusal.Refusal.TheVariants.{Broken, NoMemory}
use Rattle.plugin_options.specs.declared.words_rule.WordsRule.{WordsRule}
use Rattle.plugin_options.specs.declared.words_rule.WordsRule.TheVariants.{Conflict, Value}
use Rattle.plug_every.specs.EveryRule.{rule_every}
use Rattle.plug_every.specs.EveryStands.{preallocated_every, silent_every}
use Rattle.plug_masked.specs.OnlyLabels.{rule_for}
use Rattle.plugin_settings.specs.Plugins.{IsValid, has_summary, is_silent, options_of_plugin, preallocated_of, rule_of}
use Rattle.plugin_settings.specs.declared.plugin_conf.PluginConf.{PluginConf}
use Rattle.plugin_settings.specs.declared.plugin_conf.PluginKind.{PluginKind}
use Rattle.plugin_settings.specs.declared.plugin_item.PluginItem.{PluginItem}

-- ---- the options that plugins share

-- the option that every plugin has besides its own
abbrev pub only_label_row : OptionRow
only_label_row = record { name = codes "only-label"; kind = value (ranges LAST_LABEL) }

-- the option that a plugin has that has a summary
abbrev pub every_row : OptionRow
every_row = record { name = codes "every"; kind = value (number 1 MOST_PACKETS) }

-- those of a plugin that has a summary, or has none
abbrev pub shared_rows : Bool → List OptionRow
shared_rows true = every_row ∷ only_label_row ∷ []
shared_rows false = only_label_row ∷ []

-- the number of packets after which there is a summary so far
abbrev pub every_of : Bool → List Row → Option ℕ
every_of true found = read_value (number_within 1 MOST_PACKETS) (codes "every") found
every_of false found = None

-- a line before such a summary says how many packets were seen, but in a report in JSON
abbrev pub counts_of : List Row → Bool
counts_of found = not (has_flag (codes "json") found)

-- a report of lines between commas has no such summaries
abbrev pub excludes_every : List Row → Bool
excludes_every found = has_value (codes "every") found && has_flag (codes "csv") found

-- the number, where there is one, is well-formed
abbrev pub is_every_formed : Bool → List Row → Bool
is_every_formed true found = is_formed (number 1 MOST_PACKETS) (codes "every") found
is_every_formed false found = true

-- what is given for the options that are shared is well-formed
abbrev pub are_shared_formed : Bool → List Row → Bool
are_shared_formed summary found =
    is_every_formed summary found && is_formed (ranges LAST_LABEL) (codes "only-label") found

-- the first rule that these break, where the plugin's own options break none
abbrev pub shared_broken : Bool → List Row → Option WordsRule
shared_broken summary found = first_broken (
    (Value, not (are_shared_formed summary found))
    ∷ (Conflict, excludes_every found)
    ∷ []
    )

-- out of memory, or they break this rule first
abbrev pub IsSharedRefusal : Bool → List Row → Refusal → Type 0
IsSharedRefusal summary found (Broken rule) = shared_broken summary found ≡ Some rule
IsSharedRefusal summary found NoMemory = Unit {0}

-- the options of a plugin with these after them; none of these is required
abbrev pub with_shared : Bool → OptionTable PluginConf → OptionTable PluginItem
with_shared summary table = record {
  rows = table.rows ++ shared_rows summary;
  has_needed = table.has_needed;
  settings = λ found. record {
    conf = table.settings found;
    every = every_of summary found;
    counts = counts_of found;
    only = read_value (ranges_of LAST_LABEL) (codes "only-label") found;
  };
  go_together = λ found. table.go_together found && not (excludes_every found);
}

-- ---- the plugins

-- all options of a plugin
abbrev pub options_of_item : PluginKind → OptionTable PluginItem
options_of_item kind = with_shared (has_summary kind) (options_of_plugin kind)

-- the settings are valid, a summary comes after a number of packets from 1 to 2^40, and each label is below 32
pub record IsValidItem (item : PluginItem) : Type 0 where
  pub settings : IsValid item.conf
  pub every : IfSome item.every (λ n. (1 ≤ n) × (n ≤ MOST_PACKETS))
  pub labels : IfSome item.only (AllBelow LABEL_COUNT)

-- the rule of the item, with the sections of the file that its settings name: the rule of the settings, with the summaries so
-- far where the item has them, for the packets that the plugin sees
abbrev pub rule_of_item : PluginItem → List (List ℕ) → PluginRule
rule_of_item item sections =
    rule_for (option_map label_set item.only) (rule_every item.every item.counts (rule_of item.conf sections))

-- the number of positions after the greatest mark for which the plugin of the item allocates its memory before the run
abbrev pub preallocated_of_item : PluginItem → ℕ → Option ℕ
preallocated_of_item item buffer = preallocated_every item.every (preallocated_of item.conf buffer)

-- the plugin of the item has nothing to report: neither lines nor a summary
abbrev pub is_silent_item : PluginItem → Bool
is_silent_item item = silent_every item.every (is_silent item.conf)
