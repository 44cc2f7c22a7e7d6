-- The plugins that the lists `uses_joint`, `table_file_of` and `is_silent` do not name.
use Rattle.std.proofs.Common.{◌≡◌, ℕ, List, [], Bool, true, false, ◌&&◌, if◌then◌else◌, Option, None, Some, refl, ap}
use Rattle.std.specs.Prelude.{option_map}
use Rattle.ts_packet.specs.declared.cell.Cell.{Cell}
use Rattle.ts_packet.specs.Labels.{shares_label}
use Rattle.chain_model.specs.PluginRule.{PluginRule}
use Rattle.chain_model.specs.SeenCells.{seen}
use Rattle.plugin_trait.specs.PlacedLines.{IsSilent}
use Rattle.plugin_options.specs.LabelSet.{label_set}
use Rattle.plug_end.specs.UntilRule.{is_reached}
use Rattle.std.proofs.lemmas.Bool.{both_ways}
use Rattle.plug_every.specs.EveryRule.{rule_every}
use Rattle.plug_every.specs.EveryStands.{silent_every}
use Rattle.plugin_settings.specs.Items.{is_silent_item, rule_of_item}
use Rattle.plug_masked.specs.OnlyLabels.{rule_for}
use Rattle.plugin_settings.proofs.SilentRules.{silent_rule_of}
use Rattle.plugin_settings.specs.declared.plugin_item.PluginItem.{PluginItem}
use Rattle.plugin_settings.specs.Plugins.{is_silent, rule_of, table_file_of, uses_joint}
use Rattle.plugin_settings.specs.declared.plugin_conf.PluginConf.{PluginConf}
use Rattle.plugin_settings.specs.declared.plugin_conf.PluginConf.TheVariants.{Inject, Until}

pub never_agrees : (conf : PluginConf) (sections : List (List ℕ)) (history : List Cell) → uses_joint conf ≡ false → (rule_of conf sections).agrees history ≡ false
never_agrees (Until conf) sections history alone = ap (λ (joint : Bool). joint && is_reached conf history) alone
never_agrees _ sections history alone = refl

pub same_rule : (conf : PluginConf) (one other : List (List ℕ)) → table_file_of conf ≡ None → rule_of conf one ≡ rule_of conf other
same_rule (Inject conf) one other none = cc
same_rule _ one other none = refl

-- a choice of two things that are one
both_are : {X : Type 0} (b : Bool) (x y : X) → x ≡ y → (if b then x else y) ≡ y
both_are true x y same = same
both_are false x y same = refl

-- with labels a silent rule stays silent
silent_rule_for : (only : Option ℕ) (rule : PluginRule) → IsSilent rule → IsSilent (rule_for only rule)
silent_rule_for None rule silent = silent
silent_rule_for (Some only) rule silent = record {
  no_lines = λ history packet labels. both_are (shares_label labels only) (rule.lines_of (seen only history) packet labels) [] (silent.no_lines (seen only history) packet labels);
  no_summary = λ history. silent.no_summary (seen only history);
}

silent_every_rule : (every : Option ℕ) (counts silent : Bool) (rule : PluginRule) → silent_every every silent ≡ true → (silent ≡ true → IsSilent rule)
    → IsSilent (rule_every every counts rule)
silent_every_rule None counts silent rule is known = known is
silent_every_rule (Some n) counts silent rule is known = absurd (both_ways false refl is)

pub silent_item : (item : PluginItem) (sections : List (List ℕ)) → is_silent_item item ≡ true → IsSilent (rule_of_item item sections)
silent_item item sections silent =
    silent_rule_for (option_map label_set item.only) (rule_every item.every item.counts (rule_of item.conf sections))
    (silent_every_rule item.every item.counts (is_silent item.conf) (rule_of item.conf sections) silent (silent_rule_of item.conf sections))
