-- The rules of the plugins that are silent. Written by tools/plugins from plugins.txt.
use Rattle.std.proofs.Common.{◌≡◌, ℕ, List, true, false, refl}
use Rattle.std.proofs.lemmas.Bool.{both_ways}
use Rattle.plugin_trait.specs.PlacedLines.{IsSilent}
use Rattle.plugin_settings.specs.Plugins.{is_silent, rule_of}
use Rattle.plugin_settings.specs.declared.plugin_conf.PluginConf.{PluginConf}
use Rattle.plugin_settings.specs.declared.plugin_conf.PluginConf.TheVariants.{Count, Continuity, Analyze, Info, Tables, Pcrverify, Timestamps, Rate, Monitor}

pub silent_rule_of : (conf : PluginConf) (sections : List (List ℕ)) → is_silent conf ≡ true → IsSilent (rule_of conf sections)
silent_rule_of (Count conf) sections silent = absurd (both_ways false refl silent)
silent_rule_of (Continuity conf) sections silent = absurd (both_ways false refl silent)
silent_rule_of (Analyze conf) sections silent = absurd (both_ways false refl silent)
silent_rule_of (Info conf) sections silent = absurd (both_ways false refl silent)
silent_rule_of (Tables conf) sections silent = absurd (both_ways false refl silent)
silent_rule_of (Pcrverify conf) sections silent = absurd (both_ways false refl silent)
silent_rule_of (Timestamps conf) sections silent = absurd (both_ways false refl silent)
silent_rule_of (Rate conf) sections silent = absurd (both_ways false refl silent)
silent_rule_of (Monitor conf) sections silent = absurd (both_ways false refl silent)
silent_rule_of _ sections silent = record { no_lines = λ history packet labels. refl; no_summary = λ history. refl }
