-- What is said of `continuity`. This project's own rule.
use Rattle.std.specs.Prelude.{codes, None, false}
use Rattle.plugin_options.specs.OptionTable.{made_into}
use Rattle.plugin_entry.specs.PluginEntry.{PluginEntry, silent_entry}
use Rattle.plug_watch.specs.ContinuityRule.{continuity_rule}
use Rattle.plug_watch.specs.ContinuitySettings.{IsValidContinuity}
use Rattle.plug_watch.specs.ContinuityWords.{continuity}
use Rattle.plug_watch.specs.declared.continuity_options.ContinuityOptions.{ContinuityOptions}

abbrev pub continuity_entry : PluginEntry ContinuityOptions
continuity_entry = record (silent_entry (codes "continuity") (made_into (λ counters. record { counters = counters }) continuity)
    (λ conf. IsValidContinuity conf.counters) (λ conf. continuity_rule conf.counters)) {
      preallocated = λ _ _. None;
      silent = λ _. false;
    }
