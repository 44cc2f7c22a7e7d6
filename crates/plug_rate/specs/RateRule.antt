-- The rule of `rate`. This project's own rule, over the PCR of ISO/IEC 13818-1, 2.4.3.5.
use Rattle.std.specs.Prelude.{[], ◌∷◌, Bool, false}
use Rattle.std.specs.List.{flat_map, list_any}
use Rattle.chain_model.specs.PluginRule.{PluginRule, passes}
use Rattle.plug_rate.specs.Bounds.{is_fault}
use Rattle.plug_rate.specs.Measures.{judged_in, judged_on}
use Rattle.plug_rate.specs.RateTexts.{summary_of_rates, texts_of}
use Rattle.plug_rate.specs.declared.judged.Judged.{Judged}
use Rattle.plug_rate.specs.declared.rate_conf.RateConf.{RateConf}

-- the rate is outside of the bounds
abbrev pub is_wrong : Judged → Bool
is_wrong judged = is_fault judged.verdict

-- every packet passes; each measurement that is to be told has a line, and all have the summary; a rate outside of the bounds
-- is a fault
abbrev pub rate_rule : RateConf → PluginRule
rate_rule conf = record {
  outcome_of = λ _ packet _. passes packet;
  labels_of = λ _ _ labels. labels;
  lines_of = λ history packet _. flat_map texts_of (judged_on conf history packet);
  summary_of = λ history. summary_of_rates (judged_in conf history) ∷ [];
  agrees = λ _. false;
  has_fault = λ history. list_any is_wrong (judged_in conf history);
}
