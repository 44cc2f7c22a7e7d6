-- The rule of `timestamps`. This project's own rule, over the PCR of ISO/IEC 13818-1, 2.4.3.5, and the PTS and DTS of
-- 2.4.3.7.
use Rattle.std.specs.Prelude.{ℕ, List, [], Bool, false, if◌then◌else◌}
use Rattle.std.specs.List.{flat_map}
use Rattle.ts_packet.specs.declared.numbers.TheConstants.{PID_COUNT}
use Rattle.chain_model.specs.PluginRule.{PluginRule, passes}
use Rattle.plugin_notes.specs.PidPackets.{numbers_below}
use Rattle.plug_times.specs.ClockSteps.{clock_lines}
use Rattle.plug_times.specs.StampTexts.{stamp_texts}
use Rattle.plug_times.specs.Stamps.{stamps_in, stamps_on}
use Rattle.plug_times.specs.declared.stamp.Stamp.{Stamp}
use Rattle.plug_times.specs.declared.timestamps_conf.TimestampsConf.{TimestampsConf}

-- the PIDs with PCRs, ascending, each with a line on the steps of its PCRs; none with `csv`
abbrev pub summary_on : Bool → List Stamp → List (List ℕ)
summary_on csv stamps = if csv then [] else flat_map (clock_lines stamps) (numbers_below PID_COUNT)

-- every packet passes; each value has a line, and each PID with PCRs one at the end
abbrev pub timestamps_rule : TimestampsConf → PluginRule
timestamps_rule conf = record {
  outcome_of = λ _ packet _. passes packet;
  labels_of = λ _ _ labels. labels;
  lines_of = λ history packet _. flat_map (stamp_texts conf.shown) (stamps_on conf history packet);
  summary_of = λ history. summary_on conf.shown.csv (stamps_in conf history);
  agrees = λ _. false;
  has_fault = λ _. false;
}
