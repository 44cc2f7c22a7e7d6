-- The rule of `continuity`. This project's own rule, over the continuity_counter of ISO/IEC 13818-1, 2.4.3.3.
use Rattle.std.specs.Prelude.{ℕ, nat_lt, List, [], ◌∷◌, ◌++◌, length, false, ◌&&◌, Option, None, Some, codes, if◌then◌else◌}
use Rattle.std.specs.Fmt.{decimal}
use Rattle.ts_packet.specs.declared.cell.Cell.{Cell}
use Rattle.ts_packet.specs.Header.{pid_of, counter_of, with_counter}
use Rattle.chain_model.specs.PluginRule.{PluginRule, passes}
use Rattle.plugin_notes.specs.declared.continuity_conf.ContinuityConf.{ContinuityConf}
use Rattle.plugin_notes.specs.Notes.{notes_after}
pub use Rattle.plugin_notes.specs.Counters.{is_watched, packets_of, is_duplicate, wanted_behind, is_fault, fault_text, last_after, last_in, last_of, step_after, steps_after, right_counter}

-- the line of a packet at a position, after the packet before it on its PID, if its counter is a fault
abbrev pub fault_behind : ℕ → Option (List ℕ) → List ℕ → List (List ℕ)
fault_behind at None packet = []
fault_behind at (Some before) packet =
    if is_fault before packet
    then fault_text at (pid_of packet) (counter_of packet) (wanted_behind before packet) ∷ []
    else []

-- the line of a packet after a history of cells, if its PID is checked
abbrev pub fault_on : ContinuityConf → List Cell → List ℕ → List (List ℕ)
fault_on conf history packet =
    if is_watched conf (pid_of packet)
    then fault_behind (length history) (last_of (pid_of packet) history) packet
    else []

-- the lines of the faults in a list of cells
abbrev pub faults_in : ContinuityConf → List Cell → List (List ℕ)
faults_in conf cells = notes_after (fault_on conf) [] cells

-- the packet with its counter corrected: that field is set, and nothing else (`with_counter-sets` of `ts_packet`)
abbrev pub fixed : List Cell → List ℕ → List ℕ
fixed history packet = with_counter packet (right_counter (packets_of (pid_of packet) history ++ packet ∷ []))

-- `faults <n>`
abbrev pub faults_text : ℕ → List ℕ
faults_text n = codes "faults " ++ decimal n

-- each fault has a line, and the summary has their number; with `fix` the counters are corrected
abbrev pub continuity_rule : ContinuityConf → PluginRule
continuity_rule conf = record {
  outcome_of = λ history packet _.
      passes (if conf.fix && is_watched conf (pid_of packet) then fixed history packet else packet);
  labels_of = λ _ _ labels. labels;
  lines_of = λ history packet _. fault_on conf history packet;
  summary_of = λ history. faults_text (length (faults_in conf history)) ∷ [];
  agrees = λ _. false;
  has_fault = λ history. nat_lt 0 (length (faults_in conf history));
}
