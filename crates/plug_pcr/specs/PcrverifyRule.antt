-- The rule of `pcrverify`. This project's own rule, over the program_clock_reference of ISO/IEC 13818-1, 2.4.3.5.
use Rattle.std.specs.Prelude.{ℕ, nat_lt, List, [], ◌∷◌, ◌++◌, length, filter, map, false, codes}
use Rattle.std.specs.Fmt.{decimal}
use Rattle.ts_packet.specs.declared.cell.Cell.{Cell}
use Rattle.ts_packet.specs.Cells.{live_packets}
use Rattle.chain_model.specs.PluginRule.{PluginRule, passes}
use Rattle.plug_pcr.specs.declared.pcrverify_conf.PcrverifyConf.{PcrverifyConf}
pub use Rattle.plug_pcr.specs.ClockFaults.{fault_on, faults_in, is_clocked, text_of_fault}

-- the packets with a PCR on a checked PID, in a list of cells
abbrev pub clocked : PcrverifyConf → List Cell → List (List ℕ)
clocked conf cells = filter (is_clocked conf) (live_packets cells)

-- `pcr <packets with a PCR> faults <n>`
abbrev pub summary_text : ℕ → ℕ → List ℕ
summary_text clocks faults = codes "pcr " ++ (decimal clocks ++ (codes " faults " ++ decimal faults))

-- every packet passes; each fault has a line, and the summary has the numbers of PCRs and of faults
abbrev pub pcrverify_rule : PcrverifyConf → PluginRule
pcrverify_rule conf = record {
  outcome_of = λ _ packet _. passes packet;
  labels_of = λ _ _ labels. labels;
  lines_of = λ history packet _. map text_of_fault (fault_on conf history packet);
  summary_of = λ history. summary_text (length (clocked conf history)) (length (faults_in conf history)) ∷ [];
  agrees = λ _. false;
  has_fault = λ history. nat_lt 0 (length (faults_in conf history));
}
