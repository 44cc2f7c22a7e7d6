-- The rule of `analyze`. This project's own rule, over the header fields of ISO/IEC 13818-1, 2.4.3.2, the PCR of 2.4.3.5
-- and the tables of 2.4.4.3 and 2.4.4.8.
use Rattle.std.specs.Prelude.{ℕ, List, [], ◌∷◌, ◌++◌, length, map, filter, count_by, Bool, false, not, ◌==◌, Option, None, Some, is_some, codes}
use Rattle.std.specs.Fmt.{decimal}
use Rattle.ts_packet.specs.declared.cell.Cell.{Cell}
use Rattle.ts_packet.specs.Cells.{live_packets}
use Rattle.ts_packet.specs.Header.{has_payload_of, scrambling_of}
use Rattle.ts_packet.specs.Pcr.{pcr_of}
use Rattle.ts_packet.specs.declared.numbers.TheConstants.{NULL_PID, PID_COUNT}
use Rattle.ts_table_rows.specs.TableValues.{TableHolding}
use Rattle.chain_model.specs.PluginRule.{PluginRule, passes}
use Rattle.plug_psi.specs.InForce.{pat_of, pmt_of, services_in}
use Rattle.plugin_notes.specs.declared.continuity_conf.ContinuityConf.{ContinuityConf}
use Rattle.plugin_notes.specs.ContinuityErrors.{errors_in}
use Rattle.plugin_notes.specs.PidPackets.{numbers_below, packets_on}
use Rattle.plug_analyze.specs.declared.pid_counts.PidCounts.{PidCounts}
use Rattle.plug_analyze.specs.declared.service_count.ServiceCount.{ServiceCount}

-- `continuity` without options, whose faults are counted: it looks at all PIDs but 8191
abbrev pub all_pids : ContinuityConf
all_pids = record { pid = []; fix = false }

-- the packet is scrambled
abbrev pub is_scrambled : List ℕ → Bool
is_scrambled packet = not (scrambling_of packet == 0)

-- the packet has a PCR
abbrev pub has_pcr : List ℕ → Bool
has_pcr packet = is_some (pcr_of packet)

-- the PIDs of the faults in a list of cells
abbrev pub fault_pids : List Cell → List ℕ
fault_pids cells = map (λ error. error.pid) (errors_in all_pids cells)

-- how many packets on a PID are of each kind, in a list of cells
abbrev pub counts_on : ℕ → List Cell → PidCounts
counts_on pid cells = record {
  packets = packets_on pid (live_packets cells);
  payload = packets_on pid (filter has_payload_of (live_packets cells));
  scrambled = packets_on pid (filter is_scrambled (live_packets cells));
  faults = count_by (λ q. q == pid) (fault_pids cells);
  pcr = packets_on pid (filter has_pcr (live_packets cells));
}

-- the PIDs that have packets, in ascending order
abbrev pub pids_with : List (List ℕ) → List ℕ
pids_with packets = filter (λ pid. not (packets_on pid packets == 0)) (numbers_below PID_COUNT)

-- how many components a PMT has, if there is one
abbrev pub components_in : Option TableHolding → ℕ
components_in None = 0
components_in (Some pmt) = length pmt.body.items

-- an entry of a PAT, where these PMTs are in force
abbrev pub service_with : (ℕ → Option TableHolding) → ℕ × ℕ → ServiceCount
service_with pmts service = record { id = service.0; pid = service.1; components = components_in (pmts service.0) }

-- the services of the PAT in force, in its order, each with its components
abbrev pub services_in_force : List (List ℕ) → List ServiceCount
services_in_force packets = map (service_with (λ service. pmt_of service packets)) (services_in (pat_of packets))

-- `packets <n>`
abbrev pub packets_text : ℕ → List ℕ
packets_text n = codes "packets " ++ decimal n

-- `pids <n>`
abbrev pub pids_text : ℕ → List ℕ
pids_text n = codes "pids " ++ decimal n

-- `nulls <n>`
abbrev pub nulls_text : ℕ → List ℕ
nulls_text n = codes "nulls " ++ decimal n

-- `pid <pid> packets <n> payload <n> scrambled <n> faults <n> pcr <n>`
abbrev pub pid_text : ℕ → PidCounts → List ℕ
pid_text pid counts = codes "pid " ++ (decimal pid ++ (codes " packets " ++ (decimal counts.packets
    ++ (codes " payload " ++ (decimal counts.payload ++ (codes " scrambled " ++ (decimal counts.scrambled
    ++ (codes " faults " ++ (decimal counts.faults ++ (codes " pcr " ++ decimal counts.pcr))))))))))

-- `service <id> pmt <pid> components <n>`
abbrev pub service_text : ServiceCount → List ℕ
service_text s = codes "service " ++ (decimal s.id ++ (codes " pmt " ++ (decimal s.pid
    ++ (codes " components " ++ decimal s.components))))

-- the numbers of all packets, of the PIDs that have some, and of the null packets
abbrev pub head_lines : List (List ℕ) → List (List ℕ)
head_lines packets = packets_text (length packets) ∷ pids_text (length (pids_with packets))
    ∷ nulls_text (packets_on NULL_PID packets) ∷ []

-- the lines of the PIDs that have packets, in ascending order
abbrev pub pid_lines : List Cell → List (List ℕ)
pid_lines cells = map (λ pid. pid_text pid (counts_on pid cells)) (pids_with (live_packets cells))

-- the lines of the services of the PAT in force
abbrev pub service_lines : List (List ℕ) → List (List ℕ)
service_lines packets = map service_text (services_in_force packets)

-- the report on a list of cells
abbrev pub summary_on : List Cell → List (List ℕ)
summary_on cells = head_lines (live_packets cells) ++ (pid_lines cells ++ service_lines (live_packets cells))

-- every packet passes, and the summary is the report on them
abbrev pub analyze_rule : PluginRule
analyze_rule = record {
  outcome_of = λ _ packet _. passes packet;
  labels_of = λ _ _ labels. labels;
  lines_of = λ _ _ _. [];
  summary_of = λ history. summary_on history;
  agrees = λ _. false;
  has_fault = λ _. false;
}
