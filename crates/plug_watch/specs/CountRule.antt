-- The rule of `count`. This project's own rule, over the PID of ISO/IEC 13818-1, 2.4.3.2.
use Rattle.std.specs.Prelude.{ℕ, List, [], ◌∷◌, ◌++◌, length, filter, Bool, false, ◌==◌, codes, if◌then◌else◌}
use Rattle.std.specs.List.{flat_map}
use Rattle.std.specs.Fmt.{decimal}
use Rattle.ts_packet.specs.declared.cell.Cell.{Cell}
use Rattle.ts_packet.specs.Cells.{live_packets}
use Rattle.ts_packet.specs.Header.{pid_of}
use Rattle.chain_model.specs.PluginRule.{PluginRule, passes}
use Rattle.ts_packet.specs.declared.numbers.TheConstants.{PID_COUNT}
use Rattle.plug_watch.specs.declared.count_conf.CountConf.{CountConf}
use Rattle.plugin_options.specs.Selection.{is_selected}
pub use Rattle.plugin_notes.specs.PidPackets.{packets_on}
unfoldable pub use Rattle.plugin_notes.specs.PidPackets.{numbers_below}

-- the packet is counted
abbrev pub is_counted : CountConf → List ℕ → Bool
is_counted conf packet = is_selected conf.pid conf.negate (pid_of packet)

-- the counted packets in a list of cells
abbrev pub counted : CountConf → List Cell → List (List ℕ)
counted conf cells = filter (is_counted conf) (live_packets cells)

-- the line of a packet: `packet <position> pid <pid>`
abbrev pub packet_text : ℕ → ℕ → List ℕ
packet_text at pid = codes "packet " ++ (decimal at ++ (codes " pid " ++ decimal pid))

-- the line of a PID with its number of packets: `pid <pid> packets <n>`
abbrev pub pid_text : ℕ → ℕ → List ℕ
pid_text pid n = codes "pid " ++ (decimal pid ++ (codes " packets " ++ decimal n))

-- the line of all counted packets: `total <n>`
abbrev pub total_text : ℕ → List ℕ
total_text n = codes "total " ++ decimal n

-- the line of a PID, if it has packets
abbrev pub pid_lines : List (List ℕ) → ℕ → List (List ℕ)
pid_lines packets pid = if packets_on pid packets == 0 then [] else pid_text pid (packets_on pid packets) ∷ []

-- the PIDs with their packets, ascending, and then the total; with `total` the total only
abbrev pub summary_on : Bool → List (List ℕ) → List (List ℕ)
summary_on total packets =
    (if total then [] else flat_map (pid_lines packets) (numbers_below PID_COUNT))
    ++ total_text (length packets) ∷ []

-- the line of a packet after a history of cells, if it is counted
abbrev pub line_on : CountConf → List Cell → List ℕ → List (List ℕ)
line_on conf history packet =
    if is_counted conf packet then packet_text (length history) (pid_of packet) ∷ [] else []

-- every packet passes; with `all` each counted packet has a line; the summary has the counts
abbrev pub count_rule : CountConf → PluginRule
count_rule conf = record {
  outcome_of = λ _ packet _. passes packet;
  labels_of = λ _ _ labels. labels;
  lines_of = λ history packet _. if conf.all then line_on conf history packet else [];
  summary_of = λ history. summary_on conf.total (counted conf history);
  agrees = λ _. false;
  has_fault = λ _. false;
}
