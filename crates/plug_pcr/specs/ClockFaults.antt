-- PCRs that are checked, and their faults. This project's own rule, over the program_clock_reference of ISO/IEC
-- 13818-1, 2.4.3.5.
use Rattle.std.specs.Prelude.{ℕ, ◌-◌, List, [], ◌∷◌, ◌++◌, length, filter, Bool, false, ◌==◌, ◌&&◌, nat_lt, Option, None, Some, slice_get, codes, if◌then◌else◌}
use Rattle.std.specs.Fmt.{decimal}
use Rattle.ts_packet.specs.declared.cell.Cell.{Cell}
use Rattle.ts_packet.specs.MetRows.{Met, met_rows}
use Rattle.ts_packet.specs.Header.{pid_of}
use Rattle.ts_packet.specs.Adaptation.{discontinuity_of}
use Rattle.ts_packet.specs.Pcr.{clock_of, has_pcr_of}
use Rattle.plugin_trait.specs.declared.line.Line.{Line}
use Rattle.plugin_notes.specs.Notes.{notes_after}
use Rattle.plugin_options.specs.Selection.{is_selected}
use Rattle.plug_pcr.specs.ClockJitter.{jitter_of}
use Rattle.plug_pcr.specs.declared.clock_fault.ClockFault.{ClockFault}
use Rattle.plug_pcr.specs.declared.pcrverify_conf.PcrverifyConf.{PcrverifyConf}

-- the packet has a PCR, and its PID is checked
abbrev pub is_clocked : PcrverifyConf → List ℕ → Bool
is_clocked conf packet = is_selected conf.pid false (pid_of packet) && has_pcr_of packet

-- the packet, given with its position, is on the PID and has a PCR
abbrev pub has_clock_on : ℕ → Met → Bool
has_clock_on pid row = (pid_of row.packet == pid) && has_pcr_of row.packet

-- the packets on a PID that have a PCR, each with its position; dropped cells count as positions too
abbrev pub clocks_on : ℕ → List Cell → List Met
clocks_on pid cells = filter (has_clock_on pid) (met_rows cells)

-- the last of them, if there is one
abbrev pub last_clock_on : ℕ → List Cell → Option Met
last_clock_on pid cells = slice_get (clocks_on pid cells) (length (clocks_on pid cells) - 1)

-- the fault of a packet at a position with this jitter: there is one if the jitter is above the limit
abbrev pub fault_with : ℕ → ℕ → List ℕ → ℕ → List ClockFault
fault_with jitter_max at packet jitter =
    if nat_lt jitter_max jitter then record { at = at; pid = pid_of packet; jitter = jitter } ∷ [] else []

-- the fault of a packet at a position, given the last packet with a PCR before it on its PID; with the
-- discontinuity_indicator it is not checked, nor is the first packet with a PCR
abbrev pub fault_behind : PcrverifyConf → ℕ → Option Met → List ℕ → List ClockFault
fault_behind conf at None packet = []
fault_behind conf at (Some before) packet =
    if discontinuity_of packet
    then []
    else fault_with conf.jitter_max at packet
    (jitter_of conf.bitrate (at - before.at) (clock_of before.packet) (clock_of packet))

-- the fault of a packet after a history of cells
abbrev pub fault_on : PcrverifyConf → List Cell → List ℕ → List ClockFault
fault_on conf history packet =
    if is_clocked conf packet
    then fault_behind conf (length history) (last_clock_on (pid_of packet) history) packet
    else []

-- the faults in a list of cells
abbrev pub faults_in : PcrverifyConf → List Cell → List ClockFault
faults_in conf cells = notes_after (fault_on conf) [] cells

-- the position of a fault
abbrev pub place_of_fault : ClockFault → ℕ
place_of_fault fault = fault.at

-- the text of a fault: `packet <position> pid <pid> jitter <jitter>`
abbrev pub text_of_fault : ClockFault → List ℕ
text_of_fault fault = codes "packet " ++ (decimal fault.at ++ (codes " pid " ++ (decimal fault.pid
    ++ (codes " jitter " ++ decimal fault.jitter))))

-- the line of a fault
abbrev pub line_of_fault : ClockFault → Line
line_of_fault fault = record { at = fault.at; text = text_of_fault fault }
