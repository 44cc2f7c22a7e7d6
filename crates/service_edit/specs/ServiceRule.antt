-- The rule of an edit of a service's PMTs.
-- ISO/IEC 13818-1, 2.4.4.3: the PAT names the PID of a service's PMT. Which entry counts, and that other tables there are
-- carried, is this project's own rule, over the cycles of edited contents. What becomes of a packet depends on the PAT that
-- is in force at its position, the position included.
use Rattle.std.specs.Prelude.{ℕ, ◌==◌, ◌&&◌, Bool, false, List, [], ◌∷◌, ◌++◌, nat_lt, Option, None, Some, if◌then◌else◌}
use Rattle.ts_packet.specs.declared.cell.Cell.{Cell}
use Rattle.ts_packet.specs.declared.numbers.TheConstants.{NULL_PID}
use Rattle.ts_packet.specs.Cells.{live_packets}
use Rattle.ts_packet.specs.Header.{pid_of}
use Rattle.ts_demux.specs.TablesOn.{tables_on}
use Rattle.ts_demux.specs.TakenWhere.{taken_on}
use Rattle.chain_model.specs.PluginRule.{PluginRule}
use Rattle.plugin_options.specs.NumberSet.{has_number}
use Rattle.plugin_trait.specs.Actions.{action}
use Rattle.plugin_trait.specs.Finding.{finds_none}
use Rattle.plugin_trait.specs.SilentRule.{silent_rule}
use Rattle.plug_psi.specs.AlteredTables.{alters_one}
use Rattle.plug_psi.specs.EditedCycles.{replaced}
use Rattle.plug_psi.specs.Edits.{Change}
use Rattle.plug_psi.specs.InForce.{pat_of, pid_for}

-- a PID is there, and is this one, which is not that of null packets
abbrev pub is_at : Option ℕ → ℕ → Bool
is_at None pid = false
is_at (Some own) pid = (own == pid) && nat_lt pid NULL_PID

-- Whether the packets of a PID are edited at the last of some packets of any PID: the first entry of the service in the PAT
-- in force has it. The packets on the PID for which this holds are those that its edit takes.
abbrev pub is_edited : ℕ → ℕ → List (List ℕ) → Bool
is_edited service pid packets = is_at (pid_for (pat_of packets) service) pid

-- the packets that the edit on a PID took
abbrev pub taken_for : ℕ → ℕ → List (List ℕ) → List (List ℕ)
taken_for service pid packets = taken_on (is_edited service) pid packets

-- a packet that is not edited passes, unless packets of its PID go
abbrev pub kept : List (ℕ × ℕ) → List ℕ → Option (List ℕ)
kept dropped packet = if has_number dropped (pid_of packet) then None else Some packet

-- the packet in place of another, after the packets before; none if it goes
abbrev pub made_of : ℕ → (List (List ℕ) → Change) → List (ℕ × ℕ) → List (List ℕ) → List ℕ → Option (List ℕ)
made_of service change dropped before packet =
    if is_edited service (pid_of packet) (before ++ packet ∷ [])
    then Some (replaced (pid_of packet) change (taken_for service (pid_of packet) before) packet)
    else kept dropped packet

-- a packet is edited with which, or before which, a table was complete on its PID that the edit alters
abbrev pub finds_in : ℕ → (List (List ℕ) → Change) → List (List ℕ) → List ℕ → Bool
finds_in service change before packet =
    is_edited service (pid_of packet) (before ++ packet ∷ [])
    && alters_one change (tables_on (pid_of packet) (taken_for service (pid_of packet) before ++ packet ∷ []))

-- the same after these cells
abbrev pub finds_altered : ℕ → (List (List ℕ) → Change) → List Cell → List ℕ → ℕ → Bool
finds_altered service change history packet labels = finds_in service change (live_packets history) packet

-- The tables on the PID of the service's PMT are edited, and packets on other PIDs that go are dropped, or become null
-- packets. A run has a fault in which no complete table came there that the edit alters.
abbrev pub service_rule : ℕ → (List (List ℕ) → Change) → List (ℕ × ℕ) → Bool → PluginRule
service_rule service change dropped stuffing =
    record (silent_rule (λ history packet. action stuffing (made_of service change dropped (live_packets history) packet))) {
      has_fault = finds_none (finds_altered service change);
    }

-- the packet that is left in place of another, if a packet passes
abbrev pub left_by : Bool → List ℕ → Option (List ℕ)
left_by passes packet = if passes then Some packet else None
