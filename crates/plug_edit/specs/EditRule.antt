-- The rule of an editor of the tables of one PID.
-- This project's own rule, over the cycles of edited contents: null packets, on PID 8191, are never taken.
use Rattle.std.specs.Prelude.{ℕ, ◌&&◌, Bool, List, [], ◌∷◌, ◌++◌, nat_eq, nat_lt, if◌then◌else◌}
use Rattle.ts_packet.specs.declared.cell.Cell.{Cell}
use Rattle.ts_packet.specs.declared.numbers.TheConstants.{NULL_PID}
use Rattle.ts_packet.specs.Cells.{live_packets}
use Rattle.ts_packet.specs.Header.{pid_of}
use Rattle.ts_demux.specs.TablesOn.{tables_on}
use Rattle.ts_demux.specs.TakenWhere.{taken_on}
use Rattle.chain_model.specs.PluginRule.{PluginRule, RuleOutcome, passes}
use Rattle.plugin_trait.specs.Finding.{finds_none}
use Rattle.plugin_trait.specs.SilentRule.{silent_rule}
use Rattle.plug_psi.specs.AlteredTables.{alters_one}
use Rattle.plug_psi.specs.Edits.{Change}
use Rattle.plug_psi.specs.EditedCycles.{replaced}

-- a packet is taken by an editor of this PID
abbrev pub is_taken : ℕ → List ℕ → Bool
is_taken pid packet = nat_eq (pid_of packet) pid && nat_lt pid NULL_PID

-- whether an editor takes the packets on a PID, which depends only on the PID
abbrev pub takes : ℕ → List (List ℕ) → Bool
takes pid packets = nat_lt pid NULL_PID

-- the packets that the editor took, among the cells that it processed
abbrev pub taken_of : ℕ → List Cell → List (List ℕ)
taken_of pid history = taken_on takes pid (live_packets history)

-- a packet is taken with which, or before which, a table was complete that the edit alters
abbrev pub finds_altered : ℕ → (List (List ℕ) → Change) → List Cell → List ℕ → ℕ → Bool
finds_altered pid edit history packet labels =
    is_taken pid packet && alters_one edit (tables_on pid (taken_of pid history ++ packet ∷ []))

-- a taken packet is replaced by that of the cycle of the edited contents, and any other one passes
abbrev pub edited_on : ℕ → (List (List ℕ) → Change) → List Cell → List ℕ → RuleOutcome
edited_on pid edit history packet =
    passes (if is_taken pid packet then replaced pid edit (taken_of pid history) packet else packet)

-- Packets are edited on the PID. A run has a fault in which no complete table came that the edit alters.
abbrev pub edit_rule : ℕ → (List (List ℕ) → Change) → PluginRule
edit_rule pid edit =
    record (silent_rule (edited_on pid edit)) { has_fault = finds_none (finds_altered pid edit) }
