-- The rule of `remap`. This project's own rule, over the PID of ISO/IEC 13818-1, 2.4.3.2, and over the PIDs that PAT,
-- CAT and PMT name (2.4.4).
use Rattle.std.specs.Prelude.{ℕ, List, [], ◌∷◌, ◌++◌, Bool, not, Option, None, Some, is_some, nat_eq, ◌==◌, ◌&&◌, ◌||◌, if◌then◌else◌}
use Rattle.ts_packet.specs.declared.cell.Cell.{Cell}
use Rattle.ts_packet.specs.Cells.{live_packets}
use Rattle.ts_packet.specs.Header.{pid_of, with_pid}
use Rattle.ts_packet.specs.declared.numbers.TheConstants.{NULL_PID}
use Rattle.ts_demux.specs.TakenWhere.{taken_on}
use Rattle.chain_model.specs.declared.reason.Reason.TheVariants.{Pid}
use Rattle.chain_model.specs.PluginRule.{PluginRule, RuleOutcome, passes, refuses}
use Rattle.plugin_trait.specs.Finding.{finds_none}
use Rattle.plugin_trait.specs.SilentRule.{silent_rule}
use Rattle.plug_psi.specs.EditedCycles.{replaced}
use Rattle.plug_psi.specs.InForce.{follows}
use Rattle.plug_move.specs.MappedTables.{change_on}
use Rattle.plug_move.specs.RemapSettings.{is_target}
use Rattle.plug_move.specs.Targets.{target_of}
use Rattle.plug_move.specs.declared.remap_conf.RemapConf.{RemapConf}

-- packets that come in on the PID are refused: targets are checked, the PID is one, and it is not a source
abbrev pub is_refused : RemapConf → ℕ → Bool
is_refused conf pid =
    not conf.unchecked && (is_target pid conf.operand && not (is_some (target_of conf.operand pid)))

-- a packet with the target as its PID, if there is one; this field is set and nothing else (`with_pid-sets` of
-- `ts_packet`)
abbrev pub moved_to : Option ℕ → List ℕ → List ℕ
moved_to None packet = packet
moved_to (Some target) packet = with_pid packet target

-- the PIDs of the PAT and of the CAT, whose tables are always edited
abbrev pub is_fixed : ℕ → Bool
is_fixed pid = nat_eq pid 0 || nat_eq pid 1

-- Whether the tables on a PID are edited at the last of some packets of any PID: they are if the PID is fixed, or if a
-- service of the PAT in force there has it, but never on the PID of null packets. The packets on the PID for which this
-- holds are those that its editor takes.
abbrev pub is_edited : ℕ → List (List ℕ) → Bool
is_edited pid packets = is_fixed pid || follows pid packets

-- what the editor of the PID of a packet puts in its place, after these packets
abbrev pub edited : List (ℕ × ℕ) → List (List ℕ) → List ℕ → List ℕ
edited pairs packets packet =
    replaced (pid_of packet) (change_on pairs (pid_of packet)) (taken_on is_edited (pid_of packet) packets) packet

-- a packet that was put in, moved; a null packet that was put in is not moved
abbrev pub moved_edited : Option ℕ → List ℕ → List ℕ
moved_edited target packet = if pid_of packet == NULL_PID then packet else moved_to target packet

-- a packet edited and moved, after these packets; the PAT in force is that of its own position
abbrev pub with_tables : List (ℕ × ℕ) → List (List ℕ) → List ℕ → List ℕ
with_tables pairs packets packet =
    if is_edited (pid_of packet) (packets ++ packet ∷ [])
    then moved_edited (target_of pairs (pid_of packet)) (edited pairs packets packet)
    else moved_to (target_of pairs (pid_of packet)) packet

-- a packet that is not refused, edited and moved
abbrev pub mapped_packet : RemapConf → List (List ℕ) → List ℕ → List ℕ
mapped_packet conf packets packet =
    if conf.no_psi then moved_to (target_of conf.operand (pid_of packet)) packet
    else with_tables conf.operand packets packet

-- what becomes of a packet, after these cells; whether it is refused depends on the PID with which it comes in, and is
-- decided before anything else
abbrev pub remapped : RemapConf → List Cell → List ℕ → RuleOutcome
remapped conf history packet =
    if is_refused conf (pid_of packet) then refuses (Pid (pid_of packet))
    else passes (mapped_packet conf (live_packets history) packet)

-- a packet comes in on a PID that is moved
abbrev pub moves : List (ℕ × ℕ) → List Cell → List ℕ → ℕ → Bool
moves pairs history packet labels = is_some (target_of pairs (pid_of packet))

-- every packet passes, edited and moved, or is refused. A run in which none comes in on a PID that is moved has a fault
abbrev pub remap_rule : RemapConf → PluginRule
remap_rule conf = record (silent_rule (remapped conf)) { has_fault = finds_none (moves conf.operand) }
