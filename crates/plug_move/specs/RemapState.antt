-- What a value of `remap` stands for. This project's own rule.
use Rattle.std.specs.Prelude.{◌≡◌, ℕ, true, false, List, [], ◌∷◌, ◌++◌, Option, None, Some, is_none, if◌then◌else◌}
use Rattle.ts_packet.specs.declared.cell.Cell.{Cell}
use Rattle.ts_packet.specs.Cells.{live_packets}
use Rattle.ts_packet.specs.Header.{pid_of}
use Rattle.plugin_trait.specs.declared.outcome.Outcome.{Outcome}
use Rattle.plugin_trait.specs.declared.outcome.Outcome.TheVariants.{Pass, NoMemory}
use Rattle.plug_move.specs.MapperState.{StandsFor, has_failed}
use Rattle.plugin_trait.specs.Finding.{IsFirstFind}
use Rattle.plug_move.specs.RemapRule.{moved_to, moves, with_tables}
use Rattle.plug_move.specs.Targets.{target_of}
use Rattle.plug_move.specs.declared.remap_conf.RemapConf.{RemapConf}
use Rattle.plug_move.specs.declared.remap.RemapSteps.{RemapSteps}
use Rattle.plug_move.specs.declared.table_mapper.TableMapper.{TableMapper}

-- the settings of the plugin
abbrev pub conf_of : RemapSteps → RemapConf
conf_of s = record { operand = s.table.0; no_psi = is_none s.tables; unchecked = s.table.1 }

-- what edits tables, if anything does, stands for the packets that were processed, unless memory ran out
abbrev pub MapperStands : List (ℕ × ℕ) → Option TableMapper → List (List ℕ) → Type 0
MapperStands pairs None met = Unit {0}
MapperStands pairs (Some mapper) met = has_failed mapper ≡ false → StandsFor pairs mapper met

-- the same for the cells that were processed
abbrev pub TablesStand : List (ℕ × ℕ) → Option TableMapper → List Cell → Type 0
TablesStand pairs tables history = MapperStands pairs tables (live_packets history)

-- and for a value of the steps, which keeps the first position at which a packet was moved
abbrev pub MeetsHistory : RemapSteps → List Cell → Type 0
MeetsHistory s history = TablesStand s.table.0 s.tables history × IsFirstFind (moves s.table.0) history s.found

-- what edits tables, if anything does, stands for the packets that were processed, and memory did not run out
abbrev pub IsWorking : List (ℕ × ℕ) → Option TableMapper → List (List ℕ) → Type 0
IsWorking pairs None met = Unit {0}
IsWorking pairs (Some mapper) met = StandsFor pairs mapper met

-- memory ran out
abbrev pub HasFailed : Option TableMapper → Type 0
HasFailed None = ⊥
HasFailed (Some mapper) = has_failed mapper ≡ true

-- room for so many positions was allocated before the run, if no tables are edited
abbrev pub room_of : Option TableMapper → ℕ → Option ℕ
room_of None buffer = Some buffer
room_of (Some mapper) buffer = None

-- either a packet with this target or none was edited and moved, and what edits tables, if anything does, has processed
-- it; or memory ran out, now or before, and the packet is as it was
abbrev pub GoesOn : Option TableMapper → Option TableMapper → Option ℕ → List ℕ → List ℕ → Outcome → Type 0
GoesOn old new target packet made Pass =
    (pairs : List (ℕ × ℕ)) (met : List (List ℕ)) → MapperStands pairs old met
    → (target ≡ target_of pairs (pid_of packet)
    → made ≡ (if is_none old then moved_to target packet else with_tables pairs met packet))
    × MapperStands pairs new (met ++ packet ∷ [])
GoesOn old new target packet made NoMemory = (made ≡ packet) × HasFailed new × (is_none old ≡ false)
GoesOn old new target packet made _ = ⊥
