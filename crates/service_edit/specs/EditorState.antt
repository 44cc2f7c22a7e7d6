-- When the editor of a PID stands for the packets that were taken, and what it gives for the next one.
-- This project's own rule.
use Rattle.std.specs.Prelude.{◌≡◌, ℕ, Bool, List, [], ◌∷◌, ◌++◌}
use Rattle.ts_demux.specs.PidTables as reading
use Rattle.ts_demux.specs.TablesOn.{tables_on}
use Rattle.ts_demux.specs.declared.pid_tables.PidTables.{PidTables}
use Rattle.plug_psi.specs.AlteredTables.{alters_one}
use Rattle.plug_psi.specs.CycleStands.{InCycles}
use Rattle.plug_psi.specs.EditedCycles.{replaced}
use Rattle.plug_psi.specs.Edits.{Change}
use Rattle.plug_psi.specs.declared.cycle_editor.CycleEditor.{CycleEditor}
use Rattle.service_edit.specs.declared.edited_packet.EditedPacket.{EditedPacket}

-- its own edit makes the change asked for, and what reads the tables and what edits them stand for the same packets; it is
-- known whether these completed a table that the edit alters
pub record EditsFor {E : Type 0} (own wanted : List (List ℕ) → Change) (tables : PidTables) (cycles : CycleEditor E) (altered : Bool) (pid : ℕ) (taken : List (List ℕ)) : Type 0 where
  pub same_change : own ≡ wanted
  pub tables_read : reading.StandsFor tables pid taken
  pub edited : InCycles wanted cycles pid taken
  pub told : altered ≡ alters_one wanted (tables_on pid taken)

-- the packet is that of the cycle of the edited contents, and it is told whether a table came that the edit alters
pub record TellsEdited (wanted : List (List ℕ) → Change) (pid : ℕ) (taken : List (List ℕ)) (packet : List ℕ) (told : EditedPacket) : Type 0 where
  pub made : told.packet ≡ replaced pid wanted taken packet
  pub altered : told.altered ≡ alters_one wanted (tables_on pid (taken ++ packet ∷ []))
