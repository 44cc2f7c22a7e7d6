-- When an editor whose edit may change stands for the packets that were met.
-- This project's own rule.
use Rattle.std.specs.Prelude.{ℕ, List}
use Rattle.ts_demux.specs.PidTables as demuxing
use Rattle.ts_demux.specs.TablesOn.{packets_on}
use Rattle.plug_psi.specs.CycleStands as cycling
use Rattle.plug_psi.specs.CycleStands.{InCyclesBy}
use Rattle.plug_psi.specs.Edits.{Change}
use Rattle.plug_psi.specs.InUse.{EditAsMet, always, edits_on}
use Rattle.plug_psi.specs.declared.varied_editor.VariedEditor.{VariedEditor}

-- the edit that is in use
abbrev pub edit_in : {E : Type 0} → VariedEditor E → E
edit_in varied = cycling.edit_of varied.editor

-- It took the packets on a PID, of those of any PID that were met, and the edits in use at them were those that these tell.
-- The edit that is in use makes this of tables.
pub record Varies {E : Type 0} (own : List (List ℕ) → Change) (varied : VariedEditor E) (pid : ℕ) (wanted : EditAsMet) (met : List (List ℕ)) : Type 0 where
  pub tables_read : demuxing.StandsFor varied.tables pid (packets_on pid met)
  pub edited : InCyclesBy (edits_on always pid wanted met) own varied.editor pid (packets_on pid met)
