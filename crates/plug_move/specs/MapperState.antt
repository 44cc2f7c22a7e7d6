-- When what `remap` keeps for its tables stands for the packets that it processed. This project's own rule.
use Rattle.std.specs.Prelude.{◌≡◌, ℕ, Bool, false, List}
use Rattle.std.specs.Arc.{arc_value}
use Rattle.ts_demux.specs.PidTables as reading
use Rattle.ts_demux.specs.TablesOn.{packets_on}
use Rattle.ts_demux.specs.declared.pid_tables.PidTables.{PidTables}
use Rattle.plug_psi.specs.ByPid.{AllStand}
use Rattle.plug_psi.specs.CycleStands.{InSeededCycles, edit_of}
use Rattle.plug_psi.specs.ForceStands as forcing
use Rattle.plug_psi.specs.ReadingState.{GivenStands}
use Rattle.plug_psi.specs.declared.by_pid.ByPid.{ByPid}
use Rattle.plug_psi.specs.declared.cycle_editor.CycleEditor.{CycleEditor}
use Rattle.plug_psi.specs.declared.given.Given.{Given}
use Rattle.plug_psi.specs.declared.in_force.InForce.{InForce}
use Rattle.plug_move.specs.MappedTables.{change_on}
use Rattle.plug_move.specs.PidEdit.{edit_change}
use Rattle.plug_move.specs.RemapRule.{is_edited}
use Rattle.plug_move.specs.declared.pid_edit.PidsOnTables.{PidsOnTables}
use Rattle.plug_move.specs.declared.table_mapper.TableMapper.{TableMapper}

-- an editor maps PIDs by these pairs on a PID, and stands for the packets that it processed
abbrev pub EditsOn : List (ℕ × ℕ) → CycleEditor PidsOnTables → ℕ → List (List ℕ) → Type 0
EditsOn pairs editor pid taken = InSeededCycles (edit_change (edit_of editor)) (change_on pairs pid) editor pid taken

-- the parts stand for the packets that were processed
pub record Maps (pairs own : List (ℕ × ℕ)) (tables : InForce) (cats : PidTables) (editors : ByPid (Given (CycleEditor PidsOnTables))) (failed : Bool) (met : List (List ℕ)) : Type 0 where
  pub working : failed ≡ false
  pub same_pairs : own ≡ pairs
  pub in_force : forcing.StandsFor tables met
  pub cats_read : reading.StandsFor cats 1 (packets_on 1 met)
  pub edits : AllStand (GivenStands (EditsOn own)) editors is_edited met

-- what maps PIDs by these pairs stands for the packets that were processed
abbrev pub StandsFor : List (ℕ × ℕ) → TableMapper → List (List ℕ) → Type 0
StandsFor pairs mapper met = Maps pairs (arc_value mapper.table).0 mapper.force mapper.cats mapper.editors mapper.failed met

-- whether memory ran out
abbrev pub has_failed : TableMapper → Bool
has_failed mapper = mapper.failed
