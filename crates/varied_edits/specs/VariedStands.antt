-- When editors whose edits may change stand for the packets that were met.
-- This project's own rule.
use Rattle.std.specs.Prelude.{◌≡◌, ℕ, Bool, List, [], Option, None, Some, nat_eq}
use Rattle.indexmap.specs.IndexMap.{get}
use Rattle.ts_demux.specs.PidTables as demuxing
use Rattle.ts_demux.specs.TakenWhere.{taken_on}
use Rattle.plug_psi.specs.CycleStands.{InCyclesBy, edit_of}
use Rattle.plug_psi.specs.EditedCycles.{EditsInUse}
use Rattle.plug_psi.specs.Edits.{Change}
use Rattle.plug_psi.specs.InUse.{EditAsMet, edits_on}
use Rattle.varied_edits.specs.declared.varied_on.VariedOn.{VariedOn}
use Rattle.varied_edits.specs.declared.varied_pids.VariedPids.{VariedPids}

-- the edit that is in use
abbrev pub edit_on : {E S : Type 0} → VariedOn E S → E
edit_on it = edit_of it.editor

-- It took these packets of a PID, and these edits were in use at them. The edit that is in use makes this of tables.
pub record VariesOn {E S : Type 0} (own : List (List ℕ) → Change) (it : VariedOn E S) (pid : ℕ) (edits : EditsInUse) (taken : List (List ℕ)) : Type 0 where
  pub tables_read : demuxing.StandsFor it.tables pid taken
  pub edited : InCyclesBy edits own it.editor pid taken

-- without an entry no packet was taken
abbrev pub EntryVaries : {E S : Type 0} → (E → List (List ℕ) → Change) → Option (VariedOn E S) → ℕ → EditsInUse → List (List ℕ) → Type 0
EntryVaries change None pid edits taken = taken ≡ []
EntryVaries change (Some it) pid edits taken = VariesOn (change (edit_on it)) it pid edits taken

-- the editor of each PID took exactly the packets at whose positions the PID was followed, by the edits that were told there
abbrev pub AllVary : {E S : Type 0} → (E → List (List ℕ) → Change) → VariedPids E S → (ℕ → List (List ℕ) → Bool) → EditAsMet → List (List ℕ) → Type 0
AllVary change pids follows wanted met =
    (pid : ℕ) → EntryVaries change (get nat_eq pids.entries pid) pid (edits_on follows pid wanted met) (taken_on follows pid met)
