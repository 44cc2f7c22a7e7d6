-- When what follows PIDs stands for the packets that were processed.
-- This project's own rule.
use Rattle.std.specs.Prelude.{ℕ, List, Bool, nat_eq}
use Rattle.indexmap.specs.IndexMap.{get}
use Rattle.ts_demux.specs.TakenWhere.{taken_on}
use Rattle.plug_psi.specs.Entries.{EntryStands}
use Rattle.plug_psi.specs.declared.by_pid.ByPid.{ByPid}

-- the entry of each PID stands for exactly the packets that were taken on it
abbrev pub AllStand : {T : Type 0} → (T → ℕ → List (List ℕ) → Type 0) → ByPid T → (ℕ → List (List ℕ) → Bool) → List (List ℕ) → Type 0
AllStand stands by follows met = (pid : ℕ) → EntryStands stands (get nat_eq by.entries pid) pid (taken_on follows pid met)
