-- The results of an open. This project's own rule.
use Rattle.std.specs.Prelude.{ℕ, List, codes, Result, Ok, Err}
use Rattle.ts_outside.specs.declared.faults.OpenFault.{OpenFault}
use Rattle.ts_outside.specs.declared.faults.OpenFault.TheVariants.{Failed, NoMemory}

-- a fact for each result: opened, failed, and out of memory
abbrev pub MatchOpen : {T : Type 0} → Result T OpenFault → (T → Type 0) → Type 0 → Type 0 → Type 0
MatchOpen (Ok x) P Q R = P x
MatchOpen (Err Failed) P Q R = Q
MatchOpen (Err NoMemory) P Q R = R

-- the text that is printed for a fault of an open
abbrev pub open_fault_text : OpenFault → List ℕ
open_fault_text Failed = codes "cannot open"
open_fault_text NoMemory = codes "out of memory"
