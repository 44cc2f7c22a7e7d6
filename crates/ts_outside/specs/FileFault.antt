-- The results of reading a whole file. This project's own rule.
use Rattle.std.specs.Prelude.{ℕ, List, codes, Result, Ok, Err}
use Rattle.ts_outside.specs.declared.faults.FileFault.{FileFault}
use Rattle.ts_outside.specs.declared.faults.FileFault.TheVariants.{Failed, TooMany, NoMemory}

-- a fact for each result: read, too many bytes, failed, and out of memory
abbrev pub MatchFile : {T : Type 0} → Result T FileFault → (T → Type 0) → Type 0 → Type 0 → Type 0 → Type 0
MatchFile (Ok x) P Q R S = P x
MatchFile (Err TooMany) P Q R S = Q
MatchFile (Err Failed) P Q R S = R
MatchFile (Err NoMemory) P Q R S = S

-- the text that is printed for a fault in reading a whole file
abbrev pub file_fault_text : FileFault → List ℕ
file_fault_text Failed = codes "cannot read"
file_fault_text TooMany = codes "too many bytes"
file_fault_text NoMemory = codes "out of memory"
