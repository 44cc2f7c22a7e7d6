-- The result of reading: a value, or the first fault.
-- This project's own rule: a fault is the path to its element, a key of it, and what is wrong with it.
use Rattle.std.specs.Prelude.{◌≡◌, ℕ, List, [], ◌∷◌, Option, Some, None, Result, Ok, Err}
use Rattle.ts_jtree.specs.declared.fault.JsonKind.{JsonKind}
use Rattle.ts_jtree.specs.declared.fault.JsonFault.{JsonFault}
use Rattle.ts_jtree.specs.declared.fault.ReadRefusal.{ReadRefusal}
use Rattle.ts_jtree.specs.declared.fault.ReadRefusal.TheVariants.{Json, NoMemory}

-- what was read, or the first fault
abbrev pub Reading : Type 0 → Type 0
Reading A = Result A JsonFault

-- reading continues with what was read, and stops at a fault
infixl 10 ◌>>=◌
abbrev pub ◌>>=◌ : {A B : Type 0} → Reading A → (A → Reading B) → Reading B
(Ok x) >>= next = next x
(Err fault) >>= next = Err fault

-- a key of the value itself is at fault
abbrev pub fault_of : List ℕ → JsonKind → JsonFault
fault_of called what = record { path = []; key = called; kind = what }

-- reading stops at a key of the value itself
abbrev pub refuse : {A : Type 0} → List ℕ → JsonKind → Reading A
refuse called what = Err (fault_of called what)

-- what is there, or a fault
abbrev pub or_refuse : {A : Type 0} → Option A → List ℕ → JsonKind → Reading A
or_refuse (Some x) called what = Ok x
or_refuse None called what = refuse called what

-- the fault of a child as a fault of its parent, with the child's number
abbrev pub fault_at : ℕ → JsonFault → JsonFault
fault_at place fault = record { path = place ∷ fault.path; key = fault.key; kind = fault.kind }

-- the result of reading a child, with the child's number in a fault
abbrev pub at_child : {A : Type 0} → ℕ → Reading A → Reading A
at_child place (Ok x) = Ok x
at_child place (Err fault) = Err (fault_at place fault)

-- a call's refusal is this fault; out of memory says nothing about what was read
abbrev pub Tells : ReadRefusal → JsonFault → Type 0
Tells (Json told) fault = told ≡ fault
Tells NoMemory fault = Unit {0}

-- a call refused a key of the value itself
abbrev pub IsRefusal : ReadRefusal → List ℕ → JsonKind → Type 0
IsRefusal refusal called what = Tells refusal (fault_of called what)

-- a call's refusal with the number of a child before its path; out of memory stays as it is
abbrev pub IsAtChild : ReadRefusal → ℕ → ReadRefusal → Type 0
IsAtChild (Json fault) place refusal = Tells refusal (fault_at place fault)
IsAtChild NoMemory place refusal = refusal ≡ NoMemory

-- a call refused what reading refuses; out of memory says nothing
abbrev pub Stops : {A : Type 0} → ReadRefusal → Reading A → Type 0
Stops (Json fault) read = read ≡ Err fault
Stops NoMemory read = Unit {0}

-- the result of a call is what reading gives; out of memory says nothing
abbrev pub Answers : {X A : Type 0} → (X → A) → Result X ReadRefusal → Reading A → Type 0
Answers view (Ok x) read = read ≡ Ok (view x)
Answers view (Err refusal) read = Stops refusal read
