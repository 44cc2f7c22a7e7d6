-- Reading that continued, and tests.
use Rattle.std.proofs.Common.{◌≡◌, ◌≤◌, ℕ, Bool, true, false, refl, sym, ap, arith}
use Rattle.std.specs.Prelude.{◌&&◌, not, nat_lt, Ok, Err, List}
use Rattle.std.proofs.lemmas.Bool.{ltb-true}
use Rattle.ts_jtree.specs.declared.fault.JsonKind.{JsonKind}
use Rattle.ts_jtree.specs.declared.fault.ReadRefusal.{ReadRefusal}
use Rattle.ts_jtree.specs.declared.fault.ReadRefusal.TheVariants.{Json, NoMemory}
use Rattle.ts_jtree.specs.Faults.{Reading, refuse, at_child, IsRefusal, Stops, ◌>>=◌}

-- both halves of a test
pub both : (a b : Bool) → (a && b) ≡ true → (a ≡ true) × (b ≡ true)
both true b is = (refl, is)
both false b is = cc

pub not_true : (b : Bool) → not b ≡ true → b ≡ false
not_true true is = cc
not_true false is = refl

-- where reading continued, each of its steps did
pub then_ok : {A B P : Type 0} (read : Reading A) (next : A → Reading B) (y : B) → (read >>= next) ≡ Ok y
    → ((x : A) → read ≡ Ok x → next x ≡ Ok y → P) → P
then_ok (Ok x) next y is goal = goal x refl is
then_ok (Err fault) next y is goal = cc

pub same_ok : {A : Type 0} (x y : A) → ◌≡◌ {A = Reading A} (Ok x) (Ok y) → x ≡ y
same_ok x y is = cc

pub child_ok : {A : Type 0} (place : ℕ) (read : Reading A) (x : A) → at_child place read ≡ Ok x → read ≡ Ok x
child_ok place (Ok y) x is = is
child_ok place (Err fault) x is = cc

-- a refusal of a key is what reading refuses
pub refusal_stops : (A : Type 0) (refusal : ReadRefusal) (key : List ℕ) (kind : JsonKind)
    → IsRefusal refusal key kind → Stops {A = A} refusal (refuse key kind)
refusal_stops A (Json fault) key kind is = ap Err (sym is)
refusal_stops A NoMemory key kind is = tt

pub not_more : (m n : ℕ) (b : Bool) → nat_lt m n ≡ b → n ≤ m → b ≡ false
not_more m n true is less = let e = ltb-true m n is in absurd (omega arith)
not_more m n false is less = refl
