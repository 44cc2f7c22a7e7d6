-- Reading that continues and that stops.
use Rattle.std.proofs.Common.{◌≡◌, ℕ, List, [], ◌∷◌, refl, sym, ap}
use Rattle.std.specs.Prelude.{Some, None, Ok, Err, slice_get}
use Rattle.serde_json.specs.declared.value.Value.{Value}
use Rattle.serde_json.specs.View.{items_view, view}
use Rattle.ts_jtree.specs.declared.fault.JsonKind.{JsonKind}
use Rattle.ts_jtree.specs.declared.fault.ReadRefusal.{ReadRefusal}
use Rattle.ts_jtree.specs.declared.fault.ReadRefusal.TheVariants.{Json, NoMemory}
use Rattle.ts_jtree.specs.Elements.{no_children, read_stranger}
use Rattle.ts_jtree.specs.Faults.{Reading, refuse, at_child, IsAtChild, IsRefusal, Stops, ◌>>=◌}

-- a refusal of a key is what reading refuses
pub refusal_stops : (A : Type 0) (refusal : ReadRefusal) (key : List ℕ) (kind : JsonKind)
    → IsRefusal refusal key kind → Stops {A = A} refusal (refuse key kind)
refusal_stops A (Json fault) key kind is = ap Err (sym is)
refusal_stops A NoMemory key kind is = tt

-- a child's refusal is its parent's with the child's number
pub child_stops : {A : Type 0} (refusal told : ReadRefusal) (place : ℕ) (read : Reading A)
    → Stops refusal read → IsAtChild refusal place told → Stops told (at_child place read)
child_stops (Json fault) (Json other) place read is at = rw is (ap Err (sym at))
child_stops (Json fault) NoMemory place read is at = tt
child_stops NoMemory told place read is at = rw at tt

-- where reading continued, each of its steps did
pub then_ok : {A B P : Type 0} (read : Reading A) (next : A → Reading B) (y : B) → (read >>= next) ≡ Ok y
    → ((x : A) → read ≡ Ok x → next x ≡ Ok y → P) → P
then_ok (Ok x) next y is goal = goal x refl is
then_ok (Err fault) next y is goal = cc

pub same_ok : {A : Type 0} (x y : A) → ◌≡◌ {A = Reading A} (Ok x) (Ok y) → x ≡ y
same_ok x y is = cc

-- no children, and the first of some
pub none_there : (vs : List Value) → slice_get vs 0 ≡ None → no_children (items_view vs) ≡ Ok []
unfolding no_children
none_there [] none = refl
none_there (v ∷ vs) none = cc

pub one_there : (vs : List Value) (v : Value) (refusal told : ReadRefusal) → slice_get vs 0 ≡ Some v
    → Stops refusal (read_stranger (view v)) → IsAtChild refusal 0 told → Stops told (no_children (items_view vs))
unfolding no_children
one_there [] v refusal told is stops at = cc
one_there (w ∷ vs) v refusal told is stops at =
    let same : w ≡ v = cc in rw same (child_stops refusal told 0 (read_stranger (view v)) stops at)
