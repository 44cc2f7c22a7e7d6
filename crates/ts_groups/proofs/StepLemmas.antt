-- Reading that continued, and tests.
use Rattle.std.proofs.Common.{◌≡◌, Bool, true, false, List, [], ◌∷◌, ◌++◌, refl}
use Rattle.std.specs.Prelude.{◌&&◌, ◌||◌, not, Option, Some, None}
use Rattle.std.specs.List.{list_all}
use Rattle.ts_fields.specs.Reading.{◌>>=◌}

-- both halves of a test
pub both : (a b : Bool) → (a && b) ≡ true → (a ≡ true) × (b ≡ true)
both true b is = (refl, is)
both false b is = cc

pub neither : (a b : Bool) → (a || b) ≡ false → (a ≡ false) × (b ≡ false)
neither true b is = cc
neither false b is = (refl, is)

pub not_true : (b : Bool) → not b ≡ true → b ≡ false
not_true true is = cc
not_true false is = refl

-- where reading continued, each of its steps did
pub then_some : {A B P : Type 0} (r : Option A) (next : A → Option B) (y : B) → (r >>= next) ≡ Some y
    → ((x : A) → r ≡ Some x → next x ≡ Some y → P) → P
then_some (Some x) next y is goal = goal x refl is
then_some None next y is goal = cc

pub all_both : {A : Type 0} (test : A → Bool) (a b : List A) → list_all test a ≡ true → list_all test b ≡ true
    → list_all test (a ++ b) ≡ true
all_both test [] b first second = second
all_both test (x ∷ xs) b first second =
    let parts = both (test x) (list_all test xs) first in
    rw (parts.0, all_both test xs b parts.1 second) refl
