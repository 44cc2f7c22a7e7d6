-- Reading that continued, and tests.
use Rattle.std.proofs.Common.{◌≡◌, Bool, true, false, List, [], ◌∷◌, ◌++◌, refl}
use Rattle.std.specs.Prelude.{◌&&◌, ◌||◌, not, Option, Some, None}
use Rattle.std.specs.List.{list_all}
use Rattle.ts_fields.specs.Reading.{◌>>=◌}

-- both halves of a test
pub both : (a b : Bool) → (a && b) ≡ true → (a ≡ true) × (b ≡ true)
both true b is = (refl, is)
both false b is = cc

pub neither : (a b : Bool) → (a || b) ≡ false → (a ≡ false) × (b ≡ false)
neither true b is = cc
neither false b is = (refl, is)

pub not_true : (b : Bool) → not b ≡ true → b ≡ false
not_true true is = cc
not_true false is = refl

-- what each of two rows passes, those of the second do
pub all_second : {A : Type 0} (test : A → Bool) (a b : List A) → list_all test (a ++ b) ≡ true → list_all test b ≡ true
all_second test [] b is = is
all_second test (x ∷ xs) b is = all_second test xs b (both (test x) (list_all test (xs ++ b)) is).1

-- where reading continued, each of its steps did
pub then_some : {A B P : Type 0} (r : Option A) (next : A → Option B) (y : B) → (r >>= next) ≡ Some y
    → ((x : A) → r ≡ Some x → next x ≡ Some y → P) → P
then_some (Some x) next y is goal = goal x refl is
then_some None next y is goal = cc
