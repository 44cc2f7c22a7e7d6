-- One thing of a list changed, or else a new one added after the others, or none. This project's own rule.
use Rattle.std.specs.Prelude.{List, [], ◌∷◌, Bool, if◌then◌else◌}

-- the first that passes a test is changed in its place; if none does, a new one is added last
unfoldable pub changed_first : {A : Type 0} → (A → Bool) → (A → A) → A → List A → List A
changed_first test change fresh [] = fresh ∷ []
changed_first test change fresh (x ∷ xs) =
    if test x then change x ∷ xs else x ∷ changed_first test change fresh xs

-- the first that passes a test is changed in its place; if none does, all stay
unfoldable pub changed_one : {A : Type 0} → (A → Bool) → (A → A) → List A → List A
changed_one test change [] = []
changed_one test change (x ∷ xs) = if test x then change x ∷ xs else x ∷ changed_one test change xs
