-- Lists that are filtered, and what is seen of their things.
use Rattle.std.proofs.Common.{◌≡◌, Bool, true, false, List, [], ◌∷◌, map, filter, refl, ap}
use Rattle.std.specs.Prelude.{if◌then◌else◌}

pub chosen : {A B : Type 0} (view : A → B) (a b : Bool) (x y : List A) (x' y' : List B) → a ≡ b → map view x ≡ x' → map view y ≡ y' → map view (if a then x else y) ≡ (if b then x' else y')
chosen view true true x y x' y' e f g = f
chosen view false false x y x' y' e f g = g
chosen view true false x y x' y' e f g = cc
chosen view false true x y x' y' e f g = cc

-- what is seen of the things that pass
pub kept_view :
    {A B : Type 0} (view : A → B) (test : A → Bool) (test' : B → Bool) → ((x : A) → test x ≡ test' (view x)) → (xs : List A) →
    map view (filter test xs) ≡ filter test' (map view xs)
kept_view view test test' same [] = refl
kept_view view test test' same (x ∷ xs) =
    chosen view (test x) (test' (view x)) (x ∷ filter test xs) (filter test xs)
    (view x ∷ filter test' (map view xs)) (filter test' (map view xs))
    (same x) (ap (λ l. view x ∷ l) (kept_view view test test' same xs)) (kept_view view test test' same xs)
