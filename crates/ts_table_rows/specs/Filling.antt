-- Filling sections with things: each goes into the current section if it fits, else into a new one.
-- This project's own rule.
use Rattle.std.specs.Prelude.{ℕ, ◌+◌, ◌<◌, ◌≤◌, List, [], ◌∷◌, ◌++◌, nat_le, if◌then◌else◌}
use Rattle.std.specs.List.{flat_map}

-- the pieces that things of any kind are put into; `hand` is the current piece, which takes `used` of the room
unfoldable pub pieces : {A : Type 0} → (A → ℕ) → ℕ → ℕ → List A → List A → List (List A)
pieces size room used hand [] = hand ∷ []
pieces size room used hand (x ∷ xs) =
    if nat_le (used + size x) room then pieces size room (used + size x) (hand ++ x ∷ []) xs
    else hand ∷ pieces size room (size x) (x ∷ []) xs

-- the size of a piece
abbrev pub total : {A : Type 0} → (A → ℕ) → List A → ℕ
total size [] = 0
total size (x ∷ xs) = size x + total size xs

-- pieces joined
abbrev pub join : {A : Type 0} → List (List A) → List A
join ps = flat_map (λ p. p) ps

-- each thing alone fits the room
abbrev pub Each : {A : Type 0} → (A → ℕ) → ℕ → List A → Type 0
Each size room [] = Unit {0}
Each size room (x ∷ xs) = (size x ≤ room) × Each size room xs

-- each piece fits the room
abbrev pub AllFit : {A : Type 0} → (A → ℕ) → ℕ → List (List A) → Type 0
AllFit size room [] = Unit {0}
AllFit size room (p ∷ ps) = (total size p ≤ room) × AllFit size room ps

-- a piece has no room for the next thing
abbrev pub IsFull : {A : Type 0} → (A → ℕ) → ℕ → List A → List (List A) → Type 0
IsFull size room p [] = Unit {0}
IsFull size room p ([] ∷ ps) = ⊥
IsFull size room p ((x ∷ xs) ∷ ps) = room < total size p + size x

-- no piece but the last has room for the next thing
abbrev pub AreFull : {A : Type 0} → (A → ℕ) → ℕ → List (List A) → Type 0
AreFull size room [] = Unit {0}
AreFull size room (p ∷ ps) = IsFull size room p ps × AreFull size room ps
