-- Greedy filling: the pieces join to the whole, each fits the room, and none but the last has room for the next
-- thing.
use Rattle.std.proofs.Common.{◌≡◌, ℕ, ◌+◌, ◌<◌, ◌≤◌, List, [], ◌∷◌, ◌++◌, refl, ap, ◌∙◌, arith, append_assoc}
use Rattle.std.specs.Prelude.{nat_le}
use Rattle.std.proofs.lemmas.Bool.{leb-true, leb-false, cond_both}
use Rattle.ts_table_rows.specs.Filling.{Each, pieces, total, join, AllFit, IsFull, AreFull}

-- one thing more
total_more : {A : Type 0} (size : A → ℕ) (hand : List A) (x : A) → total size (hand ++ x ∷ []) ≡ total size hand + size x
total_more size [] x = omega arith
total_more size (y ∷ hand) x = omega (arith, total_more size hand x)

-- the pieces join to the whole
pub pieces_join : {A : Type 0} (size : A → ℕ) (room used : ℕ) (hand xs : List A) → join (pieces size room used hand xs) ≡ hand ++ xs
unfolding pieces
pieces_join size room used hand [] = refl
pieces_join size room used hand (x ∷ xs) = cond_both (nat_le (used + size x) room) _ _ (λ ps. join ps ≡ hand ++ x ∷ xs)
    (λ small. pieces_join size room (used + size x) (hand ++ x ∷ []) xs ∙ append_assoc hand (x ∷ []) xs)
    (λ large. ap (λ l. hand ++ l) (pieces_join size room (size x) (x ∷ []) xs))

-- each fits the room
pub pieces_fit : {A : Type 0} (size : A → ℕ) (room used : ℕ) (hand xs : List A) → Each size room xs → used ≡ total size hand → used ≤ room → AllFit size room (pieces size room used hand xs)
unfolding pieces
pieces_fit size room used hand [] each is inside = (omega (arith, is), tt)
pieces_fit size room used hand (x ∷ xs) each is inside = cond_both (nat_le (used + size x) room) _ _ (AllFit size room)
    (λ small. pieces_fit size room (used + size x) (hand ++ x ∷ []) xs each.1 (omega (arith, is, total_more size hand x)) (leb-true (used + size x) room small))
    (λ large. (omega (arith, is), pieces_fit size room (size x) (x ∷ []) xs each.1 (omega arith) each.0))

-- the first piece begins with the current one
first_piece : {A : Type 0} (size : A → ℕ) (room used : ℕ) (hand xs : List A) (p : List A) (y : A) (ys : List A) → hand ≡ y ∷ ys → room < total size p + size y → IsFull size room p (pieces size room used hand xs)
unfolding pieces
first_piece size room used hand [] p y ys is full = rw is full
first_piece size room used hand (x ∷ xs) p y ys is full = cond_both (nat_le (used + size x) room) _ _ (IsFull size room p)
    (λ small. first_piece size room (used + size x) (hand ++ x ∷ []) xs p y (ys ++ x ∷ []) (ap (λ l. l ++ x ∷ []) is) full)
    (λ large. rw is full)

-- none but the last has room for the next thing
pub pieces_full : {A : Type 0} (size : A → ℕ) (room used : ℕ) (hand xs : List A) → used ≡ total size hand → AreFull size room (pieces size room used hand xs)
unfolding pieces
pieces_full size room used hand [] is = (tt, tt)
pieces_full size room used hand (x ∷ xs) is = cond_both (nat_le (used + size x) room) _ _ (AreFull size room)
    (λ small. pieces_full size room (used + size x) (hand ++ x ∷ []) xs (omega (arith, is, total_more size hand x)))
    (λ large.
    let over : room < used + size x = leb-false (used + size x) room large in
    (first_piece size room (size x) (x ∷ []) xs hand x [] refl (omega (arith, is)), pieces_full size room (size x) (x ∷ []) xs (omega arith)))
