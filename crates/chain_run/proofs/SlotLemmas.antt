-- The slots of the buffer: what is read from a row of them, and what a write to it leaves.
use Rattle.std.proofs.Common.{◌≡◌, ◌⊎◌, inl, inr, ℕ, zero, suc, ◌+◌, ◌-◌, ◌*◌, ◌/◌, ◌%◌, ◌<◌, ◌≤◌, List, [], ◌∷◌, ◌++◌, length, take, drop, refl, ap, sym, ◌∙◌, subst, arith, length-append, length-take, length-drop}
use Rattle.std.specs.Prelude.{slice_index_or}
use Rattle.std.proofs.lemmas.Bool.{cases_lt}
use Rattle.std.proofs.lemmas.List.{get_or_append_left, get_or-append_right, get_or-drop, get_or-take, take-append-drop}
use Rattle.std.proofs.Math.Seq.{drop-cons}
use Rattle.std.proofs.Math.Nat.{div-add-mod, mul-le-mul_left, mul-suc}
use Rattle.std.proofs.lemmas.Nat.{mod-mul-add}
use Rattle.ts_packet.specs.declared.cell.Cell.{Cell}
use Rattle.ts_packet.specs.Cells.{Dropped}
use Rattle.chain_run.specs.Slots.{slot, HoldsFrom}

-- ---- rows of cells

pub holds-append : (f : ℕ → Cell) (at : ℕ) (xs ys : List Cell) → HoldsFrom f at xs → HoldsFrom f (at + length xs) ys → HoldsFrom f at (xs ++ ys)
holds-append f at [] ys a b = subst (λ n. HoldsFrom f n ys) (omega arith) b
holds-append f at (x ∷ xs) ys a b =
    (a.0, holds-append f (suc at) xs ys a.1 (subst (λ n. HoldsFrom f n ys) (omega arith) b))

pub holds-left : (f : ℕ → Cell) (at : ℕ) (xs ys : List Cell) → HoldsFrom f at (xs ++ ys) → HoldsFrom f at xs
holds-left f at [] ys a = tt
holds-left f at (x ∷ xs) ys a = (a.0, holds-left f (suc at) xs ys a.1)

pub holds-right : (f : ℕ → Cell) (at : ℕ) (xs ys : List Cell) → HoldsFrom f at (xs ++ ys) → HoldsFrom f (at + length xs) ys
holds-right f at [] ys a = subst (λ n. HoldsFrom f n ys) (omega arith) a
holds-right f at (x ∷ xs) ys a =
    subst (λ n. HoldsFrom f n ys) (omega arith) (holds-right f (suc at) xs ys a.1)

-- the first of the cells, and those after them
pub holds-take : (f : ℕ → Cell) (at n : ℕ) (xs : List Cell) → HoldsFrom f at xs → HoldsFrom f at (take n xs)
holds-take f at n xs a =
    holds-left f at (take n xs) (drop n xs) (subst (HoldsFrom f at) (sym (take-append-drop n xs)) a)

pub holds-drop : (f : ℕ → Cell) (at n : ℕ) (xs : List Cell) → n ≤ length xs → HoldsFrom f at xs → HoldsFrom f (at + n) (drop n xs)
holds-drop f at n xs le a =
    subst (λ m. HoldsFrom f (at + m) (drop n xs)) (omega (arith, length-take n xs))
    (holds-right f at (take n xs) (drop n xs) (subst (HoldsFrom f at) (sym (take-append-drop n xs)) a))

-- other slots with the same cells at these positions
pub holds-same : (f g : ℕ → Cell) (at : ℕ) (xs : List Cell) → ((p : ℕ) → at ≤ p → p < at + length xs → g p ≡ f p) → HoldsFrom f at xs → HoldsFrom g at xs
holds-same f g at [] same a = tt
holds-same f g at (x ∷ xs) same a =
    (same at (omega arith) (omega arith) ∙ a.0, holds-same f g (suc at) xs (λ p le lt. same p (omega arith) (omega arith)) a.1)

-- ---- positions and slots

-- the slots after that of a position, as long as the row goes on
pub slot-shift : (at i slots : ℕ) → at % slots + i < slots → (at + i) % slots ≡ at % slots + i
slot-shift at i slots lt =
    let q : ℕ = at / slots in
    let parts : slots * q + at % slots ≡ at = div-add-mod at slots in
    let turned : q * slots ≡ slots * q = omega_mul q slots in
    let sum : at + i ≡ q * slots + (at % slots + i) = omega arith in
    ap (λ n. n % slots) sum ∙ mod-mul-add q slots (at % slots + i) lt
  where
    omega_mul : (a b : ℕ) → a * b ≡ b * a
    omega_mul a b = grind arith

-- two positions that are less than the number of slots apart have slots of their own
pub slot-apart : (p q slots : ℕ) → p < q → q < p + slots → p % slots ≡ q % slots → ⊥
slot-apart p q slots lt near same =
    let a : slots * (p / slots) + p % slots ≡ p = div-add-mod p slots in
    let b : slots * (q / slots) + q % slots ≡ q = div-add-mod q slots in
    elim (cases_lt (p / slots) (q / slots)) [
      | inl above ↦ (let far : slots * suc (p / slots) ≤ slots * (q / slots) = mul-le-mul_left slots (omega arith) in let more : slots * suc (p / slots) ≡ slots * (p / slots) + slots = mul-suc slots (p / slots) in omega arith)
      | inr below ↦ (let less : slots * (q / slots) ≤ slots * (p / slots) = mul-le-mul_left slots (omega arith) in omega arith)
    ]

-- ---- a row of slots

-- a list that is read from the slots at a place holds what the positions hold
pub row-reads : (slots : List Cell) (at n : ℕ) (xs : List Cell) → at % length slots + n ≤ length slots → n ≤ length xs → HoldsFrom (slot slots) at xs → take n (drop (at % length slots) slots) ≡ take n xs
row-reads slots at zero xs row le holds = refl
row-reads slots at (suc n) [] row le holds = absurd (omega arith)
row-reads slots at (suc n) (x ∷ xs) row le holds =
    let s : ℕ = at % length slots in
    let here : drop s slots ≡ slice_index_or slots s Dropped ∷ drop (suc s) slots = drop-cons slots s Dropped (omega arith) in
    let first : slice_index_or slots s Dropped ≡ x = holds.0 in
    ap (take (suc n)) here
    ∙ (ap (λ (c : Cell). c ∷ take n (drop (suc s) slots)) first
    ∙ ap (λ (l : List Cell). x ∷ l) (rest n row le (λ m row' le'. row-reads slots (suc at) m xs row' le' holds.1)))
  where
    rest : (m : ℕ) → at % length slots + suc m ≤ length slots → suc m ≤ length (x ∷ xs)
        → ((m : ℕ) → (suc at) % length slots + m ≤ length slots → m ≤ length xs → take m (drop ((suc at) % length slots) slots) ≡ take m xs)
        → take m (drop (suc (at % length slots)) slots) ≡ take m xs
    rest zero row' le' more = refl
    rest (suc m) row' le' more =
        let next : (suc at) % length slots ≡ suc (at % length slots) =
        ap (λ i. i % length slots) (omega arith) ∙ (slot-shift at 1 (length slots) (omega arith) ∙ omega arith) in
        ap (λ i. take (suc m) (drop i slots)) (sym next)
        ∙ more (suc m) (omega arith) (omega arith)

-- the slots with a row written over them
abbrev pub over_row : List Cell → ℕ → List Cell → List Cell
over_row slots start row = take start slots ++ (row ++ drop (start + length row) slots)

pub length-over_row : (slots : List Cell) (start : ℕ) (row : List Cell) → start + length row ≤ length slots → length (over_row slots start row) ≡ length slots
length-over_row slots start row le =
    omega (arith, length-append (take start slots) (row ++ drop (start + length row) slots), length-append row (drop (start + length row) slots), length-take start slots, length-drop (start + length row) slots)

module _ (slots : List Cell) (start : ℕ) (row : List Cell) (le : start + length row ≤ length slots) where
  size : length (take start slots) ≡ start
  size = omega (arith, length-take start slots)

  pub over_row-in : (i : ℕ) → i < length row → slice_index_or (over_row slots start row) (start + i) Dropped ≡ slice_index_or row i Dropped
  over_row-in i lt =
      get_or-append_right (take start slots) (row ++ drop (start + length row) slots) start (start + i) Dropped size (omega arith)
      ∙ (ap (λ n. slice_index_or (row ++ drop (start + length row) slots) n Dropped) (omega arith)
      ∙ get_or_append_left row (drop (start + length row) slots) Dropped i lt)

  pub over_row-before : (i : ℕ) → i < start → slice_index_or (over_row slots start row) i Dropped ≡ slice_index_or slots i Dropped
  over_row-before i lt =
      get_or_append_left (take start slots) (row ++ drop (start + length row) slots) Dropped i (let long = size in omega arith)
      ∙ get_or-take start slots i Dropped lt

  pub over_row-behind : (i : ℕ) → start + length row ≤ i → slice_index_or (over_row slots start row) i Dropped ≡ slice_index_or slots i Dropped
  over_row-behind i far =
      get_or-append_right (take start slots) (row ++ drop (start + length row) slots) start i Dropped size (omega arith)
      ∙ (get_or-append_right row (drop (start + length row) slots) (length row) (i - start) Dropped refl (omega arith)
      ∙ (get_or-drop (start + length row) slots (i - start - length row) Dropped
      ∙ ap (λ n. slice_index_or slots n Dropped) (omega arith)))

-- a row that is written holds at its positions
pub row-written : (slots : List Cell) (at : ℕ) (row : List Cell) → at % length slots + length row ≤ length slots → HoldsFrom (slot (over_row slots (at % length slots) row)) at row
row-written slots at row le =
    subst (λ n. HoldsFrom (slot (over_row slots (at % length slots) row)) n row) (omega arith)
    (all row 0 (omega arith) (λ i lt. ap (λ n. slice_index_or row n Dropped) (omega arith)))
  where
    long : length (over_row slots (at % length slots) row) ≡ length slots
    long = length-over_row slots (at % length slots) row le

    here : (i : ℕ) → i < length row → slot (over_row slots (at % length slots) row) (at + i) ≡ slice_index_or row i Dropped
    here i lt =
        ap (λ n. slice_index_or (over_row slots (at % length slots) row) ((at + i) % n) Dropped) long
        ∙ (ap (λ n. slice_index_or (over_row slots (at % length slots) row) n Dropped) (slot-shift at i (length slots) (omega arith))
        ∙ over_row-in slots (at % length slots) row le i lt)

    all : (xs : List Cell) (i : ℕ) → i + length xs ≤ length row → ((j : ℕ) → j < length xs → slice_index_or row (i + j) Dropped ≡ slice_index_or xs j Dropped) → HoldsFrom (slot (over_row slots (at % length slots) row)) (at + i) xs
    all [] i le' same = tt
    all (x ∷ xs) i le' same = (
      here i (omega arith) ∙ (ap (λ n. slice_index_or row n Dropped) (omega arith) ∙ same 0 (omega arith)),
      subst (λ n. HoldsFrom (slot (over_row slots (at % length slots) row)) n xs) (omega arith)
          (all xs (suc i) (omega arith) (λ j lt. ap (λ n. slice_index_or row n Dropped) (omega arith) ∙ same (suc j) (omega arith))),
    )

-- and the cells at other positions stay, of those that are less than the number of slots apart
pub row-other : (slots : List Cell) (at : ℕ) (row : List Cell) (low p : ℕ) → at % length slots + length row ≤ length slots → low ≤ at → at + length row ≤ low + length slots → low ≤ p → p < low + length slots → (p < at) ⊎ (at + length row ≤ p) → slot (over_row slots (at % length slots) row) p ≡ slot slots p
row-other slots at row low p le above within above' within' outside =
    ap (λ n. slice_index_or (over_row slots (at % length slots) row) (p % n) Dropped) (length-over_row slots (at % length slots) row le)
    ∙ elim (cases_lt (p % length slots) (at % length slots)) [
      | inl before ↦ over_row-before slots (at % length slots) row le (p % length slots) before
      | inr from ↦ elim (cases_lt (p % length slots) (at % length slots + length row)) [
        | inl inside ↦ absurd (clash (p % length slots - at % length slots) (omega arith) (omega arith))
        | inr behind ↦ over_row-behind slots (at % length slots) row le (p % length slots) (omega arith)
      ]
    ]
  where
    clash : (i : ℕ) → i < length row → p % length slots ≡ at % length slots + i → ⊥
    clash i lt is =
        let same : (at + i) % length slots ≡ p % length slots = slot-shift at i (length slots) (omega arith) ∙ sym is in
        elim outside [
          | inl less ↦ slot-apart p (at + i) (length slots) (omega arith) (omega arith) (sym same)
          | inr more ↦ slot-apart (at + i) p (length slots) (omega arith) (omega arith) same
        ]
