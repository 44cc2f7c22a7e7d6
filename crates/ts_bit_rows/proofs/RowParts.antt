-- The bits and fields of a part of a row, and of rows joined.
use Rattle.std.proofs.Common.{◌≡◌, ℕ, ◌+◌, ◌-◌, ◌*◌, ◌/◌, ◌%◌, ◌^◌, ◌<◌, ◌≤◌, List, ◌++◌, length, get_or, take, drop, refl, sym, ap, ◌∙◌, arith, add_assoc, zero-add}
use Rattle.std.proofs.Math.ListN.{get_or-append}
use Rattle.std.proofs.Math.Nat.{pow-le-pow_right}
use Rattle.std.proofs.lemmas.List.{get_or-drop, get_or-take, get_or-append-add}
use Rattle.ts_bit_rows.specs.BitRow.{bit_of, field}
use Rattle.ts_bit_rows.proofs.Fields.{field-moved, field-split, field-below, field-part, field-whole_byte}

-- a bit of a part of a row
pub bit_of-drop : (n : ℕ) (row : List ℕ) (i : ℕ) → bit_of (drop n row) i ≡ bit_of row (8 * n + i)
unfolding bit_of
bit_of-drop n row i =
    let same_byte : (8 * n + i) / 8 ≡ n + i / 8 = omega arith in
    let same_place : (8 * n + i) % 8 ≡ i % 8 = omega arith in
    rw (same_byte, same_place, get_or-drop n row (i / 8) 0) refl

pub bit_of-take : (n : ℕ) (row : List ℕ) (i : ℕ) → i < 8 * n → bit_of (take n row) i ≡ bit_of row i
unfolding bit_of
bit_of-take n row i inside =
    let early : i / 8 < n = omega arith in
    rw (get_or-take n row (i / 8) 0 early) refl

pub bit_of-append_left : (a b : List ℕ) (i : ℕ) → i < 8 * length a → bit_of (a ++ b) i ≡ bit_of a i
unfolding bit_of
bit_of-append_left a b i inside =
    let early : i / 8 < length a = omega arith in
    rw (get_or-append a b 0 (i / 8) early) refl

pub bit_of-append_right : (a b : List ℕ) (i : ℕ) → bit_of (a ++ b) (8 * length a + i) ≡ bit_of b i
unfolding bit_of
bit_of-append_right a b i =
    let same_byte : (8 * length a + i) / 8 ≡ length a + i / 8 = omega arith in
    let same_place : (8 * length a + i) % 8 ≡ i % 8 = omega arith in
    rw (same_byte, same_place, get_or-append-add a b (i / 8) 0) refl

-- a field of a part of a row
pub field-drop : (n : ℕ) (row : List ℕ) (at count : ℕ) → field (drop n row) at count ≡ field row (8 * n + at) count
field-drop n row at count =
    field-moved (drop n row) row at (8 * n + at) count (λ i h. bit_of-drop n row (at + i) ∙ ap (bit_of row) (sym (add_assoc (8 * n) at i)))

pub field-take : (n : ℕ) (row : List ℕ) (at count : ℕ) → at + count ≤ 8 * n → field (take n row) at count ≡ field row at count
field-take n row at count inside = field-moved (take n row) row at at count (λ i h. bit_of-take n row (at + i) (omega arith))

pub field-append_left : (a b : List ℕ) (at count : ℕ) → at + count ≤ 8 * length a → field (a ++ b) at count ≡ field a at count
field-append_left a b at count inside =
    field-moved (a ++ b) a at at count (λ i h. bit_of-append_left a b (at + i) (omega arith))

pub field-append_right : (a b : List ℕ) (at count : ℕ) → field (a ++ b) (8 * length a + at) count ≡ field b at count
field-append_right a b at count =
    field-moved (a ++ b) b (8 * length a + at) at count
    (λ i h. ap (bit_of (a ++ b)) (add_assoc (8 * length a) at i) ∙ bit_of-append_right a b (at + i))

-- one byte more
pub field-more_byte : (row : List ℕ) (index : ℕ) → get_or row index 0 < 256 → field row 0 (8 * (index + 1)) ≡ 256 * field row 0 (8 * index) + get_or row index 0
field-more_byte row index small =
    let eight_more : 8 * (index + 1) ≡ 8 * index + 8 = omega arith in
    rw (eight_more, field-split row 0 (8 * index) 8, zero-add, field-whole_byte row index small) (omega arith)

-- a few bytes give a small number
pub field-below_bytes : (row : List ℕ) (index most : ℕ) → index ≤ most → field row 0 (8 * index) < 2 ^ (8 * most)
field-below_bytes row index most few =
    let positive : 0 < 2 = omega arith in
    let fewer : 8 * index ≤ 8 * most = omega arith in
    let below : 2 ^ (8 * index) ≤ 2 ^ (8 * most) = pow-le-pow_right positive fewer in
    omega (arith, field-below row 0 (8 * index), below)

-- a part of a row read as one number, without the bits before and after it
pub field-in_bytes : (row : List ℕ) (at count size : ℕ) → at % 8 + count ≤ 8 * size → field (take size (drop (at / 8) row)) 0 (8 * size) / 2 ^ (8 * size - at % 8 - count) % 2 ^ count ≡ field row at count
field-in_bytes row at count size fits =
    let split : at % 8 + count + (8 * size - at % 8 - count) ≡ 8 * size = omega arith in
    let there : 8 * (at / 8) + at % 8 ≡ at = omega arith in
    let piece : List ℕ = take size (drop (at / 8) row) in
    ap (λ bits. field piece 0 bits / 2 ^ (8 * size - at % 8 - count) % 2 ^ count) (sym split)
    ∙ field-part piece 0 (at % 8) count (8 * size - at % 8 - count)
    ∙ rw zero-add (field-take size (drop (at / 8) row) (at % 8) count fits)
    ∙ field-drop (at / 8) row (at % 8) count
    ∙ ap (λ n. field row n count) there
