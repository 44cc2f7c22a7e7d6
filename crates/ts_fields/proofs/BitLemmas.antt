-- Bytes as lists of bits: lengths, single bits, fields.
use Rattle.std.proofs.Common.{◌≡◌, ℕ, zero, suc, ◌+◌, ◌-◌, ◌*◌, ◌/◌, ◌%◌, ◌^◌, ◌<◌, ◌≤◌, Bool, true, false, List, [], ◌∷◌, ◌++◌, length, get_or, take, drop, inl, inr, ◌⊎◌, refl, sym, ap, ◌∙◌, arith, pow-suc, length-append, append-nil}
use Rattle.std.specs.Prelude.{nat_eq}
use Rattle.std.proofs.lemmas.Grind.{flat_map-append}
use Rattle.std.proofs.Math.ListN.{get_or-append}
use Rattle.std.proofs.lemmas.List.{get_or-append-add, get_or-drop, length-drop}
use Rattle.ts_bit_rows.specs.BitRow.{bit_of, field}
use Rattle.std.proofs.Math.Seq.{take-suc}
use Rattle.std.proofs.lemmas.Nat.{mod-pow-add, shr_high, shr-shr}
use Rattle.std.proofs.lemmas.Nat.Bits.{bit_at_cat_low}
use Rattle.ts_fields.specs.Bits.{bits, bit_value, number_of, bits_of}

pub length-bits : (n v : ℕ) → length (bits n v) ≡ n
unfolding bits
length-bits zero v = refl
length-bits (suc n) v = ap suc (length-bits n v)

pub length-bits_of : (row : List ℕ) → length (bits_of row) ≡ 8 * length row
length-bits_of [] = refl
length-bits_of (b ∷ bs) = length-append (bits 8 b) (bits_of bs) ∙ omega (arith, length-bits 8 b, length-bits_of bs)

pub number_of-nil : number_of [] ≡ 0
unfolding number_of
number_of-nil = refl

pub number_of-cons : (b : Bool) (bs : List Bool)
    → number_of (b ∷ bs) ≡ bit_value b * 2 ^ length bs + number_of bs
unfolding number_of
number_of-cons b bs = refl

pub number_of-snoc : (bs : List Bool) (b : Bool) → number_of (bs ++ b ∷ []) ≡ 2 * number_of bs + bit_value b
unfolding number_of
number_of-snoc [] b = omega arith
number_of-snoc (c ∷ bs) b =
    let longer : length (bs ++ b ∷ []) ≡ suc (length bs) = length-append bs (b ∷ []) ∙ omega arith in
    rw (longer, number_of-snoc bs b, pow-suc) (omega arith)

pub bit_value-lt : (b : Bool) → bit_value b < 2
bit_value-lt true = omega arith
bit_value-lt false = omega arith

pub number_of-lt : (bs : List Bool) → number_of bs < 2 ^ length bs
unfolding number_of
number_of-lt [] = omega arith
number_of-lt (true ∷ bs) = rw pow-suc (omega (arith, number_of-lt bs))
number_of-lt (false ∷ bs) = rw pow-suc (omega (arith, number_of-lt bs))

-- a bit of a number as a truth value, and back
pub bit_value-bit : (n : ℕ) → n < 2 → bit_value (nat_eq n 1) ≡ n
bit_value-bit zero h = refl
bit_value-bit (suc zero) h = refl
bit_value-bit (suc (suc n)) h = absurd (omega arith)

pub get_or-bits : (n v i : ℕ) → i < n → get_or (bits n v) i false ≡ nat_eq (v / 2 ^ (n - 1 - i) % 2) 1
unfolding bits
get_or-bits zero v i h = absurd (omega arith)
get_or-bits (suc n) v zero h = let e : suc n - 1 - 0 ≡ n = omega arith in rw e
get_or-bits (suc n) v (suc i) h = let e : suc n - 1 - suc i ≡ n - 1 - i = omega arith in rw e (get_or-bits n v i (omega arith))

near : (k i : ℕ) → (i < k) ⊎ (k ≤ i)
near zero i = inr (omega arith)
near (suc k) zero = inl (omega arith)
near (suc k) (suc i) = elim (near k i) [
  | inl h ↦ inl (omega arith)
  | inr h ↦ inr (omega arith)
]

pub get_or-bits_of : (row : List ℕ) (i : ℕ) → i < 8 * length row
    → get_or (bits_of row) i false ≡ nat_eq (bit_of row i) 1
unfolding bit_of
get_or-bits_of [] i h = absurd (omega arith)
get_or-bits_of (b ∷ bs) i h = elim (near 8 i) [
  | inl early ↦
      let byte : i / 8 ≡ 0 = omega arith in
      let place : 7 - i % 8 ≡ 8 - 1 - i = omega arith in
      let inside : i < length (bits 8 b) = omega (arith, length-bits 8 b) in
      get_or-append (bits 8 b) (bits_of bs) false i inside ∙ get_or-bits 8 b i early ∙ rw (byte, place) refl
  | inr late ↦
      let byte : i / 8 ≡ suc ((i - 8) / 8) = omega arith in
      let place : i % 8 ≡ (i - 8) % 8 = omega arith in
      let there : length (bits 8 b) + (i - 8) ≡ i = omega (arith, length-bits 8 b) in
      sym (ap (λ k. get_or (bits 8 b ++ bits_of bs) k false) there) ∙ get_or-append-add (bits 8 b) (bits_of bs) (i - 8) false
      ∙ get_or-bits_of bs (i - 8) (omega arith) ∙ rw (byte, place) refl
]

bit_of-below : (row : List ℕ) (i : ℕ) → bit_of row i < 2
unfolding bit_of
bit_of-below row i = omega arith

-- a field is the number of its bits
pub field-number_of : (row : List ℕ) (at n : ℕ) → at + n ≤ 8 * length row
    → field row at n ≡ number_of (take n (drop at (bits_of row)))
unfolding field
field-number_of row at zero h = sym number_of-nil
field-number_of row at (suc n) h =
    let long : n < length (drop at (bits_of row)) = omega (arith, length-drop at (bits_of row), length-bits_of row) in
    let more : take (suc n) (drop at (bits_of row)) ≡ take n (drop at (bits_of row)) ++ get_or (drop at (bits_of row)) n false ∷ [] = take-suc (drop at (bits_of row)) n false long in
    let last : get_or (drop at (bits_of row)) n false ≡ nat_eq (bit_of row (at + n)) 1 =
    get_or-drop at (bits_of row) n false ∙ get_or-bits_of row (at + n) (omega arith) in
    rw (more, last, number_of-snoc, bit_value-bit (bit_of row (at + n)) (bit_of-below row (at + n)))
    (ap (λ m. 2 * m + bit_of row (at + n)) (field-number_of row at n (omega arith)))

-- the highest digit of a number, before the others
high_digit : (v n : ℕ) → v / 2 ^ n % 2 * 2 ^ n + v % 2 ^ n ≡ v % 2 ^ suc n
high_digit v n =
    let e : 1 + n ≡ suc n = omega arith in
    sym (mod-pow-add v 1 n) ∙ ap (λ k. v % 2 ^ k) e

same_bit : (b : Bool) → nat_eq (bit_value b % 2) 1 ≡ b
same_bit true = refl
same_bit false = refl

-- bits of a number's low digits
bits-low : (n high m low : ℕ) → n ≤ m → bits n (high * 2 ^ m + low) ≡ bits n low
unfolding bits
bits-low zero high m low h = refl
bits-low (suc n) high m low h =
    let first : (high * 2 ^ m + low) / 2 ^ n % 2 ≡ low / 2 ^ n % 2 = bit_at_cat_low high m low n (omega arith) in
    rw (first, bits-low n high m low (omega arith)) refl

-- a small number is the number of its last bits
pub number_of-bits : (n v : ℕ) → number_of (bits n v) ≡ v % 2 ^ n
unfolding bits
number_of-bits zero v = number_of-nil ∙ omega arith
number_of-bits (suc n) v =
    number_of-cons (nat_eq (v / 2 ^ n % 2) 1) (bits n v)
    ∙ rw (length-bits, bit_value-bit (v / 2 ^ n % 2) (omega arith), number_of-bits n v) (high_digit v n)

-- bits are the bits of their number
pub bits-number_of : (bs : List Bool) → bits (length bs) (number_of bs) ≡ bs
unfolding bits
bits-number_of [] = refl
bits-number_of (b ∷ bs) =
    let below : number_of bs < 2 ^ length bs = number_of-lt bs in
    let first : number_of (b ∷ bs) / 2 ^ length bs ≡ bit_value b = ap (λ n. n / 2 ^ length bs) (number_of-cons b bs) ∙ shr_high (bit_value b) (length bs) (number_of bs) below in
    let rest : bits (length bs) (number_of (b ∷ bs)) ≡ bits (length bs) (number_of bs) = ap (bits (length bs)) (number_of-cons b bs) ∙ bits-low (length bs) (bit_value b) (length bs) (number_of bs) (omega arith) in
    rw (first, rest, bits-number_of bs) (ap (λ x. x ∷ bs) (same_bit b))

-- how many bits are left
pub left : (row : List ℕ) (at : ℕ) → length (drop at (bits_of row)) ≡ 8 * length row - at
left row at = length-drop at (bits_of row) ∙ rw (length-bits_of row) refl

-- one bit more after the bits of a number
pub bits_snoc : (n v : ℕ) (b : Bool) → bits (suc n) (2 * v + bit_value b) ≡ bits n v ++ b ∷ []
unfolding bits
bits_snoc zero v true = let e : (2 * v + 1) / 1 % 2 ≡ 1 = omega arith in rw e refl
bits_snoc zero v false = let e : (2 * v + 0) / 1 % 2 ≡ 0 = omega arith in rw e refl
bits_snoc (suc n) v b =
    let half : (2 * v + bit_value b) / 2 ^ 1 ≡ v = omega (arith, bit_value-lt b) in
    let up : 1 + n ≡ suc n = omega arith in
    let first : (2 * v + bit_value b) / 2 ^ suc n ≡ v / 2 ^ n = sym (ap (λ k. (2 * v + bit_value b) / 2 ^ k) up) ∙ sym (shr-shr (2 * v + bit_value b) 1 n) ∙ ap (λ m. m / 2 ^ n) half in
    rw first (ap (λ l. nat_eq (v / 2 ^ n % 2) 1 ∷ l) (bits_snoc n v b))

pub bits-zero : (v : ℕ) → bits 0 v ≡ []
unfolding bits
bits-zero v = refl

-- the next bit of a number that is written most significant bit first
pub bits_next : (n v k : ℕ)
    → bits (suc n) (v / 2 ^ k) ≡ bits n (v / 2 ^ (k + 1)) ++ nat_eq (v / 2 ^ k % 2) 1 ∷ []
bits_next n v k =
    let x = v / 2 ^ k in
    let half : v / 2 ^ (k + 1) ≡ x / 2 = sym (shr-shr v k 1) in
    let digit : bit_value (nat_eq (x % 2) 1) ≡ x % 2 = bit_value-bit (x % 2) (omega arith) in
    let whole : x ≡ 2 * (x / 2) + bit_value (nat_eq (x % 2) 1) = omega arith in
    rw half (ap (bits (suc n)) whole ∙ bits_snoc n (x / 2) (nat_eq (x % 2) 1))

pub bits_of_push : (row new : List ℕ) (byte : ℕ) → new ≡ row ++ byte ∷ []
    → bits_of new ≡ bits_of row ++ bits 8 byte
bits_of_push row new byte is = ap bits_of is ∙ flat_map-append (bits 8) row (byte ∷ []) ∙ ap (λ l. bits_of row ++ l) (append-nil (bits 8 byte))
