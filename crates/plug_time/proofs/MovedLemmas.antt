-- The sections of a packet, one after another.
use Rattle.std.proofs.Common.{◌≡◌, ◌∙◌, ◌+◌, ◌-◌, ◌≤◌, ℕ, zero, suc, ℤ, Bool, true, false, List, length, take, drop, refl, ap, arith, cond}
use Rattle.std.proofs.lemmas.List.{length-take}
use Rattle.ts_bit_rows.proofs.RowParts.{field-take}
use Rattle.ts_section.specs.SectionFields.{front_of, section_length_of}
use Rattle.ts_demux.specs.Cut.{is_whole_in_front, size_in_front}
use Rattle.plug_time.specs.MovedTimes.{moved_from, moved_section}

pub front_of_place : (row : List ℕ) (at size : ℕ) → size ≡ size_in_front (drop at row) → take (at + size - at) (drop at row) ≡ front_of (drop at row)
unfolding front_of
front_of_place row at size same = let n : at + size - at ≡ size_in_front (drop at row) = omega (arith, same) in ap (λ k. take k (drop at row)) n

-- the front of a row that is long enough is whole
pub front_is_whole : (b : List ℕ) → size_in_front b ≤ length b → length (front_of b) ≡ size_in_front (front_of b)
unfolding front_of
front_is_whole b there =
    let size : section_length_of (take (3 + section_length_of b) b) ≡ section_length_of b = field-take (3 + section_length_of b) b 12 12 (omega arith) in
    omega (arith, size, there, length-take (3 + section_length_of b) b)

-- what is not true is false
pub not_true : (b : Bool) → (b ≡ true → ⊥) → b ≡ false
not_true false never = refl
not_true true never = absurd (never refl)

-- no section is left
pub moved_none : (n : ℕ) (shift : ℤ) (at : ℕ) (row : List ℕ) → n ≡ 0 → moved_from n shift at row ≡ row
unfolding moved_from
moved_none n shift at row none = ap (λ m. moved_from m shift at row) none

-- no whole section follows
pub moved_stop : (n : ℕ) (shift : ℤ) (at : ℕ) (row : List ℕ) → is_whole_in_front (drop at row) ≡ false → moved_from n shift at row ≡ row
unfolding moved_from
moved_stop zero shift at row stops = refl
moved_stop (suc n) shift at row stops = ap (λ b. cond b (moved_from n shift (at + size_in_front (drop at row)) (moved_section shift at row)) row) stops

-- one more follows
pub moved_step : (n k : ℕ) (shift : ℤ) (at : ℕ) (row : List ℕ) → n ≡ suc k → is_whole_in_front (drop at row) ≡ true
    → moved_from n shift at row ≡ moved_from k shift (at + size_in_front (drop at row)) (moved_section shift at row)
unfolding moved_from
moved_step n k shift at row more goes =
    ap (λ m. moved_from m shift at row) more
    ∙ ap (λ b. cond b (moved_from k shift (at + size_in_front (drop at row)) (moved_section shift at row)) row) goes
