-- Whether one of the sections tells a time, section by section.
use Rattle.std.proofs.Common.{◌≡◌, ◌∙◌, ◌+◌, ◌≤◌, ℕ, zero, suc, true, false, ◌||◌, List, [], ◌∷◌, ◌++◌, length, length-append, drop, refl, ap, arith, cond}
use Rattle.ts_packet.specs.declared.cell.Cell.{Cell}
use Rattle.ts_section.specs.SectionFields.{front_of}
use Rattle.ts_demux.specs.Cut.{is_whole_in_front, size_in_front}
use Rattle.plug_time.specs.HasTime.{has_time_from, tells_time}

-- no section is left
pub time_none : (n at : ℕ) (row : List ℕ) → n ≡ 0 → has_time_from n at row ≡ false
unfolding has_time_from
time_none n at row none = ap (λ m. has_time_from m at row) none

-- no whole section follows
pub time_stop : (n at : ℕ) (row : List ℕ) → is_whole_in_front (drop at row) ≡ false → has_time_from n at row ≡ false
unfolding has_time_from
time_stop zero at row stops = refl
time_stop (suc n) at row stops =
    ap (λ b. cond b (tells_time (front_of (drop at row)) || has_time_from n (at + size_in_front (drop at row)) row) false) stops

-- one more follows
pub time_step : (n k at : ℕ) (row : List ℕ) → n ≡ suc k → is_whole_in_front (drop at row) ≡ true
    → has_time_from n at row ≡ (tells_time (front_of (drop at row)) || has_time_from k (at + size_in_front (drop at row)) row)
unfolding has_time_from
time_step n k at row more goes =
    ap (λ m. has_time_from m at row) more
    ∙ ap (λ b. cond b (tells_time (front_of (drop at row)) || has_time_from k (at + size_in_front (drop at row)) row) false) goes

-- one more follows, and tells a time
pub time_found : (n k at : ℕ) (row : List ℕ) → n ≡ suc k → is_whole_in_front (drop at row) ≡ true → tells_time (front_of (drop at row)) ≡ true → has_time_from n at row ≡ true
time_found n k at row more goes tells =
    time_step n k at row more goes ∙ ap (λ b. b || has_time_from k (at + size_in_front (drop at row)) row) tells

-- one more follows, and tells none
pub time_goes_on : (n k at : ℕ) (row : List ℕ) → n ≡ suc k → is_whole_in_front (drop at row) ≡ true → tells_time (front_of (drop at row)) ≡ false
    → has_time_from n at row ≡ has_time_from k (at + size_in_front (drop at row)) row
time_goes_on n k at row more goes tells =
    time_step n k at row more goes ∙ ap (λ b. b || has_time_from k (at + size_in_front (drop at row)) row) tells

-- a mark is not beyond one cell more
pub marks_more : (history : List Cell) (cell : Cell) (mark : ℕ) → mark ≤ length history → mark ≤ length (history ++ cell ∷ [])
marks_more history cell mark le = let h : length (history ++ cell ∷ []) ≡ length history + 1 = length-append history (cell ∷ []) in omega (arith, h, le)
