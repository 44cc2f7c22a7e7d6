-- Pieces cut from the front of a stretch that may still grow.
use Rattle.std.proofs.Common.{◌≡◌, ℕ, ◌+◌, ◌-◌, ◌*◌, ◌/◌, ◌≤◌, ◌<◌, true, false, not, ◌&&◌, ◌==◌, nat_le, List, [], ◌∷◌, ◌++◌, length, take, drop, suc, zero, refl, sym, ◌∙◌, ap, arith, append_assoc, length-drop, length-append, ◌%◌, ◌^◌, inl, inr, ◌⊎◌}
use Rattle.std.specs.Prelude.{slice_index, filter}
use Rattle.std.proofs.lemmas.List.{get_or_append_left, take-append-le, drop-append-le, drop-drop}
use Rattle.std.proofs.lemmas.Bool.Decides.{leb_tells}
use Rattle.std.proofs.lemmas.Bool.{leb-true, le-leb}
use Rattle.std.proofs.lemmas.List.Elements.{filter-append}
use Rattle.ts_bit_rows.specs.BitRow.{bit_of, field}
use Rattle.ts_section.specs.SectionFields.{table_id_of, section_length_of}
use Rattle.ts_section.specs.FirstBroken.{is_section}
use Rattle.ts_demux.proofs.Choice.{if_true, if_false, true_or_false, both_true, not_true, not_of_false, and_true}
use Rattle.ts_demux.specs.Pieces.{IsOver, IsAlive}
use Rattle.ts_demux.specs.Cut.{size_in_front, is_whole_in_front, cut_at_most, cut}
use Rattle.ts_demux.specs.SectionsOfParts.{sections_in}

bit_of-append : (b x : List ℕ) (i : ℕ) → i < 8 * length b → bit_of (b ++ x) i ≡ bit_of b i
unfolding bit_of
bit_of-append b x i h =
    let e : slice_index (b ++ x) (i / 8) ≡ slice_index b (i / 8) = get_or_append_left b x 0 (i / 8) (omega arith) in
    ap (λ n. n / 2 ^ (7 - i % 8) % 2) e

pub field-append : (b x : List ℕ) (at count : ℕ) → at + count ≤ 8 * length b → field (b ++ x) at count ≡ field b at count
unfolding field
field-append b x at zero h = refl
field-append b x at (suc count) h =
    let l : at + count ≤ 8 * length b = omega arith in
    let m : at + count < 8 * length b = omega arith in
    let e = field-append b x at count l in
    let f = bit_of-append b x (at + count) m in
    rw (e, f) refl

pub table_id-append : (b x : List ℕ) → 1 ≤ length b → table_id_of (b ++ x) ≡ table_id_of b
table_id-append b x h = field-append b x 0 8 (omega arith)

pub section_length-append : (b x : List ℕ) → 3 ≤ length b → section_length_of (b ++ x) ≡ section_length_of b
section_length-append b x h = field-append b x 12 12 (omega arith)

-- what a whole piece in front says
pub record IsWhole (b : List ℕ) : Type 0 where
  pub head : 3 ≤ length b
  pub no_stuffing : (table_id_of b == 255) ≡ false
  pub in_range : section_length_of b ≤ 4093
  pub there : size_in_front b ≤ length b

nat_le_cases : (a b : ℕ) → (a ≤ b) ⊎ (b < a)
nat_le_cases a b = elim (leb_tells a b) as (λ _. (a ≤ b) ⊎ (b < a)) [ inl h ↦ inl h.1 | inr h ↦ inr h.1 ]

pub IsWhole-from : (b : List ℕ) → is_whole_in_front b ≡ true → IsWhole b
unfolding is_whole_in_front
IsWhole-from b e =
    let f = both_true (nat_le 3 (length b)) (not (table_id_of b == 255) && (nat_le (section_length_of b) 4093 && nat_le (size_in_front b) (length b))) e in
    let g = both_true (not (table_id_of b == 255)) (nat_le (section_length_of b) 4093 && nat_le (size_in_front b) (length b)) f.1 in
    let h = both_true (nat_le (section_length_of b) 4093) (nat_le (size_in_front b) (length b)) g.1 in
    record {
      head = leb-true 3 (length b) f.0;
      no_stuffing = not_true (table_id_of b == 255) g.0;
      in_range = leb-true (section_length_of b) 4093 h.0;
      there = leb-true (size_in_front b) (length b) h.1;
    }

pub IsWhole-to : (b : List ℕ) → IsWhole b → is_whole_in_front b ≡ true
unfolding is_whole_in_front
IsWhole-to b w =
    and_true (nat_le 3 (length b)) (not (table_id_of b == 255) && (nat_le (section_length_of b) 4093 && nat_le (size_in_front b) (length b))) (le-leb 3 (length b) w.head)
    (and_true (not (table_id_of b == 255)) (nat_le (section_length_of b) 4093 && nat_le (size_in_front b) (length b)) (not_of_false (table_id_of b == 255) w.no_stuffing)
    (and_true (nat_le (section_length_of b) 4093) (nat_le (size_in_front b) (length b)) (le-leb (section_length_of b) 4093 w.in_range) (le-leb (size_in_front b) (length b) w.there)))

-- what is whole in front stays so, whatever comes after
pub IsWhole-append : (b x : List ℕ) → IsWhole b → IsWhole (b ++ x)
IsWhole-append b x w =
    let h : 1 ≤ length b = omega (arith, w.head) in
    let a = table_id-append b x h in
    let l = section_length-append b x w.head in
    record {
      head = omega (arith, length-append b x, w.head);
      no_stuffing = rw a w.no_stuffing;
      in_range = rw l w.in_range;
      there = omega (arith, length-append b x, l, w.there);
    }

nothing_whole : (b : List ℕ) → length b < 3 → is_whole_in_front b ≡ false
nothing_whole b h =
    elim (true_or_false (is_whole_in_front b)) as (λ _. is_whole_in_front b ≡ false) [
      | inl e ↦ (let w = IsWhole-from b e in absurd (omega (arith, w.head)))
      | inr e ↦ e
    ]

cut_at_most-stop : (n : ℕ) (b : List ℕ) → is_whole_in_front b ≡ false → cut_at_most n b ≡ []
unfolding cut_at_most
cut_at_most-stop zero b e = refl
cut_at_most-stop (suc n) b e =
    if_false (is_whole_in_front b) (take (size_in_front b) b ∷ cut_at_most n (drop (size_in_front b) b)) [] e

cut_at_most-step :
    (n : ℕ) (b : List ℕ) → is_whole_in_front b ≡ true →
    cut_at_most (suc n) b ≡ take (size_in_front b) b ∷ cut_at_most n (drop (size_in_front b) b)
unfolding cut_at_most
cut_at_most-step n b e =
    if_true (is_whole_in_front b) (take (size_in_front b) b ∷ cut_at_most n (drop (size_in_front b) b)) [] e

-- any bound that is large enough gives the same pieces
cut_at_most-same : (m n : ℕ) (b : List ℕ) → length b ≤ m → length b ≤ n → cut_at_most m b ≡ cut_at_most n b
cut_at_most-same zero n b h k =
    let e = nothing_whole b (omega arith) in cut_at_most-stop zero b e ∙ sym (cut_at_most-stop n b e)
cut_at_most-same (suc m) zero b h k =
    let e = nothing_whole b (omega arith) in cut_at_most-stop (suc m) b e ∙ sym (cut_at_most-stop zero b e)
cut_at_most-same (suc m) (suc n) b h k =
    elim (true_or_false (is_whole_in_front b)) as (λ _. cut_at_most (suc m) b ≡ cut_at_most (suc n) b) [
      | inl e ↦
          (let rest = drop (size_in_front b) b in
          let w = IsWhole-from b e in
          let l : length rest ≤ m = omega (arith, length-drop (size_in_front b) b, w.head) in
          let r : length rest ≤ n = omega (arith, length-drop (size_in_front b) b, w.head) in
          cut_at_most-step m b e ∙ ap (λ t. take (size_in_front b) b ∷ t) (cut_at_most-same m n rest l r) ∙ sym (cut_at_most-step n b e))
      | inr e ↦ cut_at_most-stop (suc m) b e ∙ sym (cut_at_most-stop (suc n) b e)
    ]

pub cut-stop : (b : List ℕ) → is_whole_in_front b ≡ false → cut b ≡ []
unfolding cut
cut-stop b e = cut_at_most-stop (length b) b e

pub cut-step :
    (b : List ℕ) → is_whole_in_front b ≡ true →
    cut b ≡ take (size_in_front b) b ∷ cut (drop (size_in_front b) b)
unfolding cut
cut-step b e =
    let rest = drop (size_in_front b) b in
    let w = IsWhole-from b e in
    let l : length rest ≤ length b = omega (arith, length-drop (size_in_front b) b) in
    cut_at_most-same (length b) (suc (length b)) b (omega arith) (omega arith)
    ∙ cut_at_most-step (length b) b e
    ∙ ap (λ t. take (size_in_front b) b ∷ t) (cut_at_most-same (length b) (length rest) rest l (omega arith))

pub sections_in-stop : (b : List ℕ) → is_whole_in_front b ≡ false → sections_in b ≡ []
unfolding sections_in
sections_in-stop b e = rw (cut-stop b e) refl

-- a whole piece in front is cut off, whatever comes after
pub sections_in-step :
    (b x : List ℕ) → is_whole_in_front b ≡ true →
    sections_in (b ++ x) ≡ filter is_section (take (size_in_front b) b ∷ []) ++ sections_in (drop (size_in_front b) b ++ x)
unfolding sections_in
sections_in-step b x e =
    let w = IsWhole-from b e in
    let s = section_length-append b x w.head in
    let size = size_in_front b in
    let z : size_in_front (b ++ x) ≡ size = ap (λ n. 3 + n) s in
    let t : take size (b ++ x) ≡ take size b = take-append-le size b x w.there in
    let d : drop size (b ++ x) ≡ drop size b ++ x = drop-append-le size b x w.there in
    let c = cut-step (b ++ x) (IsWhole-to (b ++ x) (IsWhole-append b x w)) in
    let f : cut (b ++ x) ≡ take size b ∷ cut (drop size b ++ x) = c ∙ rw (z, t, d) refl in
    ap (filter is_section) f ∙ filter-append is_section (take size b ∷ []) (cut (drop size b ++ x))

over_stops : (b : List ℕ) → IsOver b → is_whole_in_front b ≡ false
over_stops b o =
    elim (true_or_false (is_whole_in_front b)) as (λ _. is_whole_in_front b ≡ false) [
      | inl e ↦
          (let w = IsWhole-from b e in
          let n = w.no_stuffing in
          let r = w.in_range in
          elim o.why as (λ _. is_whole_in_front b ≡ false) [ inl s ↦ cc | inr l ↦ absurd (omega (arith, l.1)) ])
      | inr e ↦ e
    ]

over-append : (b x : List ℕ) → IsOver b → IsOver (b ++ x)
over-append b x o =
    let i = table_id-append b x o.some in
    record {
      some = omega (arith, length-append b x, o.some);
      why =
          elim o.why as (λ _. ((table_id_of (b ++ x) == 255) ≡ true) ⊎ ((3 ≤ length (b ++ x)) × (4093 < section_length_of (b ++ x)))) [
            | inl s ↦ inl (rw i s)
            | inr l ↦ inr (omega (arith, length-append b x, l.0), rw (section_length-append b x l.0) l.1)
          ];
    }

pub sections_in-over : (b x : List ℕ) → IsOver b → sections_in (b ++ x) ≡ []
sections_in-over b x o = sections_in-stop (b ++ x) (over_stops (b ++ x) (over-append b x o))

-- what is neither whole in front nor over is less than one section
pub unfinished_is_short : (b : List ℕ) → is_whole_in_front b ≡ false → IsAlive b → length b ≤ 4095
unfinished_is_short b e a =
    elim (nat_le_cases 3 (length b)) as (λ _. length b ≤ 4095) [
      | inl h ↦
          elim (nat_le_cases (size_in_front b) (length b)) as (λ _. length b ≤ 4095) [
            | inl t ↦ (let w = IsWhole-to b (record { head = h; no_stuffing = a.no_stuffing (omega arith); in_range = a.in_range h; there = t }) in cc)
            | inr t ↦ omega (arith, a.in_range h)
          ]
      | inr h ↦ omega arith
    ]

-- what is over has no whole piece in front
pub over_is_not_whole : (b : List ℕ) → IsOver b → is_whole_in_front b ≡ false
over_is_not_whole b o = over_stops b o

pub short_is_not_whole : (b : List ℕ) → length b < 3 → is_whole_in_front b ≡ false
short_is_not_whole b h = nothing_whole b h

pub part_is_not_whole : (b : List ℕ) → length b < size_in_front b → is_whole_in_front b ≡ false
part_is_not_whole b h =
    elim (true_or_false (is_whole_in_front b)) as (λ _. is_whole_in_front b ≡ false) [
      | inl e ↦ (let w = IsWhole-from b e in absurd (omega (arith, w.there)))
      | inr e ↦ e
    ]

-- one piece further
pub sections_in-advance :
    (whole now next : List (List ℕ)) (bytes more : List ℕ) (at size : ℕ) →
    is_whole_in_front (drop at bytes) ≡ true → size ≡ size_in_front (drop at bytes) →
    next ≡ now ++ filter is_section (take size (drop at bytes) ∷ []) →
    whole ≡ now ++ sections_in (drop at bytes ++ more) →
    whole ≡ next ++ sections_in (drop (at + size) bytes ++ more)
sections_in-advance whole now next bytes more at size w s n h =
    let rest = drop at bytes in
    let piece = filter is_section (take size rest ∷ []) in
    let f : sections_in (rest ++ more) ≡ piece ++ sections_in (drop size rest ++ more) = rw s (sections_in-step rest more w) in
    let d : drop size rest ≡ drop (at + size) bytes = drop-drop size at bytes in
    let tail = sections_in (drop (at + size) bytes ++ more) in
    let g : sections_in (rest ++ more) ≡ piece ++ tail = f ∙ ap (λ t. piece ++ sections_in (t ++ more)) d in
    h ∙ ap (λ t. now ++ t) g ∙ sym (append_assoc now piece tail) ∙ ap (λ t. t ++ tail) (sym n)

-- a test that answers no
pub never_whole : (b : List ℕ) → is_whole_in_front b ≡ false → (false ≡ true → is_whole_in_front b ≡ true) × (is_whole_in_front b ≡ true → false ≡ true)
never_whole b e = (λ (f : false ≡ true). cc, λ (f : is_whole_in_front b ≡ true). cc)
