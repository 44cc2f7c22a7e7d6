-- The sections in loads of sections, where a load is made before all of them are known.
use Rattle.std.proofs.Common.{◌≡◌, ◌≢◌, ℕ, ◌+◌, ◌-◌, ◌%◌, ◌<◌, ◌≤◌, Bool, true, false, not, ◌&&◌, ◌==◌, nat_le, List, [], ◌∷◌, ◌++◌, length, take, drop, replicate, zero, suc, Option, Some, is_none, refl, sym, ◌∙◌, ap, arith, append_assoc, append-nil, length-take, length-append, filter, inl, inr, subst}
use Rattle.std.specs.List.{flat_map, AllByRecursion}
use Rattle.std.proofs.lemmas.Bool.Decides.{nat_tests, leb_tells}
use Rattle.std.proofs.lemmas.List.{take_all, take-append-drop, take-take, length-replicate, replicate-append-replicate}
use Rattle.std.proofs.Math.ListN.{drop_of_length-le}
use Rattle.std.proofs.Math.Seq.{take-append_seam, take-append-add}
use Rattle.ts_bit_rows.specs.BitRow.{bit_of, field}
use Rattle.ts_section.specs.SectionFields.{table_id_of}
use Rattle.ts_section.specs.ValidSection.{IsSection}
use Rattle.ts_section.specs.FirstBroken.{is_section}
use Rattle.ts_section.proofs.RuleLemmas.{none_from_valid}
use Rattle.ts_demux.specs.Part.{Part, is_invalid, repeats, without_repeats}
use Rattle.ts_demux.specs.ContinuousRuns.{goes_on}
use Rattle.ts_demux.specs.Cut.{size_in_front, is_whole_in_front}
use Rattle.ts_demux.specs.SectionsOfParts.{sections_in}
use Rattle.ts_demux.proofs.Choice.{if_true, if_false}
use Rattle.ts_demux.proofs.Cutting.{IsWhole-to, sections_in-step, sections_in-stop, short_is_not_whole, over_is_not_whole}
use Rattle.ts_demux.proofs.Runs.{following, following-plain, following-unit, following-stops, all_stretches-plain, all_stretches-unit}
use Rattle.ts_demux.proofs.Remembering.{sections_left}
use Rattle.ts_packetize.specs.Packing.{Load, filled, joined, missing, not_begun, goes_on_alone, next_step}
use Rattle.ts_packetize.specs.Begun.{begun, begun_by}
use Rattle.ts_packetize.proofs.Filling.{le_or_lt, filled_few, filled_many}
use Rattle.ts_packetize.proofs.HeaderFields.{part_with, parts_from}
use Rattle.ts_packetize.proofs.Laying.{lays_out, step-alone, step-begins, not_alone, step-sections}

next_is_other : (c : ℕ) → c < 16 → (c == (c + 1) % 16) ≡ false
next_is_other c h = grind (arith, nat_tests)

-- no counter comes twice
pub without_repeats-parts :
    (before : Option ℕ) (c : ℕ) (loads : List Load) → repeats before c ≡ false → c < 16 →
    without_repeats before (parts_from c loads) ≡ parts_from c loads
without_repeats-parts before c [] e h = refl
without_repeats-parts before c (load ∷ loads) e h =
    let others = without_repeats (Some c) (parts_from ((c + 1) % 16) loads) in
    if_false (repeats before c) others (part_with c load ∷ others) e
    ∙ ap (λ t. part_with c load ∷ t) (without_repeats-parts (Some c) ((c + 1) % 16) loads (next_is_other c h) (omega arith))

-- the sections of loads counted from c on, and what continues after the counter c
abbrev pub left_from : ℕ → List Load → List (List ℕ)
left_from c loads = sections_left (parts_from c loads)

abbrev pub on_from : ℕ → List Load → List ℕ
on_from c loads = following c (parts_from ((c + 1) % 16) loads)

same_counter : (n : ℕ) → (n == n) ≡ true
same_counter n = grind (arith, nat_tests)

goes_on-next : (c : ℕ) (load : Load) (ps : List Part) → is_invalid (part_with ((c + 1) % 16) load) ≡ false → goes_on c (part_with ((c + 1) % 16) load ∷ ps) ≡ true
goes_on-next c load ps e = ap (λ b. not b && ((c + 1) % 16 == (c + 1) % 16)) e ∙ same_counter ((c + 1) % 16)

-- a load with unit start whose pointer points into it
abbrev unit_load : ℕ → List ℕ → Load
unit_load pointer bytes = record { unit_start = true; payload = pointer ∷ bytes }

unit_is_valid : (c pointer : ℕ) (bytes : List ℕ) → pointer ≤ length bytes → is_invalid (part_with c (unit_load pointer bytes)) ≡ false
unit_is_valid c pointer bytes h = elim (leb_tells (suc (length bytes)) pointer) as (λ _. nat_le (suc (length bytes)) pointer ≡ false) [ inl w ↦ absurd (omega (arith, w.1, h)) | inr w ↦ w.0 ]

left_from-unit :
    (c pointer : ℕ) (bytes : List ℕ) (xs : List Load) → pointer ≤ length bytes →
    left_from c (unit_load pointer bytes ∷ xs) ≡ sections_in (drop pointer bytes ++ on_from c xs) ++ left_from ((c + 1) % 16) xs
left_from-unit c pointer bytes xs h =
    ap (flat_map sections_in) (all_stretches-unit (part_with c (unit_load pointer bytes)) (parts_from ((c + 1) % 16) xs) (unit_is_valid c pointer bytes h) refl h)

on_from-unit : (c pointer : ℕ) (bytes : List ℕ) (xs : List Load) → pointer ≤ length bytes → on_from c (unit_load pointer bytes ∷ xs) ≡ take pointer bytes
on_from-unit c pointer bytes xs h =
    let next = (c + 1) % 16 in
    let rest = parts_from ((next + 1) % 16) xs in
    following-unit c (part_with next (unit_load pointer bytes)) rest (goes_on-next c (unit_load pointer bytes) rest (unit_is_valid next pointer bytes h)) (unit_is_valid next pointer bytes h) refl h

-- and one without
abbrev plain_load : List ℕ → Load
plain_load bytes = record { unit_start = false; payload = bytes }

left_from-plain : (c : ℕ) (bytes : List ℕ) (xs : List Load) → left_from c (plain_load bytes ∷ xs) ≡ left_from ((c + 1) % 16) xs
left_from-plain c bytes xs =
    ap (flat_map sections_in) (all_stretches-plain (part_with c (plain_load bytes)) (parts_from ((c + 1) % 16) xs) refl refl)

on_from-plain : (c : ℕ) (bytes : List ℕ) (xs : List Load) → on_from c (plain_load bytes ∷ xs) ≡ bytes ++ on_from ((c + 1) % 16) xs
on_from-plain c bytes xs =
    let next = (c + 1) % 16 in
    let rest = parts_from ((next + 1) % 16) xs in
    following-plain c (part_with next (plain_load bytes)) rest (goes_on-next c (plain_load bytes) rest refl) refl refl

-- stuffing bytes give no section
fill_id : (k : ℕ) → table_id_of (replicate (suc k) 0xFF) ≡ 255
unfolding field bit_of
fill_id k = refl

nothing_of_fill : (k : ℕ) → sections_in (replicate k 0xFF) ≡ []
nothing_of_fill zero = sections_in-stop [] (short_is_not_whole [] (omega arith))
nothing_of_fill (suc k) =
    sections_in-stop (replicate (suc k) 0xFF) (over_is_not_whole (replicate (suc k) 0xFF) (record { some = omega (arith, length-replicate {A = ℕ} k 0xFF); why = inl (ap (λ n. n == 255) (fill_id k)) }))

other_number : (a b : ℕ) → a ≢ b → (a == b) ≡ false
other_number a b h = grind (arith, nat_tests)

valid_is_section : (s : List ℕ) → IsSection s → is_section s ≡ true
valid_is_section s h = ap is_none (none_from_valid s h)

-- a section followed by anything gives the section first
section_first : (s more : List ℕ) → IsSection s → sections_in (s ++ more) ≡ s ∷ sections_in more
section_first s more h =
    let size : size_in_front s ≡ length s = sym h.whole in
    let whole : is_whole_in_front s ≡ true = IsWhole-to s (record { head = omega (arith, h.whole); no_stuffing = other_number (table_id_of s) 255 h.no_stuffing; in_range = h.in_range; there = omega (arith, h.whole) }) in
    let front : take (size_in_front s) s ≡ s = take_all (size_in_front s) s (omega arith) in
    let behind : drop (size_in_front s) s ≡ [] = drop_of_length-le s {i = size_in_front s} (omega arith) in
    sections_in-step s more whole
    ∙ ap (λ t. filter is_section (t ∷ []) ++ sections_in (drop (size_in_front s) s ++ more)) front
    ∙ ap (λ t. filter is_section (s ∷ []) ++ sections_in (t ++ more)) behind
    ∙ ap (λ t. t ++ sections_in more) (if_true (is_section s) (s ∷ []) [] (valid_is_section s h))

-- sections followed by stuffing bytes give the sections
sections_first : (ss : List (List ℕ)) (k : ℕ) → AllByRecursion (λ s. IsSection s) ss → sections_in (joined ss ++ replicate k 0xFF) ≡ ss
sections_first [] k all = nothing_of_fill k
sections_first (s ∷ ss) k all =
    ap sections_in (append_assoc s (joined ss) (replicate k 0xFF))
    ∙ section_first s (joined ss ++ replicate k 0xFF) all.0
    ∙ ap (λ t. s ∷ t) (sections_first ss k all.1)

all_front : (xs ys : List (List ℕ)) → AllByRecursion (λ s. IsSection s) (xs ++ ys) → AllByRecursion (λ s. IsSection s) xs
all_front [] ys all = tt
all_front (x ∷ xs) ys all = (all.0, all_front xs ys all.1)

all_back : (xs ys : List (List ℕ)) → AllByRecursion (λ s. IsSection s) (xs ++ ys) → AllByRecursion (λ s. IsSection s) ys
all_back [] ys all = all
all_back (x ∷ xs) ys all = all_back xs ys all.1

-- the load of bytes that continue, and what continues after it
goes_on_with : (rest : List ℕ) (k : ℕ) → (j : ℕ) × (filled rest ++ (drop 184 rest ++ replicate k 0xFF) ≡ rest ++ replicate j 0xFF)
goes_on_with rest k = elim (le_or_lt 184 (length rest)) as (λ _. (j : ℕ) × (filled rest ++ (drop 184 rest ++ replicate k 0xFF) ≡ rest ++ replicate j 0xFF)) [
  | inl h ↦ (
    k,
    ap (λ t. t ++ (drop 184 rest ++ replicate k 0xFF)) (filled_many rest h)
        ∙ sym (append_assoc (take 184 rest) (drop 184 rest) (replicate k 0xFF))
        ∙ ap (λ t. t ++ replicate k 0xFF) (take-append-drop 184 rest),
  )
  | inr h ↦ (
    (184 - length rest) + k,
    ap (λ t. t ++ (drop 184 rest ++ replicate k 0xFF)) (filled_few rest (omega (arith, h)))
        ∙ ap (λ t. (rest ++ replicate (184 - length rest) 0xFF) ++ (t ++ replicate k 0xFF)) (drop_of_length-le rest {i = 184} (omega (arith, h)))
        ∙ append_assoc rest (replicate (184 - length rest) 0xFF) (replicate k 0xFF)
        ∙ ap (λ t. rest ++ t) (replicate-append-replicate (184 - length rest) k 0xFF),
  )
]

-- the bytes after the pointer of a load that begins sections
after_pointer : List ℕ → List (List ℕ) → List ℕ
after_pointer rest ss = take (183 - length rest) (joined ss) ++ replicate (184 - suc (length (take 183 (rest ++ joined ss)))) 0xFF

begins_load :
    (rest : List ℕ) (ss : List (List ℕ)) → length rest < 183 →
    filled (length rest ∷ take 183 (rest ++ joined ss)) ≡ length rest ∷ (rest ++ after_pointer rest ss)
unfolding after_pointer
begins_load rest ss h =
    let k = 184 - suc (length (take 183 (rest ++ joined ss))) in
    let n : 183 ≡ length rest + (183 - length rest) = omega (arith, h) in
    ap (λ t. length rest ∷ (t ++ replicate k 0xFF)) (take-take 183 183 (rest ++ joined ss) (omega arith))
    ∙ ap (λ t. length rest ∷ (t ++ replicate k 0xFF)) (ap (λ m. take m (rest ++ joined ss)) n ∙ take-append-add rest (joined ss) (183 - length rest))
    ∙ ap (λ t. length rest ∷ t) (append_assoc rest (take (183 - length rest) (joined ss)) (replicate k 0xFF))

drop-seam : (xs ys : List ℕ) → drop (length xs) (xs ++ ys) ≡ ys
drop-seam [] ys = refl
drop-seam (x ∷ xs) ys = drop-seam xs ys

fill-count : (rest : List ℕ) (ss : List (List ℕ)) → length rest < 183 → 183 - length rest ≤ length (joined ss) → 184 - suc (length (take 183 (rest ++ joined ss))) ≡ 0
fill-count rest ss h full = omega (arith, h, full, length-take 183 (rest ++ joined ss), length-append rest (joined ss))

-- what comes after the pointer, and what continues, give the sections that have begun
begins_sections :
    (rest : List ℕ) (ss : List (List ℕ)) (j : ℕ) → length rest < 183 → AllByRecursion (λ s. IsSection s) (begun (183 - length rest) ss) →
    sections_in (after_pointer rest ss ++ (missing (183 - length rest) ss ++ replicate j 0xFF)) ≡ begun (183 - length rest) ss
unfolding after_pointer
begins_sections rest ss j h all =
    let room = 183 - length rest in
    let front = take room (joined ss) in
    let k = 184 - suc (length (take 183 (rest ++ joined ss))) in
    let out = lays_out room ss in
    elim (le_or_lt room (length (joined ss))) as (λ _. sections_in ((front ++ replicate k 0xFF) ++ (missing room ss ++ replicate j 0xFF)) ≡ begun room ss) [
      | inl full ↦
          ap (λ n. sections_in ((front ++ replicate n 0xFF) ++ (missing room ss ++ replicate j 0xFF))) (fill-count rest ss h full)
          ∙ ap (λ t. sections_in (t ++ (missing room ss ++ replicate j 0xFF))) (append-nil front)
          ∙ ap sections_in (sym (append_assoc front (missing room ss) (replicate j 0xFF)))
          ∙ ap (λ t. sections_in (t ++ replicate j 0xFF)) out.bytes
          ∙ sections_first (begun room ss) j all
      | inr few ↦
          ap (λ t. sections_in ((front ++ replicate k 0xFF) ++ (t ++ replicate j 0xFF))) (out.room_left few)
          ∙ ap sections_in (append_assoc front (replicate k 0xFF) (replicate j 0xFF))
          ∙ ap (λ t. sections_in (front ++ t)) (replicate-append-replicate k j 0xFF)
          ∙ ap (λ t. sections_in (t ++ replicate (k + j) 0xFF)) (sym (append-nil front) ∙ ap (λ t. front ++ t) (sym (out.room_left few)) ∙ out.bytes)
          ∙ sections_first (begun room ss) (k + j) all
    ]

-- what continues after a counter, and which sections begin from there on
abbrev pub Packed : ℕ → List Load → List ℕ → List (List ℕ) → Type 0
Packed c loads rest ss = (k : ℕ) × (on_from c loads ≡ rest ++ replicate k 0xFF) × (left_from ((c + 1) % 16) loads ≡ ss)

pub packed-none : (c : ℕ) (loads : List Load) (rest : List ℕ) (ss : List (List ℕ)) → loads ≡ [] → rest ≡ [] → ss ≡ [] → Packed c loads rest ss
packed-none c loads rest ss e f g = (
  0,
  ap (on_from c) e ∙ following-stops c [] refl ∙ sym (append-nil rest ∙ f),
  ap (left_from ((c + 1) % 16)) e ∙ sym g,
)

packed-alone :
    (c : ℕ) (xs : List Load) (rest : List ℕ) (ss : List (List ℕ)) →
    Packed ((c + 1) % 16) xs (drop 184 rest) ss → Packed c (plain_load (filled rest) ∷ xs) rest ss
packed-alone c xs rest ss more =
    let next = (c + 1) % 16 in
    let r = goes_on_with rest more.0 in (
      r.0,
      on_from-plain c (filled rest) xs ∙ ap (λ t. filled rest ++ t) more.1 ∙ r.1,
      left_from-plain next (filled rest) xs ∙ more.2,
    )

packed-begins :
    (c : ℕ) (xs : List Load) (rest : List ℕ) (ss later : List (List ℕ)) → length rest < 183 → AllByRecursion (λ s. IsSection s) ss →
    Packed ((c + 1) % 16) xs (missing (183 - length rest) ss) (not_begun (183 - length rest) ss ++ later) →
    Packed c ((let load : Load = record { unit_start = true; payload = filled (length rest ∷ take 183 (rest ++ joined ss)) } in load) ∷ xs) rest (ss ++ later)
packed-begins c xs rest ss later h all more =
    let next = (c + 1) % 16 in
    let room = 183 - length rest in
    let body = rest ++ after_pointer rest ss in
    let is = begins_load rest ss h in
    let out = lays_out room ss in
    let within : length rest ≤ length body = omega (arith, length-append rest (after_pointer rest ss)) in
    let valid = all_front (begun room ss) (not_begun room ss) (subst (AllByRecursion (λ s. IsSection s)) out.sections all) in (
      0,
      ap (λ t. on_from c ((let load : Load = record { unit_start = true; payload = t } in load) ∷ xs)) is
          ∙ on_from-unit c (length rest) body xs within
          ∙ take-append_seam rest (after_pointer rest ss)
          ∙ sym (append-nil rest),
      ap (λ t. left_from next ((let load : Load = record { unit_start = true; payload = t } in load) ∷ xs)) is
          ∙ left_from-unit next (length rest) body xs within
          ∙ ap (λ t. sections_in (t ++ on_from next xs) ++ left_from ((next + 1) % 16) xs) (drop-seam rest (after_pointer rest ss))
          ∙ ap (λ t. sections_in (after_pointer rest ss ++ t) ++ left_from ((next + 1) % 16) xs) more.1
          ∙ ap (λ t. t ++ left_from ((next + 1) % 16) xs) (begins_sections rest ss more.0 h valid)
          ∙ ap (λ t. begun room ss ++ t) more.2
          ∙ sym (append_assoc (begun room ss) (not_begun room ss) later)
          ∙ ap (λ t. t ++ later) (sym out.sections),
    )

-- a step of either kind, where sections come later that it does not know of
pub packed-step :
    (c : ℕ) (xs : List Load) (rest : List ℕ) (ss later : List (List ℕ)) (alone : Bool) → goes_on_alone rest ss ≡ alone → AllByRecursion (λ s. IsSection s) ss →
    Packed ((c + 1) % 16) xs (next_step rest ss).rest ((next_step rest ss).sections ++ later) → Packed c ((next_step rest ss).load ∷ xs) rest (ss ++ later)
packed-step c xs rest ss later true e all more =
    let is = step-alone rest ss e in
    subst (λ step. Packed c (step.load ∷ xs) rest (ss ++ later)) (sym is) (packed-alone c xs rest (ss ++ later) (subst (λ step. Packed ((c + 1) % 16) xs step.rest (step.sections ++ later)) is more))
packed-step c xs rest ss later false e all more =
    let is = step-begins rest ss e in
    subst (λ step. Packed c (step.load ∷ xs) rest (ss ++ later)) (sym is) (packed-begins c xs rest ss later (not_alone rest ss e) all (subst (λ step. Packed ((c + 1) % 16) xs step.rest (step.sections ++ later)) is more))

pub valid_left : (rest : List ℕ) (ss : List (List ℕ)) → AllByRecursion (λ s. IsSection s) ss → AllByRecursion (λ s. IsSection s) (next_step rest ss).sections
valid_left rest ss all = all_back (begun_by rest ss) (next_step rest ss).sections (subst (AllByRecursion (λ s. IsSection s)) (step-sections rest ss (goes_on_alone rest ss) refl) all)
