-- Loops of descriptors: one descriptor more, the end, and a descriptor that is cut.
use Rattle.std.proofs.Common.{◌≡◌, ℕ, zero, suc, ◌+◌, ◌<◌, ◌≤◌, Bool, true, false, List, [], ◌∷◌, ◌++◌, length, get_or, take, drop, refl, sym, ap, ◌∙◌, subst, arith, append-nil, append_assoc, length-append}
use Rattle.std.specs.Prelude.{slice_index, Result, Ok, Err, nat_lt, if◌then◌else◌, All}
use Rattle.std.proofs.Math.Seq.{take-add, take-append_seam, drop-append_seam}
use Rattle.std.proofs.lemmas.Bool.{ltb-true, ltb-false, lt-ltb, le-ltb}
use Rattle.std.proofs.lemmas.List.{length-drop, length-take-le, take-append-drop, drop-drop, take_more}
use Rattle.std.proofs.lemmas.List.Elements.{All-push}
use Rattle.std.proofs.lemmas.Grind.{flat_map-append}
use Rattle.ts_bits.specs.DescriptorLoop.{behind_first, descriptors_from, descriptors_of, IsCutAt}
use Rattle.ts_bits.specs.TaggedBody.{TaggedBody, IsDescriptor, descriptor_bytes, loop_bytes}

-- descriptors before those that are read after them
abbrev pub with_front : List TaggedBody → Result (List TaggedBody) ℕ → Result (List TaggedBody) ℕ
with_front front (Ok more) = Ok (front ++ more)
with_front front (Err offset) = Err offset

front_more : (front : List TaggedBody) (d : TaggedBody) (read : Result (List TaggedBody) ℕ) → with_front front (behind_first d read) ≡ with_front (front ++ d ∷ []) read
front_more front d (Ok more) = ap Ok (sym (append_assoc front (d ∷ []) more))
front_more front d (Err offset) = refl

-- a property of a choice, by its cases
if_by : {C : Type 0} (P : C → Type 0) (b c : Bool) (x y : C) → c ≡ b → (c ≡ true → P x) → (c ≡ false → P y) → P (if b then x else y)
if_by P true c x y is good other = good is
if_by P false c x y is good other = other is

-- more turns than bytes change nothing
same_turns : (m n offset : ℕ) (row : List ℕ) → length row ≤ m → length row ≤ n → descriptors_from m offset row ≡ descriptors_from n offset row
unfolding descriptors_from
same_turns m n offset [] long wide = refl
same_turns m n offset (tag ∷ []) long wide = refl
same_turns zero n offset (tag ∷ size ∷ rest) long wide = absurd (omega arith)
same_turns (suc m) zero offset (tag ∷ size ∷ rest) long wide = absurd (omega arith)
same_turns (suc m) (suc n) offset (tag ∷ size ∷ rest) long wide =
    let fewer : length (drop size rest) ≤ length rest = omega (arith, length-drop size rest) in
    ap (λ r. if nat_lt (length rest) size then Err offset else behind_first (record { tag = tag; body = take size rest }) r)
    (same_turns m n (offset + (2 + size)) (drop size rest) (omega arith) (omega arith))

first_whole : (front : List TaggedBody) (offset tag size : ℕ) (rest : List ℕ) → size ≤ length rest
    → with_front front (descriptors_from (length (tag ∷ size ∷ rest)) offset (tag ∷ size ∷ rest))
    ≡ with_front (front ++ record { tag = tag; body = take size rest } ∷ []) (descriptors_from (length (drop size rest)) (offset + (2 + size)) (drop size rest))
unfolding descriptors_from
first_whole front offset tag size rest whole =
    let fewer : length (drop size rest) ≤ suc (length rest) = omega (arith, length-drop size rest) in
    let least : length (drop size rest) ≤ length (drop size rest) = omega arith in
    rw (le-ltb (length rest) size whole)
    (front_more front (record { tag = tag; body = take size rest }) (descriptors_from (suc (length rest)) (offset + (2 + size)) (drop size rest))
    ∙ ap (with_front (front ++ record { tag = tag; body = take size rest } ∷ [])) (same_turns (suc (length rest)) (length (drop size rest)) (offset + (2 + size)) (drop size rest) fewer least))

-- one descriptor was read, as the code reads it
pub goes_on : (front : List TaggedBody) (d : TaggedBody) (offset : ℕ) (rest body : List ℕ) (whole : Result (List TaggedBody) ℕ) → 2 + slice_index rest 1 ≤ length rest → body ≡ take (slice_index rest 1) (drop 2 rest)
    → d ≡ record { tag = slice_index rest 0; body = body } → with_front front (descriptors_from (length rest) offset rest) ≡ whole
    → with_front (front ++ d ∷ []) (descriptors_from (length (drop (2 + length body) rest)) (offset + (2 + length body)) (drop (2 + length body) rest)) ≡ whole
goes_on front d offset [] body whole within first is so_far = absurd (omega arith)
goes_on front d offset (tag ∷ []) body whole within first is so_far = absurd (omega arith)
goes_on front d offset (tag ∷ size ∷ rest) body whole within first is so_far =
    let fits : size ≤ length rest = omega arith in
    let many : length body ≡ size = ap length first ∙ length-take-le size rest fits in
    let with_tag : List ℕ → TaggedBody = λ b. record { tag = tag; body = b } in
    let two : 2 + size ≡ suc (suc size) = omega arith in
    rw (many, two) (ap (λ x. with_front (front ++ x ∷ []) (descriptors_from (length (drop size rest)) (offset + suc (suc size)) (drop size rest))) (is ∙ ap with_tag first)
    ∙ ap (λ n. with_front (front ++ with_tag (take size rest) ∷ []) (descriptors_from (length (drop size rest)) (offset + n) (drop size rest))) (sym two)
    ∙ sym (first_whole front offset tag size rest fits) ∙ so_far)

-- the same, with the bytes that are left as a part of the whole row
pub goes_on_at : (front after : List TaggedBody) (d : TaggedBody) (offset : ℕ) (from rest body : List ℕ) (whole : Result (List TaggedBody) ℕ) → rest ≡ drop offset from → after ≡ front ++ d ∷ [] → 2 + slice_index rest 1 ≤ length rest
    → body ≡ take (slice_index rest 1) (drop 2 rest) → d ≡ record { tag = slice_index rest 0; body = body } → with_front front (descriptors_from (length (drop offset from)) offset (drop offset from)) ≡ whole
    → with_front after (descriptors_from (length (drop (offset + (2 + length body)) from)) (offset + (2 + length body)) (drop (offset + (2 + length body)) from)) ≡ whole
goes_on_at front after d offset from rest body whole part after_is within first is so_far =
    let next : drop (2 + length body) rest ≡ drop (offset + (2 + length body)) from = ap (drop (2 + length body)) part ∙ drop-drop (2 + length body) offset from in
    let here : with_front front (descriptors_from (length rest) offset rest) ≡ whole = ap (λ r. with_front front (descriptors_from (length r) offset r)) part ∙ so_far in
    rw (after_is, ← next) (goes_on front d offset rest body whole within first is here)

-- a descriptor is cut
pub stops : (front : List TaggedBody) (offset : ℕ) (rest : List ℕ) (whole : Result (List TaggedBody) ℕ) → 0 < length rest → length rest < 2 + slice_index rest 1 → with_front front (descriptors_from (length rest) offset rest) ≡ whole → whole ≡ Err offset
unfolding descriptors_from
stops front offset [] whole some cut so_far = absurd (omega arith)
stops front offset (tag ∷ []) whole some cut so_far = sym so_far
stops front offset (tag ∷ size ∷ rest) whole some cut so_far = let e = rw (lt-ltb (length rest) size (omega arith)) at so_far in sym e

-- all is read
pub all_read : (front : List TaggedBody) (offset : ℕ) (rest : List ℕ) (whole : Result (List TaggedBody) ℕ) → length rest ≡ 0 → with_front front (descriptors_from (length rest) offset rest) ≡ whole → whole ≡ Ok front
unfolding descriptors_from
all_read front offset [] whole none so_far = sym so_far ∙ ap Ok (append-nil front)
all_read front offset (x ∷ rest) whole none so_far = absurd (omega arith)

one_more : (ds : List TaggedBody) (i : ℕ) (d : TaggedBody) → i < length ds → d ≡ get_or ds i d → take i ds ++ d ∷ [] ≡ take (i + 1) ds
one_more ds i d inside same = ap (λ x. take i ds ++ x ∷ []) same ∙ sym (take_more ds i d inside)

-- one descriptor more was written
pub written_more : (ds : List TaggedBody) (i : ℕ) (d : TaggedBody) (bytes new : List ℕ) → i < length ds → d ≡ get_or ds i d → bytes ≡ loop_bytes (take i ds) → new ≡ bytes ++ descriptor_bytes d → new ≡ loop_bytes (take (i + 1) ds)
written_more ds i d bytes new inside same so_far is =
    is ∙ ap (λ l. l ++ descriptor_bytes d) so_far
    ∙ ap (λ l. loop_bytes (take i ds) ++ l) (sym (append-nil (descriptor_bytes d)))
    ∙ sym (flat_map-append descriptor_bytes (take i ds) (d ∷ []))
    ∙ ap loop_bytes (one_more ds i d inside same)

-- one descriptor more fits
pub fit_more : (ds : List TaggedBody) (i : ℕ) (d : TaggedBody) → i < length ds → d ≡ get_or ds i d → All (λ d. IsDescriptor d) (take i ds) → IsDescriptor d → All (λ d. IsDescriptor d) (take (i + 1) ds)
fit_more ds i d inside same so_far fits =
    subst (All (λ d. IsDescriptor d)) (one_more ds i d inside same) (All-push (λ d. IsDescriptor d) (take i ds) d so_far fits)

-- what was written is read again
written_from : (most offset : ℕ) (ds : List TaggedBody) → length (loop_bytes ds) ≤ most → descriptors_from most offset (loop_bytes ds) ≡ Ok ds
unfolding descriptors_from
written_from most offset [] long = refl
written_from zero offset (d ∷ ds) long = absurd (omega arith)
written_from (suc most) offset (d ∷ ds) long =
    let rest : List ℕ = d.body ++ loop_bytes ds in
    let sizes : length rest ≡ length d.body + length (loop_bytes ds) = length-append d.body (loop_bytes ds) in
    let whole : nat_lt (length rest) (length d.body) ≡ false = le-ltb (length rest) (length d.body) (omega arith) in
    rw (whole, take-append_seam d.body (loop_bytes ds), drop-append_seam d.body (loop_bytes ds))
    (ap (behind_first d) (written_from most (offset + (2 + length d.body)) ds (omega arith)))

pub written_again : (ds : List TaggedBody) → descriptors_of (loop_bytes ds) ≡ Ok ds
written_again ds = let least : length (loop_bytes ds) ≤ length (loop_bytes ds) = omega arith in written_from (length (loop_bytes ds)) 0 ds least

after_ok : (d : TaggedBody) (read : Result (List TaggedBody) ℕ) (ds : List TaggedBody) → behind_first d read ≡ Ok ds → (more : List TaggedBody) × (read ≡ Ok more) × (ds ≡ d ∷ more)
after_ok d (Ok more) ds is = (more, refl, let e : ds ≡ d ∷ more = cc in e)
after_ok d (Err offset) ds is = cc

after_err : (d : TaggedBody) (read : Result (List TaggedBody) ℕ) (offset : ℕ) → behind_first d read ≡ Err offset → read ≡ Err offset
after_err d (Ok more) offset is = cc
after_err d (Err place) offset is = is

-- what is read was written so
whole_from : (most offset : ℕ) (row : List ℕ) (ds : List TaggedBody) → descriptors_from most offset row ≡ Ok ds → loop_bytes ds ≡ row
unfolding descriptors_from
whole_from most offset [] ds is = let none : ds ≡ [] = cc in ap loop_bytes none
whole_from most offset (tag ∷ []) ds is = cc
whole_from zero offset (tag ∷ size ∷ rest) ds is = cc
whole_from (suc most) offset (tag ∷ size ∷ rest) ds is =
    if_by (λ r. r ≡ Ok ds → loop_bytes ds ≡ tag ∷ size ∷ rest) (nat_lt (length rest) size) (nat_lt (length rest) size) (Err offset) _ refl
    (λ cut e. cc)
    (λ fits e.
    let parts = after_ok (record { tag = tag; body = take size rest }) (descriptors_from most (offset + (2 + size)) (drop size rest)) ds e in
    let many : length (take size rest) ≡ size = length-take-le size rest (ltb-false (length rest) size fits) in
    ap loop_bytes parts.2
    ∙ rw many (ap (λ bs. tag ∷ size ∷ (take size rest ++ bs)) (whole_from most (offset + (2 + size)) (drop size rest) parts.0 parts.1)
    ∙ ap (λ bs. tag ∷ size ∷ bs) (take-append-drop size rest)))
    is

pub was_written : (row : List ℕ) (ds : List TaggedBody) → descriptors_of row ≡ Ok ds → loop_bytes ds ≡ row
was_written row ds is = whole_from (length row) 0 row ds is

-- whole descriptors are before one that is cut; `offset` counts from where `row` begins
cut_from : (most start offset : ℕ) (row : List ℕ) → length row ≤ most → descriptors_from most start row ≡ Err offset → (place : ℕ) × (offset ≡ start + place) × IsCutAt row place
unfolding descriptors_from
cut_from most start offset [] long is = cc
cut_from most start offset (tag ∷ []) long is =
    let same : offset ≡ start + 0 = let e : start ≡ offset = cc in omega arith in
    (0, same, record { before = []; whole = refl; begins = omega arith; passes = omega arith })
cut_from zero start offset (tag ∷ size ∷ rest) long is = absurd (omega arith)
cut_from (suc most) start offset (tag ∷ size ∷ rest) long is =
    if_by (λ r. r ≡ Err offset → (place : ℕ) × (offset ≡ start + place) × IsCutAt (tag ∷ size ∷ rest) place) (nat_lt (length rest) size) (nat_lt (length rest) size) (Err start) _ refl
    (λ cut e.
    let same : offset ≡ start + 0 = let f : start ≡ offset = cc in omega arith in
    let passes : length rest < size = ltb-true (length rest) size cut in
    (0, same, record { before = []; whole = refl; begins = omega arith; passes = omega arith }))
    (λ fits e.
    let inner = cut_from most (start + (2 + size)) offset (drop size rest) (omega (arith, length-drop size rest))
    (after_err (record { tag = tag; body = take size rest }) (descriptors_from most (start + (2 + size)) (drop size rest)) offset e) in
    let many : length (take size rest) ≡ size = length-take-le size rest (ltb-false (length rest) size fits) in
    let cut = inner.2 in
    let gone : drop (size + inner.0) rest ≡ drop inner.0 (drop size rest) = sym (drop-drop inner.0 size rest) in (
      suc (suc (size + inner.0)),
      omega (arith, inner.1),
      record {
        before = record { tag = tag; body = take size rest } ∷ cut.before;
        whole = rw many (ap (λ bs. tag ∷ size ∷ (take size rest ++ bs)) cut.whole ∙ ap (λ bs. tag ∷ size ∷ bs) (sym (take-add size inner.0 rest)));
        begins = omega (arith, cut.begins, length-drop size rest);
        passes = subst (λ bs. length bs < 2 + slice_index bs 1) (sym gone) cut.passes;
      },
    ))
    is

pub was_cut : (row : List ℕ) (offset : ℕ) → descriptors_of row ≡ Err offset → IsCutAt row offset
was_cut row offset is =
    let least : length row ≤ length row = omega arith in
    let found = cut_from (length row) 0 offset row least is in
    let same : found.0 ≡ offset = omega (arith, found.1) in
    subst (IsCutAt row) same found.2
