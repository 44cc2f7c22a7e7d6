-- Sections one after another.
use Rattle.std.proofs.Common.{◌≡◌, ℕ, zero, suc, ◌+◌, ◌<◌, ◌≤◌, List, [], ◌∷◌, ◌++◌, length, take, drop, refl, sym, ap, ◌∙◌, arith, append_assoc, append-nil}
use Rattle.std.specs.Prelude.{Option, Some, None, Result, Ok, Err}
use Rattle.std.proofs.lemmas.List.{drop_all, drop-drop, drop_min, length-drop, length-take, take-append-drop}
use Rattle.std.specs.List.{concat}
use Rattle.ts_section.specs.declared.fault.SectionFault.{SectionFault}
use Rattle.ts_section.specs.FirstBroken.{first_broken}
use Rattle.ts_section.specs.SectionFields.{front_of, section_length_of}
use Rattle.tabcomp_core.specs.declared.fault.DecompileFault.{DecompileFault}
use Rattle.tabcomp_core.specs.declared.fault.DecompileFault.TheVariants as faults
use Rattle.tabcomp_core.specs.Cutting.{CutsAt, CutsFront, FaultAt, before_more, if_valid, sections_from, sections_in}

-- what is cut, after what was cut before
abbrev pub with_front : List (List ℕ) → Result (List (List ℕ)) FaultAt → Result (List (List ℕ)) FaultAt
with_front front (Ok more) = Ok (front ++ more)
with_front front (Err fault) = Err fault

front_some : (b : ℕ) (bs : List ℕ) → 0 < length (front_of (b ∷ bs))
unfolding front_of
front_some b bs = omega (arith, length-take (3 + section_length_of (b ∷ bs)) (b ∷ bs))

-- more turns than bytes change nothing
turns : (most other : ℕ) (offset : ℕ) (l : List ℕ) → length l ≤ most → length l ≤ other
    → sections_from most offset l ≡ sections_from other offset l
unfolding sections_from
turns most other offset [] enough also = refl
turns zero other offset (b ∷ bs) enough also = absurd (omega (arith, enough))
turns (suc most) zero offset (b ∷ bs) enough also = absurd (omega (arith, also))
turns (suc most) (suc other) offset (b ∷ bs) enough also =
    let n = length (front_of (b ∷ bs)) in
    let rest = drop n (b ∷ bs) in
    let size : length rest ≤ length bs = omega (arith, length-drop n (b ∷ bs), front_some b bs) in
    ap (if_valid (first_broken (front_of (b ∷ bs))) offset (front_of (b ∷ bs)))
    (turns most other (offset + n) rest (omega (arith, enough, size)) (omega (arith, also, size)))

front_more : (front : List (List ℕ)) (s : List ℕ) (r : Result (List (List ℕ)) FaultAt)
    → with_front front (before_more s r) ≡ with_front (front ++ s ∷ []) r
front_more front s (Ok more) = ap Ok (sym (append_assoc front (s ∷ []) more))
front_more front s (Err fault) = refl

pub one_more : (l : List ℕ) (offset : ℕ) (front : List (List ℕ)) → 0 < length l → first_broken (front_of l) ≡ None
    → with_front front (sections_from (length l) offset l)
    ≡ with_front (front ++ front_of l ∷ []) (sections_from (length (drop (length (front_of l)) l)) (offset + length (front_of l)) (drop (length (front_of l)) l))
unfolding sections_from
one_more [] offset front some whole = absurd (omega (arith, some))
one_more (b ∷ bs) offset front some whole =
    let n = length (front_of (b ∷ bs)) in
    let rest = drop n (b ∷ bs) in
    let size : length rest ≤ length bs = omega (arith, length-drop n (b ∷ bs), front_some b bs) in
    rw whole (front_more front (front_of (b ∷ bs)) (sections_from (length bs) (offset + n) rest)
    ∙ ap (with_front (front ++ front_of (b ∷ bs) ∷ [])) (turns (length bs) (length rest) (offset + n) rest size (omega arith)))

one_stops : (l : List ℕ) (offset : ℕ) (front : List (List ℕ)) (fault : SectionFault) → 0 < length l
    → first_broken (front_of l) ≡ Some fault
    → with_front front (sections_from (length l) offset l) ≡ Err (record { offset = offset; fault = fault })
unfolding sections_from
one_stops [] offset front fault some is = absurd (omega (arith, some))
one_stops (b ∷ bs) offset front fault some is = rw is refl

pub cut_goes_on : (bytes : List ℕ) (offset : ℕ) (s : List ℕ) (front : List (List ℕ)) (whole : Result (List (List ℕ)) FaultAt)
    → offset < length bytes → first_broken (front_of (drop offset bytes)) ≡ None → s ≡ front_of (drop offset bytes)
    → with_front front (sections_from (length (drop offset bytes)) offset (drop offset bytes)) ≡ whole
    → with_front (front ++ s ∷ []) (sections_from (length (drop (offset + length s) bytes)) (offset + length s) (drop (offset + length s) bytes)) ≡ whole
cut_goes_on bytes offset s front whole inside valid same so_far =
    let l = drop offset bytes in
    let some : 0 < length l = omega (arith, length-drop offset bytes, inside) in
    let at : drop (offset + length s) bytes ≡ drop (length (front_of l)) l =
    ap (λ n. drop (offset + n) bytes) (ap length same) ∙ sym (drop-drop (length (front_of l)) offset bytes) in
    ap (λ x. with_front (front ++ s ∷ []) (sections_from (length x) (offset + length s) x)) at
    ∙ ap (λ x. with_front (front ++ x ∷ []) (sections_from (length (drop (length (front_of l)) l)) (offset + length x) (drop (length (front_of l)) l))) same
    ∙ sym (one_more l offset front some valid) ∙ so_far

pub cut_stops : (bytes : List ℕ) (offset : ℕ) (front : List (List ℕ)) (fault : SectionFault) (whole : Result (List (List ℕ)) FaultAt)
    → offset < length bytes → first_broken (front_of (drop offset bytes)) ≡ Some fault
    → with_front front (sections_from (length (drop offset bytes)) offset (drop offset bytes)) ≡ whole
    → whole ≡ Err (record { offset = offset; fault = fault })
cut_stops bytes offset front fault whole inside is so_far =
    sym so_far ∙ one_stops (drop offset bytes) offset front fault (omega (arith, length-drop offset bytes, inside)) is

pub cut_done : (bytes : List ℕ) (offset : ℕ) (front : List (List ℕ)) (whole : Result (List (List ℕ)) FaultAt)
    → length bytes ≤ offset
    → with_front front (sections_from (length (drop offset bytes)) offset (drop offset bytes)) ≡ whole → whole ≡ Ok front
unfolding sections_from
cut_done bytes offset front whole all so_far =
    sym so_far ∙ ap (λ l. with_front front (sections_from (length l) offset l)) (drop_all offset bytes all) ∙ ap Ok (append-nil front)

-- nothing was cut before
pub cut_begin : (r : Result (List (List ℕ)) FaultAt) → with_front [] r ≡ r
cut_begin (Ok more) = refl
cut_begin (Err fault) = refl

pub front_size : (l : List ℕ) → length (front_of l) ≤ length l
unfolding front_of
front_size l = omega (arith, length-take (3 + section_length_of l) l)

pub cut_refused : (bytes : List ℕ) (offset : ℕ) (front : List (List ℕ)) (fault : DecompileFault) (whole : Result (List (List ℕ)) FaultAt)
    → offset < length bytes → CutsFront offset (drop offset bytes) {X = List ℕ} (λ s. s) (Err fault)
    → with_front front (sections_from (length (drop offset bytes)) offset (drop offset bytes)) ≡ whole
    → CutsAt fault whole
cut_refused bytes offset front (faults.Section at broken) whole inside is so_far =
    cut_stops bytes offset front broken whole inside is.1 so_far ∙ ap (λ n. Err (record { offset = n; fault = broken })) (sym is.0)
cut_refused bytes offset front (faults.Sequence at) whole inside is so_far = absurd is
cut_refused bytes offset front faults.NoMemory whole inside is so_far = tt

-- ---- sections joined are the bytes

front_joined : (l : List ℕ) → front_of l ++ drop (length (front_of l)) l ≡ l
unfolding front_of
front_joined l =
    let m : ℕ = 3 + section_length_of l in
    ap (λ n. take m l ++ drop n l) (length-take m l) ∙ ap (λ x. take m l ++ x) (drop_min m l) ∙ take-append-drop m l

joined_if : (o : Option SectionFault) (offset : ℕ) (s rest l : List ℕ) (r : Result (List (List ℕ)) FaultAt) (ss : List (List ℕ))
    → s ++ rest ≡ l → ((more : List (List ℕ)) → r ≡ Ok more → concat more ≡ rest) → if_valid o offset s r ≡ Ok ss → concat ss ≡ l
joined_if (Some fault) offset s rest l r ss same behind is = cc is
joined_if None offset s rest l (Ok more) ss same behind is =
    let all : s ∷ more ≡ ss = cc is in
    sym (ap concat all) ∙ ap (λ x. s ++ x) (behind more refl) ∙ same
joined_if None offset s rest l (Err fault) ss same behind is = cc is

cut_joined : (most offset : ℕ) (l : List ℕ) (ss : List (List ℕ)) → length l ≤ most → sections_from most offset l ≡ Ok ss → concat ss ≡ l
unfolding sections_from
cut_joined most offset [] ss enough is = let none : [] ≡ ss = cc is in sym (ap concat none)
cut_joined zero offset (b ∷ bs) ss enough is = absurd (omega (arith, enough))
cut_joined (suc most) offset (b ∷ bs) ss enough is =
    let n = length (front_of (b ∷ bs)) in
    let rest = drop n (b ∷ bs) in
    let size : length rest ≤ length bs = omega (arith, length-drop n (b ∷ bs), front_some b bs) in
    joined_if (first_broken (front_of (b ∷ bs))) offset (front_of (b ∷ bs)) rest (b ∷ bs) (sections_from most (offset + n) rest) ss
    (front_joined (b ∷ bs)) (λ more. cut_joined most (offset + n) rest more (omega (arith, enough, size))) is

pub sections_joined : (bytes : List ℕ) (ss : List (List ℕ)) → sections_in bytes ≡ Ok ss → concat ss ≡ bytes
sections_joined bytes ss is = cut_joined (length bytes) 0 bytes ss (omega arith) is
