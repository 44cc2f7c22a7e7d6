-- Stretches taken from the front of a run.
use Rattle.std.proofs.Common.{◌≡◌, ℕ, ◌+◌, ◌-◌, ◌≤◌, Bool, true, false, List, [], ◌∷◌, ◌++◌, length, take, drop, map, refl, ◌∙◌, ap, arith, length-append, add_assoc, length-drop}
use Rattle.std.proofs.lemmas.List.{drop-append-le, take-append-le}
use Rattle.std.proofs.Math.Seq.{drop-append-add, take-append-add}
use Rattle.std.specs.Prelude.{if◌then◌else◌}
use Rattle.std.specs.List.{slice_range}
use Rattle.ts_demux.proofs.Choice.{if_true, if_false}
use Rattle.ts_demux.specs.Part.{Part, body_of, pointer_of}
use Rattle.ts_demux.specs.Stretches.{joined, pointed_places, first_or, ranges, stretches}

-- places counted from further on
places_if : (v : Bool) (k m : ℕ) (a b : List ℕ) → a ≡ map (λ i. k + i) b → (if v then (k + m) ∷ a else a) ≡ map (λ i. k + i) (if v then m ∷ b else b)
places_if true k m a b e = ap (λ t. (k + m) ∷ t) e
places_if false k m a b e = e

pub pointed_places-add : (k n : ℕ) (ps : List Part) → pointed_places (k + n) ps ≡ map (λ i. k + i) (pointed_places n ps)
pointed_places-add k n [] = refl
pointed_places-add k n (p ∷ ps) =
    rw (add_assoc k n (pointer_of p), add_assoc k n (length (body_of p))) (places_if p.unit_start k (n + pointer_of p) (pointed_places (k + (n + length (body_of p))) ps) (pointed_places (n + length (body_of p)) ps) (pointed_places-add k (n + length (body_of p)) ps))

-- counted from the end of a first row
places_after : (x : List ℕ) (ps : List Part) → pointed_places (0 + length x) ps ≡ map (λ i. length x + i) (pointed_places 0 ps)
places_after x ps =
    let e : 0 + length x ≡ length x + 0 = omega arith in
    rw e (pointed_places-add (length x) 0 ps)

first_or-map : (k : ℕ) (places : List ℕ) (end : ℕ) → first_or (map (λ i. k + i) places) (k + end) ≡ k + first_or places end
first_or-map k [] end = refl
first_or-map k (a ∷ places) end = refl

slice_range-behind : (x b : List ℕ) (from to : ℕ) → slice_range (x ++ b) (length x + from) (length x + to) ≡ slice_range b from to
slice_range-behind x b from to =
    let e : length x + to - (length x + from) ≡ to - from = omega arith in
    rw (e, drop-append-add x b from) refl

-- places after a first row are places in the rest
pub ranges-map :
    (x b : List ℕ) (places : List ℕ) →
    ranges (x ++ b) (map (λ i. length x + i) places) ≡ ranges b places
ranges-map x b [] = refl
ranges-map x b (a ∷ places) =
    let e = first_or-map (length x) places (length b) in
    rw (length-append x b, e, slice_range-behind x b a (first_or places (length b)), ranges-map x b places) refl

-- the pointed places of a run whose first part has none
places-plain :
    (p : Part) (ps : List Part) → p.unit_start ≡ false →
    pointed_places 0 (p ∷ ps) ≡ map (λ i. length (body_of p) + i) (pointed_places 0 ps)
places-plain p ps e =
    let places = pointed_places (0 + length (body_of p)) ps in
    if_false p.unit_start ((0 + pointer_of p) ∷ places) places e ∙ places_after (body_of p) ps

-- the pointed places of a run whose first part has one
places-unit :
    (p : Part) (ps : List Part) → p.unit_start ≡ true →
    pointed_places 0 (p ∷ ps) ≡ pointer_of p ∷ map (λ i. length (body_of p) + i) (pointed_places 0 ps)
places-unit p ps e =
    let places = pointed_places (0 + length (body_of p)) ps in
    let z : 0 + pointer_of p ≡ pointer_of p = omega arith in
    if_true p.unit_start ((0 + pointer_of p) ∷ places) places e ∙ rw (z, places_after (body_of p) ps) refl

-- the stretches of a run after a part with no pointed place
pub stretches-plain : (p : Part) (ps : List Part) → p.unit_start ≡ false → stretches (p ∷ ps) ≡ stretches ps
stretches-plain p ps e =
    ap (ranges (joined (p ∷ ps))) (places-plain p ps e) ∙ ranges-map (body_of p) (joined ps) (pointed_places 0 ps)

-- the bytes of a run before its first pointed place
abbrev pub lead : List Part → List ℕ
lead ps = take (first_or (pointed_places 0 ps) (length (joined ps))) (joined ps)

pub lead-plain : (p : Part) (ps : List Part) → p.unit_start ≡ false → lead (p ∷ ps) ≡ body_of p ++ lead ps
lead-plain p ps e =
    let body = body_of p in
    let places = pointed_places 0 ps in
    let f : first_or (pointed_places 0 (p ∷ ps)) (length (joined (p ∷ ps))) ≡ length body + first_or places (length (joined ps)) =
    rw (places-plain p ps e, length-append body (joined ps)) (first_or-map (length body) places (length (joined ps))) in
    ap (λ n. take n (joined (p ∷ ps))) f ∙ take-append-add body (joined ps) (first_or places (length (joined ps)))

pub lead-unit :
    (p : Part) (ps : List Part) → p.unit_start ≡ true → pointer_of p ≤ length (body_of p) →
    lead (p ∷ ps) ≡ take (pointer_of p) (body_of p)
lead-unit p ps e h =
    ap (λ places. take (first_or places (length (joined (p ∷ ps)))) (joined (p ∷ ps))) (places-unit p ps e) ∙ take-append-le (pointer_of p) (body_of p) (joined ps) h

slice_range-across :
    (x b : List ℕ) (from to : ℕ) → from ≤ length x →
    slice_range (x ++ b) from (length x + to) ≡ drop from x ++ take to b
slice_range-across x b from to h =
    let e : length x + to - from ≡ length (drop from x) + to = omega (arith, length-drop from x) in
    rw (drop-append-le from x b h, e) (take-append-add (drop from x) b to)

pub stretches-unit :
    (p : Part) (ps : List Part) → p.unit_start ≡ true → pointer_of p ≤ length (body_of p) →
    stretches (p ∷ ps) ≡ (drop (pointer_of p) (body_of p) ++ lead ps) ∷ stretches ps
stretches-unit p ps e h =
    let body = body_of p in
    let rest = joined ps in
    let places = pointed_places 0 ps in
    let behind = map (λ i. length body + i) places in
    let a : first_or behind (length (body ++ rest)) ≡ length body + first_or places (length rest) =
    rw (length-append body rest) (first_or-map (length body) places (length rest)) in
    let b : slice_range (body ++ rest) (pointer_of p) (first_or behind (length (body ++ rest))) ≡ drop (pointer_of p) body ++ lead ps =
    rw a (slice_range-across body rest (pointer_of p) (first_or places (length rest)) h) in
    ap (ranges (joined (p ∷ ps))) (places-unit p ps e) ∙ rw (b, ranges-map body rest places) refl
