-- Runs and their stretches, taken from the front of a list of parts.
use Rattle.std.proofs.Common.{◌≡◌, ℕ, ◌≤◌, Bool, true, false, List, [], ◌∷◌, ◌++◌, length, take, drop, refl, ◌∙◌, ap}
use Rattle.std.specs.Prelude.{if◌then◌else◌}
use Rattle.std.specs.List.{flat_map}
use Rattle.ts_demux.proofs.Choice.{if_true, if_false}
use Rattle.ts_demux.proofs.Stretching.{lead, lead-plain, lead-unit, stretches-plain, stretches-unit}
use Rattle.ts_demux.specs.Part.{Part, body_of, pointer_of, is_invalid}
use Rattle.ts_demux.specs.ContinuousRuns.{goes_on, with_first, continuous_runs}
use Rattle.ts_demux.specs.Stretches.{stretches}

-- the stretches of a list of parts without repeats
abbrev pub all_stretches : List Part → List (List ℕ)
all_stretches ps = flat_map stretches (continuous_runs ps)

-- the bytes of the first of some runs before its first pointed place
abbrev pub first_lead : List (List Part) → List ℕ
first_lead [] = []
first_lead (run ∷ runs) = lead run

-- the bytes with which a list of parts goes on after a counter, up to the next pointed place
abbrev pub following : ℕ → List Part → List ℕ
following counter ps = if goes_on counter ps then first_lead (continuous_runs ps) else []

first_lead-plain : (p : Part) (runs : List (List Part)) → p.unit_start ≡ false → first_lead (with_first p runs) ≡ body_of p ++ first_lead runs
first_lead-plain p [] e = lead-plain p [] e
first_lead-plain p (run ∷ runs) e = lead-plain p run e

first_lead-unit :
    (p : Part) (runs : List (List Part)) → p.unit_start ≡ true → pointer_of p ≤ length (body_of p) →
    first_lead (with_first p runs) ≡ take (pointer_of p) (body_of p)
first_lead-unit p [] e h = lead-unit p [] e h
first_lead-unit p (run ∷ runs) e h = lead-unit p run e h

stretches_all-plain :
    (p : Part) (runs : List (List Part)) → p.unit_start ≡ false →
    flat_map stretches (with_first p runs) ≡ flat_map stretches runs
stretches_all-plain p [] e = rw (stretches-plain p [] e) refl
stretches_all-plain p (run ∷ runs) e = rw (stretches-plain p run e) refl

stretches_all-unit :
    (p : Part) (runs : List (List Part)) → p.unit_start ≡ true → pointer_of p ≤ length (body_of p) →
    flat_map stretches (with_first p runs) ≡ (drop (pointer_of p) (body_of p) ++ first_lead runs) ∷ flat_map stretches runs
stretches_all-unit p [] e h = rw (stretches-unit p [] e h) refl
stretches_all-unit p (run ∷ runs) e h = rw (stretches-unit p run e h) refl

-- a valid part begins the runs or goes before the first of them
runs-valid :
    (p : Part) (ps : List Part) → is_invalid p ≡ false →
    continuous_runs (p ∷ ps) ≡ (if goes_on p.counter ps then with_first p (continuous_runs ps) else (p ∷ []) ∷ continuous_runs ps)
runs-valid p ps e =
    let runs = continuous_runs ps in
    if_false (is_invalid p) runs (if goes_on p.counter ps then with_first p runs else (p ∷ []) ∷ runs) e

pub all_stretches-invalid : (p : Part) (ps : List Part) → is_invalid p ≡ true → all_stretches (p ∷ ps) ≡ all_stretches ps
all_stretches-invalid p ps e =
    let runs = continuous_runs ps in
    ap (flat_map stretches) (if_true (is_invalid p) runs (if goes_on p.counter ps then with_first p runs else (p ∷ []) ∷ runs) e)

choose_plain : (b : Bool) (p : Part) (runs : List (List Part)) → p.unit_start ≡ false → flat_map stretches (if b then with_first p runs else (p ∷ []) ∷ runs) ≡ flat_map stretches runs
choose_plain true p runs e = stretches_all-plain p runs e
choose_plain false p runs e = rw (stretches-plain p [] e) refl

choose_unit :
    (b : Bool) (p : Part) (runs : List (List Part)) → p.unit_start ≡ true → pointer_of p ≤ length (body_of p) →
    flat_map stretches (if b then with_first p runs else (p ∷ []) ∷ runs) ≡ (drop (pointer_of p) (body_of p) ++ (if b then first_lead runs else [])) ∷ flat_map stretches runs
choose_unit true p runs e h = stretches_all-unit p runs e h
choose_unit false p runs e h = rw (stretches-unit p [] e h) refl

pub all_stretches-plain :
    (p : Part) (ps : List Part) → is_invalid p ≡ false → p.unit_start ≡ false →
    all_stretches (p ∷ ps) ≡ all_stretches ps
all_stretches-plain p ps l e =
    ap (flat_map stretches) (runs-valid p ps l) ∙ choose_plain (goes_on p.counter ps) p (continuous_runs ps) e

pub all_stretches-unit :
    (p : Part) (ps : List Part) → is_invalid p ≡ false → p.unit_start ≡ true → pointer_of p ≤ length (body_of p) →
    all_stretches (p ∷ ps) ≡ (drop (pointer_of p) (body_of p) ++ following p.counter ps) ∷ all_stretches ps
all_stretches-unit p ps l e h =
    ap (flat_map stretches) (runs-valid p ps l) ∙ choose_unit (goes_on p.counter ps) p (continuous_runs ps) e h

lead_choose_plain :
    (b : Bool) (p : Part) (runs : List (List Part)) → p.unit_start ≡ false →
    first_lead (if b then with_first p runs else (p ∷ []) ∷ runs) ≡ body_of p ++ (if b then first_lead runs else [])
lead_choose_plain true p runs e = first_lead-plain p runs e
lead_choose_plain false p runs e = lead-plain p [] e

lead_choose_unit :
    (b : Bool) (p : Part) (runs : List (List Part)) → p.unit_start ≡ true → pointer_of p ≤ length (body_of p) →
    first_lead (if b then with_first p runs else (p ∷ []) ∷ runs) ≡ take (pointer_of p) (body_of p)
lead_choose_unit true p runs e h = first_lead-unit p runs e h
lead_choose_unit false p runs e h = lead-unit p [] e h

-- after a counter that a part without unit start goes on from, its payload comes first
pub following-plain :
    (counter : ℕ) (p : Part) (ps : List Part) →
    goes_on counter (p ∷ ps) ≡ true → is_invalid p ≡ false → p.unit_start ≡ false →
    following counter (p ∷ ps) ≡ body_of p ++ following p.counter ps
following-plain counter p ps g l e =
    if_true (goes_on counter (p ∷ ps)) (first_lead (continuous_runs (p ∷ ps))) [] g
    ∙ ap first_lead (runs-valid p ps l)
    ∙ lead_choose_plain (goes_on p.counter ps) p (continuous_runs ps) e

-- a part with unit start ends what goes on at its pointed place
pub following-unit :
    (counter : ℕ) (p : Part) (ps : List Part) →
    goes_on counter (p ∷ ps) ≡ true → is_invalid p ≡ false → p.unit_start ≡ true → pointer_of p ≤ length (body_of p) →
    following counter (p ∷ ps) ≡ take (pointer_of p) (body_of p)
following-unit counter p ps g l e h =
    if_true (goes_on counter (p ∷ ps)) (first_lead (continuous_runs (p ∷ ps))) [] g
    ∙ ap first_lead (runs-valid p ps l)
    ∙ lead_choose_unit (goes_on p.counter ps) p (continuous_runs ps) e h

-- nothing goes on over a jump or a invalid part
pub following-stops : (counter : ℕ) (ps : List Part) → goes_on counter ps ≡ false → following counter ps ≡ []
following-stops counter ps g = if_false (goes_on counter ps) (first_lead (continuous_runs ps)) [] g
