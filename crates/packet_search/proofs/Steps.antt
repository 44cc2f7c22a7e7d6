-- The steps of the search.
use Rattle.std.proofs.Common.{◌≡◌, ℕ, zero, suc, ◌+◌, ◌<◌, ◌≤◌, ◌*◌, Bool, true, false, if◌then◌else◌, List, [], ◌∷◌, ◌++◌, length, take, drop, refl, ap, ◌∙◌, arith, append_assoc, length-drop}
use Rattle.std.proofs.lemmas.List.{drop-append-le, take-append-le}
use Rattle.packet_forms.specs.declared.forms.Form.{Form}
use Rattle.packet_forms.specs.Stripped.{lead, unit}
use Rattle.packet_search.specs.Rule.{gives, stays, past}
use Rattle.packet_search.specs.Search.{Found, Searched, with_found, found_here, left_after, search_from}
use Rattle.packet_search.proofs.Units.{unit-holds, stays-given, past-true, gives-more, past-more}

-- others that are found before, in two parts
pub with-both : (first second : List Found) (rest : Searched) → with_found (first ++ second) rest ≡ with_found first (with_found second rest)
with-both first second rest =
    ap (λ (l : List Found). let s : Searched = record { found = l; behind = rest.behind } in s) (append_assoc first second rest.found)

-- what is past is dropped
past-dropped : (form : Form) (n : ℕ) (near : Bool) (left : ℕ) (bytes : List ℕ) → search_from form n near left bytes ≡ search_from form 0 near left (drop n bytes)
unfolding search_from
past-dropped form zero near left bytes = refl
past-dropped form (suc n) near left [] = refl
past-dropped form (suc n) near left (x ∷ bytes) = past-dropped form n near left bytes

-- a step at any bytes but none
step : (form : Form) (near : Bool) (left : ℕ) (bytes : List ℕ) → 0 < length bytes
    → search_from form 0 near left bytes
    ≡ with_found (found_here form near left bytes) (search_from form 0 (stays form near bytes) (left_after form near left bytes) (drop (suc (past form near bytes)) bytes))
unfolding search_from
step form near left [] some = absurd (omega arith)
step form near left (x ∷ bytes) some =
    ap (with_found (found_here form near left (x ∷ bytes)))
    (past-dropped form (past form near (x ∷ bytes)) (stays form near (x ∷ bytes)) (left_after form near left (x ∷ bytes)) bytes)

-- a step where no packet is
pub step-none : (form : Form) (near : Bool) (left : ℕ) (bytes : List ℕ) → 0 < length bytes → gives form near bytes ≡ false
    → search_from form 0 near left bytes ≡ search_from form 0 (stays form near bytes) (left + suc (past form near bytes)) (drop (suc (past form near bytes)) bytes)
unfolding found_here left_after
step-none form near left bytes some none =
    let n : ℕ = suc (past form near bytes) in
    step form near left bytes some
    ∙ ap (λ (t : Bool). with_found (if t then record { left_out = left; packet = take 188 (drop (lead form) bytes) } ∷ [] else [])
    (search_from form 0 (stays form near bytes) (if t then 0 else left + n) (drop n bytes))) none

-- a step where one is
pub step-given : (form : Form) (near : Bool) (left : ℕ) (bytes : List ℕ) → 0 < length bytes → gives form near bytes ≡ true
    → search_from form 0 near left bytes
    ≡ with_found (record { left_out = left; packet = take 188 (drop (lead form) bytes) } ∷ []) (search_from form 0 true 0 (drop (unit form) bytes))
unfolding found_here left_after
step-given form near left bytes some is =
    let stay : stays form near bytes ≡ true = stays-given form near bytes is in
    let here : List Found = record { left_out = left; packet = take 188 (drop (lead form) bytes) } ∷ [] in
    let n : ℕ = suc (past form near bytes) in
    step form near left bytes some
    ∙ ap (λ (t : Bool). with_found (if t then here else [])
    (search_from form 0 (stays form near bytes) (if t then 0 else left + n) (drop n bytes))) is
    ∙ ap (λ (b : Bool). with_found here (search_from form 0 b 0 (drop n bytes))) stay
    ∙ ap (λ (k : ℕ). with_found here (search_from form 0 true 0 (drop k bytes))) (past-true form near bytes stay)

-- six units decide a step, whatever follows
pub here-more : (form : Form) (near : Bool) (left : ℕ) (bytes more : List ℕ) → 6 * unit form ≤ length bytes → found_here form near left (bytes ++ more) ≡ found_here form near left bytes
unfolding found_here
here-more form near left bytes more long =
    let l : ℕ = lead form in
    let one : l ≤ length bytes = omega (arith, unit-holds form) in
    let rest : 188 ≤ length (drop l bytes) = omega (arith, length-drop l bytes, unit-holds form) in
    ap (λ (b : Bool). let f : List Found = if b then record { left_out = left; packet = take 188 (drop l (bytes ++ more)) } ∷ [] else [] in f) (gives-more form near bytes more long)
    ∙ ap (λ (p : List ℕ). let f : List Found = if gives form near bytes then record { left_out = left; packet = p } ∷ [] else [] in f)
    (ap (take 188) (drop-append-le l bytes more one) ∙ take-append-le 188 (drop l bytes) more rest)

pub after-more : (form : Form) (near : Bool) (left : ℕ) (bytes more : List ℕ) → 6 * unit form ≤ length bytes → left_after form near left (bytes ++ more) ≡ left_after form near left bytes
unfolding left_after
after-more form near left bytes more long =
    ap (λ (b : Bool). if b then 0 else left + suc (past form near (bytes ++ more))) (gives-more form near bytes more long)
    ∙ ap (λ (n : ℕ). if gives form near bytes then 0 else left + suc n) (past-more form near bytes more long)
