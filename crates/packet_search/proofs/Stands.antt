-- Packets that are found stand in the bytes.
use Rattle.std.proofs.Common.{◌≡◌, ℕ, zero, suc, ◌+◌, ◌<◌, ◌≤◌, Bool, true, false, if◌then◌else◌, List, [], ◌∷◌, ◌++◌, length, take, drop, refl, ap, sym, ◌∙◌, subst, arith, append_assoc, length-append, length-take-le}
use Rattle.std.proofs.lemmas.List.{take-append-drop, drop-drop, drop_at}
use Rattle.packet_forms.specs.declared.forms.Form.{Form}
use Rattle.packet_forms.specs.Stripped.{lead, unit}
use Rattle.packet_search.specs.Rule.{is_whole, gives, stays, past}
use Rattle.packet_search.specs.Search.{Found, Searched, found_here, left_after, search_from}
use Rattle.packet_search.specs.Standing.{StandIn}
use Rattle.packet_search.proofs.Units.{gives-whole, stays-given, past-true, past-fits}

pub here-true : (form : Form) (near : Bool) (left : ℕ) (bytes : List ℕ) → gives form near bytes ≡ true
    → found_here form near left bytes ≡ record { left_out = left; packet = take 188 (drop (lead form) bytes) } ∷ []
unfolding found_here
here-true form near left bytes is =
    ap (λ (b : Bool). let f : List Found = if b then record { left_out = left; packet = take 188 (drop (lead form) bytes) } ∷ [] else [] in f) is

pub here-false : (form : Form) (near : Bool) (left : ℕ) (bytes : List ℕ) → gives form near bytes ≡ false → found_here form near left bytes ≡ []
unfolding found_here
here-false form near left bytes is =
    ap (λ (b : Bool). let f : List Found = if b then record { left_out = left; packet = take 188 (drop (lead form) bytes) } ∷ [] else [] in f) is

pub after-true : (form : Form) (near : Bool) (left : ℕ) (bytes : List ℕ) → gives form near bytes ≡ true → left_after form near left bytes ≡ 0
unfolding left_after
after-true form near left bytes is = ap (λ (b : Bool). if b then 0 else left + suc (past form near bytes)) is

pub after-false : (form : Form) (near : Bool) (left : ℕ) (bytes : List ℕ) → gives form near bytes ≡ false → left_after form near left bytes ≡ left + suc (past form near bytes)
unfolding left_after
after-false form near left bytes is = ap (λ (b : Bool). if b then 0 else left + suc (past form near bytes)) is

-- one step, after bytes that are left out before
stand-step : (form : Form) (near : Bool) (left x : ℕ) (front bytes : List ℕ) (rest : Searched) (b : Bool) → gives form near (x ∷ bytes) ≡ b → length front ≡ left
    → ((out : List ℕ) → length out ≡ left_after form near left (x ∷ bytes) → StandIn form rest.found rest.behind (out ++ drop (past form near (x ∷ bytes)) bytes))
    → StandIn form (found_here form near left (x ∷ bytes) ++ rest.found) rest.behind (front ++ (x ∷ bytes))
stand-step form near left x front bytes rest false is long later =
    let X : List ℕ = x ∷ bytes in
    let n : ℕ = suc (past form near X) in
    let some : 0 < length X = omega arith in
    let fits : n ≤ length X = past-fits form near X some is in
    let out : List ℕ = front ++ take n X in
    let size : length out ≡ left + n = omega (arith, length-append front (take n X), length-take-le n X fits) in
    let all : out ++ drop n X ≡ front ++ X = append_assoc front (take n X) (drop n X) ∙ ap (λ (l : List ℕ). front ++ l) (take-append-drop n X) in
    subst (λ (l : List Found). StandIn form (l ++ rest.found) rest.behind (front ++ X)) (sym (here-false form near left X is))
    (subst (StandIn form rest.found rest.behind) all (later out (size ∙ sym (after-false form near left X is))))
stand-step form near left x front bytes rest true is long later =
    let X : List ℕ = x ∷ bytes in
    let there : drop left (front ++ X) ≡ X = drop_at front X left long in
    let next : suc (past form near X) ≡ unit form = past-true form near X (stays-given form near X is) in
    let behind : drop (suc (past form near X)) X ≡ drop (left + unit form) (front ++ X) =
    ap (λ (n : ℕ). drop n X) next ∙ sym (sym (drop-drop (unit form) left (front ++ X)) ∙ ap (drop (unit form)) there) in
    subst (λ (l : List Found). StandIn form (l ++ rest.found) rest.behind (front ++ X)) (sym (here-true form near left X is)) (
      ap (is_whole form) there ∙ gives-whole form near X is,
      ap (λ (l : List ℕ). take 188 (drop (lead form) l)) (sym there),
      subst (StandIn form rest.found rest.behind) behind (later [] (sym (after-true form near left X is))),
    )

-- what is found in bytes after others that are left out stands in both
pub stand : (form : Form) (skip : ℕ) (near : Bool) (left : ℕ) (front bytes : List ℕ) → length front ≡ left
    → StandIn form (search_from form skip near left bytes).found (search_from form skip near left bytes).behind (front ++ drop skip bytes)
unfolding search_from
stand form zero near left front [] long = length-append front [] ∙ (let none : length front + 0 ≡ left = omega arith in none)
stand form (suc n) near left front [] long = length-append front [] ∙ (let none : length front + 0 ≡ left = omega arith in none)
stand form (suc n) near left front (x ∷ bytes) long = stand form n near left front bytes long
stand form zero near left front (x ∷ bytes) long =
    let X : List ℕ = x ∷ bytes in
    stand-step form near left x front bytes
    (search_from form (past form near X) (stays form near X) (left_after form near left X) bytes) (gives form near X) refl long
    (λ out size. stand form (past form near X) (stays form near X) (left_after form near left X) out bytes size)
