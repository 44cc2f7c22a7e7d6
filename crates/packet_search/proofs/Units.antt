-- What a place is, what the bytes that decide it are, and the tests of the code.
use Rattle.std.proofs.Common.{inl, inr, ◌≡◌, ℕ, zero, suc, ◌+◌, ◌-◌, ◌*◌, ◌<◌, ◌≤◌, Bool, true, false, not, if◌then◌else◌, ◌&&◌, ◌||◌, nat_le, nat_eq, List, ◌++◌, length, drop, get_or, refl, ap, sym, ◌∙◌, arith, length-append, length-drop}
use Rattle.std.proofs.lemmas.Bool.{cases_Bool, and_parts, or_cases, leb-true, eqb-true, and_left, and_right, or_left, or_from, le-leb, not_from_true, both_ways}
use Rattle.std.proofs.lemmas.List.{drop-append-le, get_or_append_left}
use Rattle.packet_forms.specs.declared.forms.Form.{Form}
use Rattle.packet_forms.specs.declared.forms.Form.TheVariants.{Ts, M2ts, Rs204}
use Rattle.packet_forms.specs.Stripped.{lead, unit}
use Rattle.packet_search.specs.Rule.{is_whole, in_row, five_within, whole_among, is_held, is_cut, gives, stays, past}

-- a unit has its packet and is not empty
pub unit-holds : (form : Form) → lead form + 188 ≤ unit form
unit-holds Ts = omega arith
unit-holds M2ts = omega arith
unit-holds Rs204 = omega arith

-- what a whole unit has
pub whole-has : (form : Form) (bytes : List ℕ) → is_whole form bytes ≡ true → (lead form + 188 ≤ length bytes) × (get_or bytes (lead form) 0 ≡ 71)
unfolding is_whole
whole-has form bytes is =
    let parts = and_parts (nat_le (lead form + 188) (length bytes)) (nat_eq (get_or bytes (lead form) 0) 71) is in
    (leb-true _ _ parts.0, eqb-true _ _ parts.1)

-- five in a row begin with a whole one
pub row-begins : (form : Form) (n : ℕ) (bytes : List ℕ) → in_row form (suc n) bytes ≡ true → (is_whole form bytes ≡ true) × (in_row form n (drop (unit form) bytes) ≡ true)
unfolding in_row
row-begins form n bytes is = and_parts (is_whole form bytes) (in_row form n (drop (unit form) bytes)) is

-- where a packet is given, a whole one is
pub gives-whole : (form : Form) (near : Bool) (bytes : List ℕ) → gives form near bytes ≡ true → is_whole form bytes ≡ true
unfolding gives
gives-whole form near bytes is =
    elim (or_cases (in_row form 5 bytes) (near && (is_whole form bytes && not (is_cut form bytes))) is) [
      | inl row ↦ (row-begins form 4 bytes row).0
      | inr lone ↦ (and_parts (is_whole form bytes) (not (is_cut form bytes)) (and_parts near (is_whole form bytes && not (is_cut form bytes)) lone).1).0
    ]

pub stays-given : (form : Form) (near : Bool) (bytes : List ℕ) → gives form near bytes ≡ true → stays form near bytes ≡ true
unfolding stays
stays-given form near bytes is = or_left (gives form near bytes) (near && (is_whole form (drop (unit form) bytes) && not (is_cut form bytes))) is

pub past-true : (form : Form) (near : Bool) (bytes : List ℕ) → stays form near bytes ≡ true → suc (past form near bytes) ≡ unit form
unfolding past
past-true form near bytes is =
    let e : past form near bytes ≡ unit form - 1 = ap (λ (b : Bool). if b then unit form - 1 else 0) is in
    omega (arith, unit-holds form)

pub past-false : (form : Form) (near : Bool) (bytes : List ℕ) → stays form near bytes ≡ false → past form near bytes ≡ 0
unfolding past
past-false form near bytes is = ap (λ (b : Bool). if b then unit form - 1 else 0) is

-- with more bytes behind them, bytes that are enough decide the same
whole-more : (form : Form) (bytes more : List ℕ) → lead form + 188 ≤ length bytes → is_whole form (bytes ++ more) ≡ is_whole form bytes
unfolding is_whole
whole-more form bytes more long =
    let a : nat_le (lead form + 188) (length (bytes ++ more)) ≡ true = le-leb (lead form + 188) (length (bytes ++ more)) (omega (arith, length-append bytes more)) in
    let b : nat_le (lead form + 188) (length bytes) ≡ true = le-leb (lead form + 188) (length bytes) long in
    let few : lead form < length bytes = omega arith in
    let c : get_or (bytes ++ more) (lead form) 0 ≡ get_or bytes (lead form) 0 = get_or_append_left bytes more 0 (lead form) few in
    ap (λ (t : Bool). t && nat_eq (get_or (bytes ++ more) (lead form) 0) 71) a
    ∙ ap (λ (v : ℕ). true && nat_eq v 71) c
    ∙ ap (λ (t : Bool). t && nat_eq (get_or bytes (lead form) 0) 71) (sym b)

pub row-more : (form : Form) (n : ℕ) (bytes more : List ℕ) → n * unit form ≤ length bytes → in_row form n (bytes ++ more) ≡ in_row form n bytes
unfolding in_row
row-more form zero bytes more long = refl
row-more form (suc n) bytes more long =
    let u : ℕ = unit form in
    let sum : suc n * u ≡ u + n * u = omega arith in
    let one : u ≤ length bytes = omega arith in
    let first : is_whole form (bytes ++ more) ≡ is_whole form bytes = whole-more form bytes more (omega (arith, unit-holds form)) in
    let rest : n * u ≤ length (drop u bytes) = omega (arith, length-drop u bytes) in
    ap (λ (t : Bool). t && in_row form n (drop u (bytes ++ more))) first
    ∙ ap (λ (l : List ℕ). is_whole form bytes && in_row form n l) (drop-append-le u bytes more one)
    ∙ ap (λ (t : Bool). is_whole form bytes && t) (row-more form n (drop u bytes) more rest)

within-more : (form : Form) (n : ℕ) (bytes more : List ℕ) → n + 5 * unit form ≤ length bytes → five_within form n (bytes ++ more) ≡ five_within form n bytes
unfolding five_within
within-more form zero bytes more long = refl
within-more form (suc n) bytes more long =
    let here : suc n ≤ length bytes = omega arith in
    let rest : 5 * unit form ≤ length (drop (suc n) bytes) = omega (arith, length-drop (suc n) bytes) in
    ap (λ (t : Bool). t || five_within form n (bytes ++ more))
    (ap (in_row form 5) (drop-append-le (suc n) bytes more here) ∙ row-more form 5 (drop (suc n) bytes) more rest)
    ∙ ap (λ (t : Bool). in_row form 5 (drop (suc n) bytes) || t) (within-more form n bytes more (omega arith))

among-more : (form : Form) (n : ℕ) (bytes more : List ℕ) → n * unit form ≤ length bytes → whole_among form n (bytes ++ more) ≡ whole_among form n bytes
unfolding whole_among
among-more form zero bytes more long = refl
among-more form (suc n) bytes more long =
    let u : ℕ = unit form in
    let sum : suc n * u ≡ u + n * u = omega arith in
    let one : u ≤ length bytes = omega arith in
    let first : is_whole form (bytes ++ more) ≡ is_whole form bytes = whole-more form bytes more (omega (arith, unit-holds form)) in
    let rest : n * u ≤ length (drop u bytes) = omega (arith, length-drop u bytes) in
    ap (λ (t : Bool). (if t then 1 else 0) + whole_among form n (drop u (bytes ++ more))) first
    ∙ ap (λ (l : List ℕ). (if is_whole form bytes then 1 else 0) + whole_among form n l) (drop-append-le u bytes more one)
    ∙ ap (λ (k : ℕ). (if is_whole form bytes then 1 else 0) + k) (among-more form n (drop u bytes) more rest)

held-more : (form : Form) (bytes more : List ℕ) → 5 * unit form ≤ length bytes → is_held form (bytes ++ more) ≡ is_held form bytes
unfolding is_held
held-more form bytes more long =
    let u : ℕ = unit form in
    let one : u ≤ length bytes = omega arith in
    let rest : 4 * u ≤ length (drop u bytes) = omega (arith, length-drop u bytes) in
    ap (λ (l : List ℕ). nat_le 2 (whole_among form 4 l)) (drop-append-le u bytes more one)
    ∙ ap (nat_le 2) (among-more form 4 (drop u bytes) more rest)

-- six units are enough
cut-more : (form : Form) (bytes more : List ℕ) → 6 * unit form ≤ length bytes → is_cut form (bytes ++ more) ≡ is_cut form bytes
unfolding is_cut
cut-more form bytes more long =
    ap (λ (t : Bool). t && not (is_held form (bytes ++ more))) (within-more form (unit form - 1) bytes more (omega (arith, unit-holds form)))
    ∙ ap (λ (t : Bool). five_within form (unit form - 1) bytes && not t) (held-more form bytes more (omega arith))

pub gives-more : (form : Form) (near : Bool) (bytes more : List ℕ) → 6 * unit form ≤ length bytes → gives form near (bytes ++ more) ≡ gives form near bytes
unfolding gives
gives-more form near bytes more long =
    let row : in_row form 5 (bytes ++ more) ≡ in_row form 5 bytes = row-more form 5 bytes more (omega arith) in
    let first : is_whole form (bytes ++ more) ≡ is_whole form bytes = whole-more form bytes more (omega (arith, unit-holds form)) in
    let cut : is_cut form (bytes ++ more) ≡ is_cut form bytes = cut-more form bytes more long in
    ap (λ (t : Bool). t || (near && (is_whole form (bytes ++ more) && not (is_cut form (bytes ++ more))))) row
    ∙ ap (λ (t : Bool). in_row form 5 bytes || (near && (t && not (is_cut form (bytes ++ more))))) first
    ∙ ap (λ (t : Bool). in_row form 5 bytes || (near && (is_whole form bytes && not t))) cut

pub stays-more : (form : Form) (near : Bool) (bytes more : List ℕ) → 6 * unit form ≤ length bytes → stays form near (bytes ++ more) ≡ stays form near bytes
unfolding stays
stays-more form near bytes more long =
    let u : ℕ = unit form in
    let one : u ≤ length bytes = omega arith in
    let rest : lead form + 188 ≤ length (drop u bytes) = omega (arith, length-drop u bytes, unit-holds form) in
    let next : is_whole form (drop u (bytes ++ more)) ≡ is_whole form (drop u bytes) =
    ap (is_whole form) (drop-append-le u bytes more one) ∙ whole-more form (drop u bytes) more rest in
    ap (λ (t : Bool). t || (near && (is_whole form (drop u (bytes ++ more)) && not (is_cut form (bytes ++ more))))) (gives-more form near bytes more long)
    ∙ ap (λ (t : Bool). gives form near bytes || (near && (t && not (is_cut form (bytes ++ more))))) next
    ∙ ap (λ (t : Bool). gives form near bytes || (near && (is_whole form (drop u bytes) && not t))) (cut-more form bytes more long)

pub past-more : (form : Form) (near : Bool) (bytes more : List ℕ) → 6 * unit form ≤ length bytes → past form near (bytes ++ more) ≡ past form near bytes
unfolding past
past-more form near bytes more long = ap (λ (b : Bool). if b then unit form - 1 else 0) (stays-more form near bytes more long)

-- what is past, in a unit
pub past-few : (form : Form) (near : Bool) (bytes : List ℕ) → suc (past form near bytes) ≤ unit form
past-few form near bytes =
    elim (cases_Bool (stays form near bytes)) [
      | inl stay ↦ (let e : suc (past form near bytes) ≡ unit form = past-true form near bytes stay in omega arith)
      | inr go ↦ (let e : past form near bytes ≡ 0 = past-false form near bytes go in omega (arith, unit-holds form))
    ]

-- for the code: a row without its first unit, no five within more bytes, and a place past the end
pub row-none : (form : Form) (n : ℕ) (bytes : List ℕ) → 0 < n → is_whole form bytes ≡ false → false ≡ in_row form n bytes
unfolding in_row
row-none form zero bytes some none = absurd (omega arith)
row-none form (suc n) bytes some none = sym (and_left (is_whole form bytes) (in_row form n (drop (unit form) bytes)) none)

pub row-next : (form : Form) (n m : ℕ) (bytes : List ℕ) → n ≡ suc m → is_whole form bytes ≡ true → in_row form m (drop (unit form) bytes) ≡ in_row form n bytes
unfolding in_row
row-next form n m bytes is whole =
    ap (λ (t : Bool). t && in_row form m (drop (unit form) bytes)) (sym whole) ∙ ap (λ (k : ℕ). in_row form k bytes) (sym is)

pub row-zero : (form : Form) (n : ℕ) (bytes : List ℕ) → n ≡ 0 → true ≡ in_row form n bytes
unfolding in_row
row-zero form n bytes is = ap (λ (k : ℕ). in_row form k bytes) (sym is)

pub within-none : (form : Form) (bytes : List ℕ) → five_within form 0 bytes ≡ false
unfolding five_within
within-none form bytes = refl

pub within-next : (form : Form) (n : ℕ) (bytes : List ℕ) → five_within form n bytes ≡ false → in_row form 5 (drop (suc n) bytes) ≡ false → five_within form (suc n) bytes ≡ false
unfolding five_within
within-next form n bytes none here = or_from (in_row form 5 (drop (suc n) bytes)) (five_within form n bytes) here none

pub not-cut : (form : Form) (n : ℕ) (bytes : List ℕ) → n ≡ unit form - 1 → five_within form n bytes ≡ false → is_cut form bytes ≡ false
unfolding is_cut
not-cut form n bytes is none =
    and_left (five_within form (unit form - 1) bytes) (not (is_held form bytes)) (ap (λ (k : ℕ). five_within form k bytes) (sym is) ∙ none)

pub held-not-cut : (form : Form) (bytes : List ℕ) → is_held form bytes ≡ true → is_cut form bytes ≡ false
unfolding is_cut
held-not-cut form bytes held =
    and_right (five_within form (unit form - 1) bytes) (not (is_held form bytes)) (not_from_true (is_held form bytes) held)

pub among-next : (form : Form) (n m : ℕ) (bytes : List ℕ) → n ≡ suc m → (if is_whole form bytes then 1 else 0) + whole_among form m (drop (unit form) bytes) ≡ whole_among form n bytes
unfolding whole_among
among-next form n m bytes is = ap (λ (k : ℕ). whole_among form k bytes) (sym is)

pub among-zero : (form : Form) (n : ℕ) (bytes : List ℕ) → n ≡ 0 → 0 ≡ whole_among form n bytes
unfolding whole_among
among-zero form n bytes is = ap (λ (k : ℕ). whole_among form k bytes) (sym is)

pub held-is : (form : Form) (bytes rest : List ℕ) (n : ℕ) → rest ≡ drop (unit form) bytes → n ≡ whole_among form 4 rest → nat_le 2 n ≡ is_held form bytes
unfolding is_held
held-is form bytes rest n rest_is n_is = ap (nat_le 2) (n_is ∙ ap (whole_among form 4) rest_is)

-- where no packet is here, the bytes that are left out are there
pub past-fits : (form : Form) (near : Bool) (bytes : List ℕ) → 0 < length bytes → gives form near bytes ≡ false → suc (past form near bytes) ≤ length bytes
unfolding stays
past-fits form near bytes some none =
    elim (cases_Bool (stays form near bytes)) [
      | inl stay ↦
          (elim (or_cases (gives form near bytes) (near && (is_whole form (drop (unit form) bytes) && not (is_cut form bytes))) stay) [
            | inl is ↦ absurd (both_ways (gives form near bytes) none is)
            | inr kept ↦
                (let whole = (and_parts (is_whole form (drop (unit form) bytes)) (not (is_cut form bytes))
                (and_parts near (is_whole form (drop (unit form) bytes) && not (is_cut form bytes)) kept).1).0 in
                let has = whole-has form (drop (unit form) bytes) whole in
                let long : lead form + 188 ≤ length (drop (unit form) bytes) = has.0 in
                let next : suc (past form near bytes) ≡ unit form = past-true form near bytes stay in
                omega (arith, length-drop (unit form) bytes))
          ])
      | inr go ↦ (let zero_is : past form near bytes ≡ 0 = past-false form near bytes go in omega arith)
    ]

pub past-is : (form : Form) (near : Bool) (bytes : List ℕ) → suc (past form near bytes) ≡ (if stays form near bytes then unit form else 1)
past-is form near bytes =
    elim (cases_Bool (stays form near bytes)) [
      | inl stay ↦ past-true form near bytes stay ∙ sym (ap (λ (b : Bool). if b then unit form else 1) stay)
      | inr go ↦ ap suc (past-false form near bytes go) ∙ sym (ap (λ (b : Bool). if b then unit form else 1) go)
    ]
