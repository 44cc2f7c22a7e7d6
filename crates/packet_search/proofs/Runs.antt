-- Runs of packets are found from their first one on, and whole.
use Rattle.std.proofs.Common.{inl, inr, ◌≡◌, ℕ, zero, suc, ◌+◌, ◌-◌, ◌*◌, ◌<◌, ◌≤◌, Bool, true, false, not, nat_le, if◌then◌else◌, ◌&&◌, ◌||◌, List, [], ◌∷◌, ◌++◌, length, take, drop, refl, ap, sym, ◌∙◌, subst, arith, length-drop}
use Rattle.std.proofs.lemmas.Bool.{and_parts, and_from, and_left, and_right, or_left, or_right, or_from, not_from_true, not_from_false, false_from_ne_true, cases_lt, cases_eq, both_ways}
use Rattle.std.proofs.lemmas.List.{drop-drop, drop_at, nil_from_length, drop-take, take-take}
use Rattle.std.specs.List.{concat}
use Rattle.packet_forms.specs.declared.forms.Form.{Form}
use Rattle.packet_forms.specs.Stripped.{lead, unit, stripped}
use Rattle.packet_forms.proofs.Strips.{stripped-unit, stripped-nil}
use Rattle.packet_search.specs.Rule.{is_whole, in_row, five_within, whole_among, is_held, is_cut, gives, stays, past}
use Rattle.packet_search.specs.Search.{Found, Searched, with_found, found_here, left_after, search_from, packets_in, units_at}
use Rattle.packet_search.specs.Standing.{IsAlone}
use Rattle.packet_search.proofs.Units.{unit-holds, whole-has, row-begins, past-false, past-few}
use Rattle.packet_search.proofs.Steps.{with-both, step-given}

-- five in a row are a packet, whatever is before
pub gives-row : (form : Form) (near : Bool) (bytes : List ℕ) → in_row form 5 bytes ≡ true → gives form near bytes ≡ true
unfolding gives
gives-row form near bytes row = or_left (in_row form 5 bytes) (near && (is_whole form bytes && not (is_cut form bytes))) row

row-some : (form : Form) (n : ℕ) (bytes : List ℕ) → in_row form (suc n) bytes ≡ true → 0 < length bytes
row-some form n bytes row =
    let has = whole-has form bytes (row-begins form n bytes row).0 in
    omega arith

-- five in a row within a unit cut it
within-has : (form : Form) (n o : ℕ) (bytes : List ℕ) → 0 < o → o ≤ n → in_row form 5 (drop o bytes) ≡ true → five_within form n bytes ≡ true
unfolding five_within
within-has form zero o bytes some few row = absurd (omega arith)
within-has form (suc n) o bytes some few row =
    elim (cases_eq o (suc n)) [
      | inl same ↦ or_left (in_row form 5 (drop (suc n) bytes)) (five_within form n bytes) (subst (λ (k : ℕ). in_row form 5 (drop k bytes) ≡ true) same row)
      | inr other ↦ or_right (in_row form 5 (drop (suc n) bytes)) (five_within form n bytes)
          (within-has form n o bytes some (omega arith) row)
    ]

pub cut-where : (form : Form) (o : ℕ) (bytes : List ℕ) → 0 < o → o < unit form → in_row form 5 (drop o bytes) ≡ true → is_held form bytes ≡ false → is_cut form bytes ≡ true
unfolding is_cut
cut-where form o bytes some few row free =
    and_from (five_within form (unit form - 1) bytes) (not (is_held form bytes)) (within-has form (unit form - 1) o bytes some (omega arith) row)
    (not_from_false (is_held form bytes) free)

-- where each is whole all are
among-row : (form : Form) (n : ℕ) (bytes : List ℕ) → in_row form n bytes ≡ true → whole_among form n bytes ≡ n
unfolding in_row whole_among
among-row form zero bytes row = refl
among-row form (suc n) bytes row =
    let parts = and_parts (is_whole form bytes) (in_row form n (drop (unit form) bytes)) row in
    let rest : whole_among form n (drop (unit form) bytes) ≡ n = among-row form n (drop (unit form) bytes) parts.1 in
    ap (λ (b : Bool). (if b then 1 else 0) + whole_among form n (drop (unit form) bytes)) parts.0 ∙ (let sum : 1 + whole_among form n (drop (unit form) bytes) ≡ suc n = omega arith in sum)

-- no unit is taken that goes over the begin of such a run
not-over : (form : Form) (near : Bool) (junk run : List ℕ) → 0 < length junk → length junk < unit form → in_row form 5 run ≡ true
    → IsAlone form run → stays form near (junk ++ run) ≡ false
unfolding stays gives is_held
not-over form near junk run some few row alone =
    let all : List ℕ = junk ++ run in
    let o : ℕ = unit form - length junk in
    let sum : length junk + o ≡ unit form = omega arith in
    let there : drop (unit form) all ≡ drop o run =
    ap (λ (n : ℕ). drop n all) (sym sum) ∙ sym (drop-drop o (length junk) all) ∙ ap (drop o) (drop_at junk run (length junk) refl) in
    let lone_there : nat_le 2 (whole_among form 4 (drop o run)) ≡ false = alone o (omega arith) (omega arith) in
    let free : is_held form all ≡ false = ap (λ (l : List ℕ). nat_le 2 (whole_among form 4 l)) there ∙ lone_there in
    let cut : is_cut form all ≡ true =
    cut-where form (length junk) all some few (ap (in_row form 5) (drop_at junk run (length junk) refl) ∙ row) free in
    let five : in_row form 5 all ≡ false =
    false_from_ne_true (in_row form 5 all)
    (λ is. both_ways (nat_le 2 (whole_among form 4 (drop (unit form) all))) free
    (ap (nat_le 2) (among-row form 4 (drop (unit form) all) (row-begins form 4 all is).1))) in
    let left : not (is_cut form all) ≡ false = not_from_true (is_cut form all) cut in
    let lone : (near && (is_whole form all && not (is_cut form all))) ≡ false =
    and_right near (is_whole form all && not (is_cut form all)) (and_right (is_whole form all) (not (is_cut form all)) left) in
    let next : (near && (is_whole form (drop (unit form) all) && not (is_cut form all))) ≡ false =
    and_right near (is_whole form (drop (unit form) all) && not (is_cut form all)) (and_right (is_whole form (drop (unit form) all)) (not (is_cut form all)) left) in
    or_from (in_row form 5 all || (near && (is_whole form all && not (is_cut form all)))) (near && (is_whole form (drop (unit form) all) && not (is_cut form all)))
    (or_from (in_row form 5 all) (near && (is_whole form all && not (is_cut form all))) five lone) next

-- what is past ends before the run does begin
past-before : (form : Form) (near : Bool) (x : ℕ) (junk run : List ℕ) → in_row form 5 run ≡ true
    → IsAlone form run → past form near (x ∷ (junk ++ run)) ≤ length junk
past-before form near x junk run row alone =
    elim (cases_lt (length (x ∷ junk)) (unit form)) [
      | inl short ↦ (let none : past form near (x ∷ (junk ++ run)) ≡ 0 = past-false form near (x ∷ (junk ++ run)) (not-over form near (x ∷ junk) run (omega arith) short row alone) in omega arith)
      | inr long ↦ omega (arith, past-few form near (x ∷ (junk ++ run)))
    ]

-- of more in a row fewer are in a row
pub fewer : (form : Form) (m n : ℕ) (bytes : List ℕ) → m ≤ n → in_row form n bytes ≡ true → in_row form m bytes ≡ true
unfolding in_row
fewer form zero n bytes few row = refl
fewer form (suc m) zero bytes few row = absurd (omega arith)
fewer form (suc m) (suc n) bytes few row =
    let parts = and_parts (is_whole form bytes) (in_row form n (drop (unit form) bytes)) row in
    and_from (is_whole form bytes) (in_row form m (drop (unit form) bytes)) parts.0 (fewer form m n (drop (unit form) bytes) (omega arith) parts.1)

-- so many in a row are so long
pub row-long : (form : Form) (n : ℕ) (bytes : List ℕ) → in_row form (suc n) bytes ≡ true → n * unit form + (lead form + 188) ≤ length bytes
row-long form zero bytes row =
    let has = whole-has form bytes (row-begins form 0 bytes row).0 in
    let long : lead form + 188 ≤ length bytes = has.0 in
    omega arith
row-long form (suc n) bytes row =
    let parts = row-begins form (suc n) bytes row in
    let rest : n * unit form + (lead form + 188) ≤ length (drop (unit form) bytes) = row-long form n (drop (unit form) bytes) parts.1 in
    let size : length (drop (unit form) bytes) ≡ length bytes - unit form = length-drop (unit form) bytes in
    let sum : suc n * unit form ≡ unit form + n * unit form = omega arith in
    omega (arith, unit-holds form)

-- four units are too few to hold five in a row behind their first byte
within-short : (form : Form) (n : ℕ) (bytes : List ℕ) → length bytes ≤ 4 * unit form → five_within form n bytes ≡ false
unfolding five_within
within-short form zero bytes few = refl
within-short form (suc n) bytes few =
    or_from (in_row form 5 (drop (suc n) bytes)) (five_within form n bytes)
    (false_from_ne_true (in_row form 5 (drop (suc n) bytes))
    (λ row.
    let long : 4 * unit form + (lead form + 188) ≤ length (drop (suc n) bytes) = row-long form 4 (drop (suc n) bytes) row in
    let size : length (drop (suc n) bytes) ≡ length bytes - suc n = length-drop (suc n) bytes in
    absurd (omega arith)))
    (within-short form n bytes few)

gives-short : (form : Form) (bytes : List ℕ) → is_whole form bytes ≡ true → length bytes ≤ 4 * unit form → gives form true bytes ≡ true
unfolding gives is_cut
gives-short form bytes whole few =
    let cut : Bool = five_within form (unit form - 1) bytes && not (is_held form bytes) in
    or_right (in_row form 5 bytes) (is_whole form bytes && not cut)
    (and_from (is_whole form bytes) (not cut) whole
    (not_from_false cut (and_left (five_within form (unit form - 1) bytes) (not (is_held form bytes)) (within-short form (unit form - 1) bytes few))))

-- whether or not a unit ends right before, such a run is entered alike
same-entry : (form : Form) (near : Bool) (left : ℕ) (bytes : List ℕ) → in_row form 5 bytes ≡ true → search_from form 0 near left bytes ≡ search_from form 0 true left bytes
same-entry form near left bytes row =
    let some : 0 < length bytes = row-some form 4 bytes row in
    step-given form near left bytes some (gives-row form near bytes row) ∙ sym (step-given form true left bytes some (gives-row form true bytes row))

-- after any bytes such a run is entered at its first packet
pub entered : (form : Form) (skip : ℕ) (near : Bool) (left : ℕ) (junk run : List ℕ) → skip ≤ length junk → in_row form 5 run ≡ true
    → IsAlone form run
    → (before : List Found) × (out : ℕ) × (search_from form skip near left (junk ++ run) ≡ with_found before (search_from form 0 true out run))
unfolding search_from
entered form zero near left [] run fits row alone = ([], left, same-entry form near left run row)
entered form (suc n) near left [] run fits row alone = absurd (omega arith)
entered form (suc n) near left (x ∷ junk) run fits row alone = entered form n near left junk run (omega arith) row alone
entered form zero near left (x ∷ junk) run fits row alone =
    let all : List ℕ = x ∷ (junk ++ run) in
    let here : List Found = found_here form near left all in
    let rest = entered form (past form near all) (stays form near all) (left_after form near left all) junk run (past-before form near x junk run row alone) row alone in (
      here ++ rest.0,
      rest.1,
      ap (with_found here) rest.2 ∙ sym (with-both here rest.0 (search_from form 0 true rest.1 run)),
    )

-- a packet, and then what is found behind it
found-next : (form : Form) (left : ℕ) (bytes : List ℕ) (rest : Searched) → 0 < length bytes → gives form true bytes ≡ true
    → search_from form 0 true 0 (drop (unit form) bytes) ≡ rest
    → search_from form 0 true left bytes ≡ with_found (record { left_out = left; packet = take 188 (drop (lead form) bytes) } ∷ []) rest
found-next form left bytes rest some is then_is =
    step-given form true left bytes some is ∙ ap (with_found (record { left_out = left; packet = take 188 (drop (lead form) bytes) } ∷ [])) then_is

-- all but the last four of a run are found, whatever follows
pub run-found : (form : Form) (n : ℕ) (run : List ℕ) → in_row form (n + 4) run ≡ true
    → search_from form 0 true 0 run ≡ with_found (units_at form 0 n run) (search_from form 0 true 0 (drop (n * unit form) run))
unfolding units_at
run-found form zero run row =
    let e : 0 * unit form ≡ 0 = omega arith in
    ap (λ (k : ℕ). with_found [] (search_from form 0 true 0 (drop k run))) (sym e)
run-found form (suc n) run row =
    let u : ℕ = unit form in
    let more : suc n + 4 ≡ suc (n + 4) = omega arith in
    let five : in_row form 5 run ≡ true = fewer form 5 (suc n + 4) run (omega arith) row in
    let rest : in_row form (n + 4) (drop u run) ≡ true = (row-begins form (n + 4) run (subst (λ (k : ℕ). in_row form k run ≡ true) more row)).1 in
    let sum : u + n * u ≡ suc n * u = omega arith in
    found-next form 0 run _ (row-some form 4 run five) (gives-row form true run five)
    (run-found form n (drop u run) rest
    ∙ ap (λ (l : List ℕ). with_found (units_at form 0 n (drop u run)) (search_from form 0 true 0 l)) (drop-drop (n * u) u run ∙ ap (λ (k : ℕ). drop k run) sum))

-- also where bytes were left out before it
pub run-found-after : (form : Form) (left n : ℕ) (run : List ℕ) → 1 ≤ n → in_row form (n + 4) run ≡ true
    → search_from form 0 true left run ≡ with_found (units_at form left n run) (search_from form 0 true 0 (drop (n * unit form) run))
unfolding units_at
run-found-after form left zero run some row = absurd (omega arith)
run-found-after form left (suc n) run some row =
    let u : ℕ = unit form in
    let more : suc n + 4 ≡ suc (n + 4) = omega arith in
    let five : in_row form 5 run ≡ true = fewer form 5 (suc n + 4) run (omega arith) row in
    let rest : in_row form (n + 4) (drop u run) ≡ true = (row-begins form (n + 4) run (subst (λ (k : ℕ). in_row form k run ≡ true) more row)).1 in
    let sum : u + n * u ≡ suc n * u = omega arith in
    found-next form left run _ (row-some form 4 run five) (gives-row form true run five)
    (run-found form n (drop u run) rest
    ∙ ap (λ (l : List ℕ). with_found (units_at form 0 n (drop u run)) (search_from form 0 true 0 l)) (drop-drop (n * u) u run ∙ ap (λ (k : ℕ). drop k run) sum))

-- of nothing nothing is found
none-of : (form : Form) → search_from form 0 true 0 [] ≡ record { found = []; behind = 0 }
unfolding search_from
none-of form = refl

mul-few : (n u : ℕ) → n < 4 → suc n * u ≤ 4 * u
mul-few n u short = grind arith

-- of bytes that are so many whole units the first one is given
first-given : (form : Form) (n : ℕ) (bytes : List ℕ) → in_row form (suc n) bytes ≡ true → length bytes ≤ suc n * unit form → gives form true bytes ≡ true
first-given form n bytes row few =
    elim (cases_lt n 4) [
      | inl short ↦ gives-short form bytes (row-begins form n bytes row).0 (omega (arith, mul-few n (unit form) short))
      | inr long ↦ gives-row form true bytes (fewer form 5 (suc n) bytes (omega arith) row)
    ]

rest-few : (form : Form) (n : ℕ) (bytes : List ℕ) → length bytes ≤ suc n * unit form → length (drop (unit form) bytes) ≤ n * unit form
rest-few form n bytes few =
    let sum : suc n * unit form ≡ unit form + n * unit form = omega arith in
    omega (arith, length-drop (unit form) bytes)

-- bytes that are so many whole units, or all but what stands behind the last packet, give them all
pub all-found : (form : Form) (n : ℕ) (bytes : List ℕ) → in_row form n bytes ≡ true → length bytes ≤ n * unit form
    → search_from form 0 true 0 bytes ≡ record { found = units_at form 0 n bytes; behind = 0 }
unfolding units_at
all-found form zero bytes row few = ap (search_from form 0 true 0) (nil_from_length bytes (omega arith)) ∙ none-of form
all-found form (suc n) bytes row few =
    found-next form 0 bytes _ (row-some form n bytes row) (first-given form n bytes row few)
    (all-found form n (drop (unit form) bytes) (row-begins form n bytes row).1 (rest-few form n bytes few))

-- also where bytes were left out before them
pub all-found-after : (form : Form) (left n : ℕ) (bytes : List ℕ) → 1 ≤ n → in_row form n bytes ≡ true → length bytes ≤ n * unit form
    → search_from form 0 true left bytes ≡ record { found = units_at form left n bytes; behind = 0 }
unfolding units_at
all-found-after form left zero bytes some row few = absurd (omega arith)
all-found-after form left (suc n) bytes some row few =
    found-next form left bytes _ (row-some form n bytes row) (first-given form n bytes row few)
    (all-found form n (drop (unit form) bytes) (row-begins form n bytes row).1 (rest-few form n bytes few))

-- of whole units the packets are what is left of them without the bytes before and after
take-lead : (l u : ℕ) (bytes : List ℕ) → l + 188 ≤ u → take 188 (drop l (take u bytes)) ≡ take 188 (drop l bytes)
take-lead l u bytes few =
    let sum : u ≡ l + (u - l) = omega arith in
    let some : 188 ≤ u - l = omega arith in
    ap (λ (n : ℕ). take 188 (drop l (take n bytes))) sum
    ∙ ap (take 188) (drop-take l (u - l) bytes)
    ∙ take-take 188 (u - l) (drop l bytes) some

pub at-stripped : (form : Form) (left n : ℕ) (bytes : List ℕ) → length bytes ≤ n * unit form → concat (packets_in (units_at form left n bytes)) ≡ stripped form bytes
unfolding units_at
at-stripped form left zero bytes few = sym (ap (stripped form) (nil_from_length bytes (omega arith)) ∙ stripped-nil form 0)
at-stripped form left (suc n) bytes few =
    let u : ℕ = unit form in
    ap (λ (l : List ℕ). take 188 (drop (lead form) bytes) ++ l) (at-stripped form 0 n (drop u bytes) (rest-few form n bytes few))
    ∙ sym (stripped-unit form bytes ∙ ap (λ (l : List ℕ). l ++ stripped form (drop u bytes)) (take-lead (lead form) u bytes (unit-holds form)))

-- one more, where it is whole
pub one-more : (form : Form) (n : ℕ) (bytes : List ℕ) → in_row form n bytes ≡ true → is_whole form (drop (n * unit form) bytes) ≡ true → in_row form (suc n) bytes ≡ true
unfolding in_row
one-more form zero bytes row whole =
    let e : 0 * unit form ≡ 0 = omega arith in
    let here : is_whole form bytes ≡ true = ap (λ (k : ℕ). is_whole form (drop k bytes)) (sym e) ∙ whole in
    and_from (is_whole form bytes) true here refl
one-more form (suc n) bytes row whole =
    let u : ℕ = unit form in
    let parts = and_parts (is_whole form bytes) (in_row form n (drop u bytes)) row in
    let sum : u + n * u ≡ suc n * u = omega arith in
    let next : is_whole form (drop (n * u) (drop u bytes)) ≡ true = ap (is_whole form) (drop-drop (n * u) u bytes ∙ ap (λ (k : ℕ). drop k bytes) sum) ∙ whole in
    and_from (is_whole form bytes) (in_row form (suc n) (drop u bytes)) parts.0 (one-more form n (drop u bytes) parts.1 next)
