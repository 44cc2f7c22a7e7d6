-- Items one after another.
use Rattle.std.proofs.Common.{◌≡◌, ℕ, zero, suc, ◌-◌, ◌<◌, ◌≤◌, Bool, true, false, List, [], ◌∷◌, ◌++◌, length, refl, sym, ap, ◌∙◌, arith, append_assoc, append-nil, length-append}
use Rattle.std.specs.Prelude.{nat_lt, Option, Some, None, IsTrue, ◌||◌, not, is_none}
use Rattle.std.proofs.lemmas.Bool.{ltb-true}
use Rattle.ts_fields.specs.Layout.{Row, Held}
use Rattle.ts_fields.specs.Reading.{read_rows, Fails, ◌>>=◌}
use Rattle.ts_fields.specs.Spelling.{spell_rows}
use Rattle.ts_fields.specs.Bodies.{items_exact, read_items, items_sound, all_fit, items_fit, spell_items, read_after}
use Rattle.ts_fields.specs.Fitting.{fits}
use Rattle.ts_fields.specs.SoundRows.{are_exact, leasts, is_open}
use Rattle.std.proofs.lemmas.Option.{same_Some}
use Rattle.std.specs.List.{flat_map}
use Rattle.ts_fields.specs.declared.reader.NotRead.{NotRead}
use Rattle.ts_fields.specs.declared.reader.NotRead.TheVariants as stops
use Rattle.ts_fields.proofs.ReadLemmas.{left_true, right_true}
use Rattle.ts_fields.proofs.AgainLemmas.{both, rows_again}
use Rattle.ts_fields.proofs.TakesLemmas.{rows_takes, rows_length, then_some}
use Rattle.ts_fields.proofs.LengthLemmas.{takes_bits, least_rows}

-- items before, and items that are read
abbrev pub with_items : List (List Held) → Option (List (List Held)) → Option (List (List Held))
with_items front read = read >>= λ more. Some (front ++ more)

same_next : {A B : Type 0} (r : Option A) (f g : A → Option B) → ((x : A) → r ≡ Some x → f x ≡ g x)
    → (r >>= f) ≡ (r >>= g)
same_next None f g same = refl
same_next (Some x) f g same = same x refl

-- more turns than bits change nothing
same_turns : (m n : ℕ) (rs : List Row) (from : List Bool) → nat_lt 0 (leasts rs) ≡ true → length from ≤ m
    → length from ≤ n → read_items m rs from ≡ read_items n rs from
unfolding read_items
same_turns m n rs [] some long wide = refl
same_turns zero n rs (b ∷ bs) some long wide = absurd (omega arith)
same_turns (suc m) zero rs (b ∷ bs) some long wide = absurd (omega arith)
same_turns (suc m) (suc n) rs (b ∷ bs) some long wide =
    same_next (read_rows rs (b ∷ bs)) _ _ (λ x was.
    let fewer : length x.1 < length (b ∷ bs) = takes_bits rs (b ∷ bs) x.0 x.1 some was in
    ap (λ items. items >>= λ more. Some (x.0 ∷ more)) (same_turns m n rs x.1 some (omega arith) (omega arith)))

items_more : (front : List (List Held)) (values : List Held) (read : Option (List (List Held)))
    → with_items front (read >>= λ more. Some (values ∷ more)) ≡ with_items (front ++ values ∷ []) read
items_more front values None = refl
items_more front values (Some more) = ap Some (sym (append_assoc front (values ∷ []) more))

pub items_go_on : (front : List (List Held)) (rs : List Row) (from : List Bool) (values : List Held) (after : List Bool) (whole : Option (List (List Held)))
    → nat_lt 0 (leasts rs) ≡ true → read_rows rs from ≡ Some (values, after)
    → with_items front (read_items (length from) rs from) ≡ whole
    → with_items (front ++ values ∷ []) (read_items (length after) rs after) ≡ whole
unfolding read_items
items_go_on front rs [] values after whole some is so_far = let fewer = takes_bits rs [] values after some is in absurd (omega arith)
items_go_on front rs (b ∷ bs) values after whole some is so_far =
    let fewer : length after < length (b ∷ bs) = takes_bits rs (b ∷ bs) values after some is in
    let e = rw is at so_far in
    ap (with_items (front ++ values ∷ [])) (same_turns (length after) (length bs) rs after some (omega arith) (omega arith))
    ∙ sym (items_more front values (read_items (length bs) rs after)) ∙ e

pub items_stop : (stop : NotRead) (front : List (List Held)) (rs : List Row) (from : List Bool) (whole : Option (List (List Held)))
    → (length from ≡ 0 → ⊥)
    → with_items front (read_items (length from) rs from) ≡ whole → Fails stop (read_rows rs from)
    → Fails stop whole
unfolding read_items
items_stop stops.NoMemory front rs from whole some so_far is = tt
items_stop stops.Outside front rs [] whole some so_far is = absurd (some refl)
items_stop stops.Outside front rs (b ∷ bs) whole some so_far is = sym so_far ∙ rw is refl

pub items_done : (front : List (List Held)) (rs : List Row) (from : List Bool) (whole : Option (List (List Held)))
    → length from ≡ 0 → with_items front (read_items (length from) rs from) ≡ whole → whole ≡ Some front
unfolding read_items
items_done front rs [] whole none so_far = sym so_far ∙ ap Some (append-nil front)
items_done front rs (b ∷ bs) whole none so_far = absurd (omega arith)

pub item_takes : (rs : List Row) → IsTrue (items_sound (Some ([], rs))) → nat_lt 0 (leasts rs) ≡ true
item_takes rs sound = right_true _ _ sound

pub items_take : (most : ℕ) (rs : List Row) (from : List Bool) (items : List (List Held))
    → are_exact rs ≡ true → read_items most rs from ≡ Some items
    → (from ≡ flat_map (spell_rows rs) items) × (all_fit rs items ≡ true)
unfolding read_items
items_take most rs [] items exact is = let none : [] ≡ items = same_Some _ _ is in rw (← none) (refl, refl)
items_take zero rs (b ∷ bs) items exact is = cc
items_take (suc most) rs (b ∷ bs) items exact is =
    then_some (read_rows rs (b ∷ bs)) _ items is (λ x was later.
    then_some (read_items most rs x.1) (λ more. Some (x.0 ∷ more)) items later (λ more had joins.
    let items_is : x.0 ∷ more ≡ items = same_Some _ _ joins in
    let one = rows_takes rs (b ∷ bs) x.0 x.1 exact was in
    let others = items_take most rs x.1 more exact had in
    rw (← items_is) (one.0 ∙ ap (λ l. spell_rows rs x.0 ++ l) others.0, rw (one.1, others.1) refl)))

pub after_takes : (i : Option (List ℕ × List Row)) (from : List Bool) (items : List (List Held))
    → items_exact i ≡ true → read_after i from ≡ Some items
    → (from ≡ spell_items i items) × (items_fit i items ≡ true)
unfolding read_after
after_takes None [] items exact is = let none : [] ≡ items = same_Some _ _ is in rw (← none) (refl, refl)
after_takes None (b ∷ bs) items exact is = cc
after_takes (Some i) from items exact is = items_take (length from) i.1 from items exact is

items_none : (most : ℕ) (rs : List Row) → read_items most rs [] ≡ Some []
unfolding read_items
items_none most rs = refl

items_first : (most : ℕ) (rs : List Row) (from : List Bool) (item : List Held) (rest : List Bool)
    → 0 < length from → read_rows rs from ≡ Some (item, rest)
    → read_items (suc most) rs from ≡ (read_items most rs rest >>= λ more. Some (item ∷ more))
unfolding read_items
items_first most rs [] item rest some is = absurd (omega arith)
items_first most rs (b ∷ bs) item rest some is = rw is refl

is_closed : (goes : Bool) (bs : List Bool) → IsTrue (not goes) → goes ≡ true → bs ≡ []
is_closed true bs closed is = cc
is_closed false bs closed is = cc

pub items_again : (most : ℕ) (rs : List Row) (items : List (List Held)) → all_fit rs items ≡ true
    → IsTrue (items_sound (Some ([], rs))) → length (flat_map (spell_rows rs) items) ≤ most
    → read_items most rs (flat_map (spell_rows rs) items) ≡ Some items
items_again most rs [] fit sound long = items_none most rs
items_again most rs (item ∷ items) fit sound long =
    let parts = both (fits rs item) (all_fit rs items) fit in
    let one = least_rows rs item parts.0 in
    let some : 0 < leasts rs = ltb-true 0 (leasts rs) (item_takes rs sound) in
    let sum = length-append (spell_rows rs item) (flat_map (spell_rows rs) items) in
    let closed : is_open rs ≡ true → flat_map (spell_rows rs) items ≡ [] = λ goes. is_closed (is_open rs) _ (right_true _ _ (left_true _ _ sound)) goes in
    let read = rows_again rs item (flat_map (spell_rows rs) items) parts.0 (right_true _ _ (left_true _ _ (left_true _ _ (left_true _ _ sound)))) closed in
    let up : suc (most - 1) ≡ most = omega (arith, one) in
    ap (λ k. read_items k rs (spell_rows rs item ++ flat_map (spell_rows rs) items)) (sym up)
    ∙ items_first (most - 1) rs (spell_rows rs item ++ flat_map (spell_rows rs) items) item (flat_map (spell_rows rs) items) (omega (arith, one)) read
    ∙ rw (items_again (most - 1) rs items parts.1 sound (omega (arith, one))) refl

pub after_again : (i : Option (List ℕ × List Row)) (items : List (List Held)) → items_fit i items ≡ true
    → IsTrue (items_sound i) → read_after i (spell_items i items) ≡ Some items
unfolding read_after
after_again None [] fit sound = refl
after_again None (item ∷ items) fit sound = cc
after_again (Some i) items fit sound = let least : length (flat_map (spell_rows i.1) items) ≤ length (flat_map (spell_rows i.1) items) = omega arith in items_again (length (flat_map (spell_rows i.1) items)) i.1 items fit sound least

pub nothing_after : (i : Option (List ℕ × List Row)) (items : List (List Held)) (goes : Bool)
    → items_fit i items ≡ true → IsTrue (is_none i || not goes) → goes ≡ true → spell_items i items ≡ []
nothing_after None [] goes fit sound is = refl
nothing_after None (item ∷ items) goes fit sound is = cc
nothing_after (Some i) items true fit sound is = cc
nothing_after (Some i) items false fit sound is = cc

pub items_read_fit : (most : ℕ) (rs : List Row) (from : List Bool) (items : List (List Held))
    → read_items most rs from ≡ Some items → all_fit rs items ≡ true
unfolding read_items
items_read_fit most rs [] items is = let none : [] ≡ items = same_Some _ _ is in rw (← none) refl
items_read_fit zero rs (b ∷ bs) items is = cc
items_read_fit (suc most) rs (b ∷ bs) items is =
    then_some (read_rows rs (b ∷ bs)) _ items is (λ x was later.
    then_some (read_items most rs x.1) (λ more. Some (x.0 ∷ more)) items later (λ more had joins.
    let items_is : x.0 ∷ more ≡ items = same_Some _ _ joins in
    let one = rows_length rs (b ∷ bs) x.0 x.1 was in
    let others = items_read_fit most rs x.1 more had in
    rw (← items_is) (rw (one.1, others) refl)))

pub after_read_fit : (i : Option (List ℕ × List Row)) (from : List Bool) (items : List (List Held))
    → read_after i from ≡ Some items → items_fit i items ≡ true
unfolding read_after
after_read_fit None [] items is = let none : [] ≡ items = same_Some _ _ is in rw (← none) refl
after_read_fit None (b ∷ bs) items is = cc
after_read_fit (Some i) from items is = items_read_fit (length from) i.1 from items is
