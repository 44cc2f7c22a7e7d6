-- Reading pages with groups.
use Rattle.std.proofs.Common.{◌≡◌, ℕ, suc, ◌+◌, ◌≤◌, Bool, true, false, List, [], ◌∷◌, ◌++◌, length, take, refl, sym, ap, ◌∙◌, arith}
use Rattle.std.specs.Prelude.{◌^◌, nat_eq, is_none, if◌then◌else◌, Option, Some, None, option_to_list, IsTrue}
use Rattle.std.proofs.lemmas.Option.{same_Some}
use Rattle.ts_fields.specs.declared.field.Kind.{Kind}
use Rattle.ts_fields.specs.declared.field.Kind.TheVariants.{Number, Reserved, Zeros, Ones, Free, Flag, Start, Duration, Decimal, Language, CountedText, CountedHex, Text, Hex}
use Rattle.ts_fields.specs.Layout.{Row, Held, number, bytes}
use Rattle.ts_fields.specs.Times.{is_start, is_time}
use Rattle.ts_fields.specs.Reading.{read_bytes, read_decimal, read_field, read_number, read_rest, read_rows, are_printable, ◌>>=◌}
use Rattle.ts_fields.specs.Spelling.{holds}
use Rattle.ts_fields.specs.Bodies.{Page, Holding, held_by, page_exact, page_fits, page_sound, read_after, read_page, spell_page}
use Rattle.ts_groups.specs.Groups.{Group, chosen, fields_alone, grouped_exact, grouped_sound, page_with, read_grouped}
use Rattle.ts_groups.proofs.StepLemmas.{then_some}
use Rattle.ts_groups.proofs.SoundLemmas.{chosen_exact, chosen_sound}

one_value : {A : Type 0} (r : Option (A × List Bool)) (f : A → Held) (y : Option Held × List Bool)
    → ◌>>=◌ {B = Option Held × List Bool} r (λ x. Some (Some (f x.0), x.1)) ≡ Some y → length (option_to_list y.0) ≡ 1
one_value (Some x) f y is = let e : (Some (f x.0), x.1) ≡ y = same_Some _ _ is in rw (← e) refl
one_value None f y is = cc

tested_value : {A : Type 0} (r : Option (A × List Bool)) (test : A → Bool) (f : A → Held) (y : Option Held × List Bool)
    → ◌>>=◌ {B = Option Held × List Bool} r (λ x. if test x.0 then Some (Some (f x.0), x.1) else None) ≡ Some y
    → length (option_to_list y.0) ≡ 1
tested_value None test f y is = cc
tested_value (Some x) test f y is = go (test x.0) is
  where
    go : (b : Bool) → (if b then Some (Some (f x.0), x.1) else None) ≡ Some y → length (option_to_list y.0) ≡ 1
    go true is = let e : (Some (f x.0), x.1) ≡ y = same_Some _ _ is in rw (← e) refl
    go false is = cc

no_value : {A : Type 0} (r : Option (A × List Bool)) (test : A → Bool) (y : Option Held × List Bool)
    → ◌>>=◌ {B = Option Held × List Bool} r (λ x. if test x.0 then Some (None, x.1) else None) ≡ Some y
    → length (option_to_list y.0) ≡ 0
no_value None test y is = cc
no_value (Some x) test y is = go (test x.0) is
  where
    go : (b : Bool) → ◌≡◌ {A = Option (Option Held × List Bool)} (if b then Some (None, x.1) else None) (Some y) → length (option_to_list y.0) ≡ 0
    go true is = let e : ◌≡◌ {A = Option Held × List Bool} (None, x.1) y = same_Some _ _ is in rw (← e) refl
    go false is = cc

-- a field is read as many values as its kind holds
field_holds : (k : Kind) (from : List Bool) (y : Option Held × List Bool) → read_field k from ≡ Some y
    → length (option_to_list y.0) ≡ holds k
unfolding read_field
field_holds (Number count) from y is = one_value (read_number count from) number y is
field_holds (Reserved count) from y is = one_value (read_number count from) number y is
field_holds (Zeros count) from y is = one_value (read_number count from) number y is
field_holds (Ones count) from y is = no_value (read_number count from) (λ n. nat_eq (n + 1) (2 ^ count)) y is
field_holds (Free count) from y is = no_value (read_number count from) (λ n. true) y is
field_holds Flag from y is = one_value (read_number 1 from) number y is
field_holds (Decimal digits) from y is = one_value (read_decimal digits from) number y is
field_holds Start from y is = tested_value (read_number 40 from) is_start number y is
field_holds Duration from y is = tested_value (read_number 24 from) (is_time 99) number y is
field_holds Language from y is = tested_value (read_bytes 3 from) are_printable bytes y is
field_holds CountedText from y is =
    then_some (read_number 8 from) _ y is (λ count was later. one_value (read_bytes count.0 count.1) bytes y later)
field_holds CountedHex from y is =
    then_some (read_number 8 from) _ y is (λ count was later. one_value (read_bytes count.0 count.1) bytes y later)
field_holds Text from y is = one_value (read_rest from) bytes y is
field_holds Hex from y is = one_value (read_rest from) bytes y is

take_over : (first more : List Held) (m : ℕ) → take (length first + m) (first ++ more) ≡ first ++ take m more
take_over [] more m = let same : 0 + m ≡ m = omega arith in ap (λ n. take n more) same
take_over (v ∷ vs) more m =
    let up : suc (length vs) + m ≡ suc (length vs + m) = omega arith in
    ap (λ n. take n (v ∷ (vs ++ more))) up ∙ ap (λ l. v ∷ l) (take_over vs more m)

-- the values of the first rows are the first of those of all rows
first_values : (a b : List Row) (from : List Bool) (x y : List Held × List Bool) → read_rows a from ≡ Some x
    → read_rows (a ++ b) from ≡ Some y → take (held_by a) y.0 ≡ x.0
unfolding read_rows
first_values [] b from x y one all = let e : ([], from) ≡ x = same_Some _ _ one in rw (← e) refl
first_values (r ∷ rs) b from x y one all =
    then_some (read_field r.kind from) _ x one (λ v was later.
    then_some (read_rows rs v.1) (λ more. Some (option_to_list v.0 ++ more.0, more.1)) x later (λ more had joins.
    then_some (read_field r.kind from) _ y all (λ w was_too after.
    then_some (read_rows (rs ++ b) w.1) (λ rest. Some (option_to_list w.0 ++ rest.0, rest.1)) y after (λ rest had_too ends.
    let same : v ≡ w = same_Some _ _ (sym was ∙ was_too) in
    let inner = first_values rs b v.1 more rest had (ap (λ z. read_rows (rs ++ b) z.1) same ∙ had_too) in
    let x_is : option_to_list v.0 ++ more.0 ≡ x.0 = ap (λ z. z.0) (same_Some _ _ joins) in
    let y_is : option_to_list v.0 ++ rest.0 ≡ y.0 = ap (λ z. option_to_list z.0 ++ rest.0) same ∙ ap (λ z. z.0) (same_Some _ _ ends) in
    ap (take (holds r.kind + held_by rs)) (sym y_is)
    ∙ ap (λ n. take (n + held_by rs) (option_to_list v.0 ++ rest.0)) (sym (field_holds r.kind from v was))
    ∙ take_over (option_to_list v.0) rest.0 (held_by rs)
    ∙ ap (λ l. option_to_list v.0 ++ l) inner ∙ x_is))))

-- where all rows are read, the first ones are
first_are_read : (a b : List Row) (from : List Bool) (y : List Held × List Bool) → read_rows (a ++ b) from ≡ Some y
    → (x : List Held × List Bool) × (read_rows a from ≡ Some x)
unfolding read_rows
first_are_read [] b from y all = (([], from), refl)
first_are_read (r ∷ rs) b from y all =
    then_some (read_field r.kind from) _ y all (λ v was later.
    then_some (read_rows (rs ++ b) v.1) _ y later (λ more had joins.
    let inner = first_are_read rs b v.1 more had in
    ((option_to_list v.0 ++ inner.0.0, inner.0.1), rw (was, inner.1) refl)))

-- both
pub front_first : (a b : List Row) (from : List Bool) (y : List Held × List Bool) → read_rows (a ++ b) from ≡ Some y
    → (x : List Held × List Bool) × (read_rows a from ≡ Some x) × (take (held_by a) y.0 ≡ x.0)
front_first a b from y all =
    let front = first_are_read a b from y all in
    (front.0, front.1, first_values a b from front.0 y front.1 all)

-- the rows of a page of fields alone were read
alone_is_read : (p : Page) (rs : List Row) (from : List Bool) (h : Holding) → read_page (fields_alone p rs) from ≡ Some h
    → (y : List Held × List Bool) × (read_rows rs from ≡ Some y) × (y.0 ≡ h.head)
unfolding read_page
alone_is_read p rs from h is =
    then_some (read_rows rs from) _ h is (λ y was later.
    then_some (read_after None y.1) (λ items. Some (record { head = y.0; items = items })) h later (λ items had joins.
    let h_is : record { head = y.0; items = items } ≡ h = same_Some _ _ joins in
    (y, was, ap (λ z. z.head) h_is)))

-- what the law of the crate below says of pages that were read
abbrev pub Written : Type 0
Written = (p : Page) (from : List Bool) (h : Holding) → page_exact p ≡ true → read_page p from ≡ Some h → (from ≡ spell_page p h) × (page_fits p h ≡ true)

pub was_written : Written → (p : Page) (groups : List Group) (from : List Bool) (q : Page) (h : Holding)
    → grouped_exact p groups ≡ true → read_grouped p groups from ≡ Some (q, h)
    → (q ≡ page_with p groups (take (held_by p.head) h.head)) × (from ≡ spell_page q h) × (page_fits q h ≡ true)
unfolding read_grouped
was_written written p groups from q h exact is =
    then_some (read_rows p.head from) _ (q, h) is (λ first was later.
    then_some (read_page (page_with p groups first.0) from) (λ h. Some (page_with p groups first.0, h)) (q, h) later (λ x had joins.
    let q_is : page_with p groups first.0 ≡ q = ap (λ z. z.0) (same_Some _ _ joins) in
    let h_is : x ≡ h = ap (λ z. z.1) (same_Some _ _ joins) in
    let there = alone_is_read p (p.head ++ chosen groups first.0) from x had in
    let front : first.0 ≡ take (held_by p.head) x.head =
    sym (first_values p.head (chosen groups first.0) from first there.0 was there.1) ∙ ap (take (held_by p.head)) there.2 in
    let took = written (page_with p groups first.0) from x (chosen_exact p groups first.0 exact) had in
    rw (← q_is, ← h_is) (ap (page_with p groups) front, took.0, took.1)))

-- what the law of the crate below says of pages that were written
abbrev pub Again : Type 0
Again = (p : Page) (h : Holding) → (is_none p.counted ≡ false → length (spell_page p h) ≤ 2040) → IsTrue (page_sound p) → page_fits p h ≡ true → read_page p (spell_page p h) ≡ Some h

pub is_read_again : Again → (p : Page) (groups : List Group) (h : Holding) → IsTrue (grouped_sound p groups)
    → page_fits (page_with p groups (take (held_by p.head) h.head)) h ≡ true
    → read_grouped p groups (spell_page (page_with p groups (take (held_by p.head) h.head)) h)
    ≡ Some (page_with p groups (take (held_by p.head) h.head), h)
unfolding read_grouped
is_read_again again p groups h sound fit =
    let values = take (held_by p.head) h.head in
    let q = page_with p groups values in
    let from = spell_page q h in
    let read : read_page q from ≡ Some h = again q h (λ never. cc) (chosen_sound p groups values sound) fit in
    let there = alone_is_read p (p.head ++ chosen groups values) from h read in
    let front = first_are_read p.head (chosen groups values) from there.0 there.1 in
    let taken : take (held_by p.head) there.0.0 ≡ front.0.0 = first_values p.head (chosen groups values) from front.0 there.0 front.1 there.1 in
    let same : front.0.0 ≡ values = ◌∙◌ {a = front.0.0} (sym {b = front.0.0} taken) (ap (take (held_by p.head)) there.2) in
    rw front.1 (
    ap (λ z. ◌>>=◌ {B = Page × Holding} (read_page (page_with p groups z) from) (λ h. Some (page_with p groups z, h))) same
    ∙ rw read refl)
