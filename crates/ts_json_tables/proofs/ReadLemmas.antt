-- What is read from an element is what its rows can hold.
use Rattle.std.proofs.Common.{◌≡◌, ℕ, ◌+◌, ◌-◌, ◌^◌, Bool, true, false, List, [], ◌∷◌, ◌++◌, length, drop, refl, sym, ap, ◌∙◌, arith, subst, ◌⊎◌, inl, inr}
use Rattle.std.specs.Prelude.{◌&&◌, ◌||◌, Option, Some, None, Ok, Err, option_to_list, is_none, slice_get, nat_lt, nat_le}
use Rattle.std.specs.List.{list_all}
use Rattle.std.proofs.lemmas.Bool.{and_from, ltb-true, lt-ltb}
use Rattle.serde_json.specs.Data.{Data, Items, no_items, item, Members}
use Rattle.serde_json.specs.Find.{get_member}
use Rattle.ts_fields.specs.declared.field.Kind.{Kind}
use Rattle.ts_fields.specs.declared.field.Kind.TheVariants.{Number, Ones, Free, Flag, Start, Duration, Decimal, Reserved, Zeros, Language, CountedText, Text, CountedHex, Hex}
use Rattle.ts_fields.specs.Fitting.{fits, field_fits}
use Rattle.ts_fields.specs.Layout.{Row, Held, number, bytes}
use Rattle.ts_fields.specs.Spelling.{holds}
use Rattle.ts_jtree.specs.Attributes.{attribute_of, duration_attribute, flag_attribute, holds_number, number_at, number_attribute, number_in, read_attribute, read_attributes, start_attribute, within}
use Rattle.ts_jtree.specs.Faults.{Reading, at_child, or_refuse}
use Rattle.ts_jtree.specs.Numbers.{number_of}
use Rattle.ts_jtree.specs.Shown.{are_within, value_within}
use Rattle.ts_json_tables.specs.HeadReading.{default_below}
use Rattle.ts_json_tables.specs.TableReading.{count_of, read_each}
use Rattle.ts_json_tables.proofs.NumberLemmas.{flag_small, number_small, tested}
use Rattle.ts_json_tables.proofs.StepLemmas.{both, child_ok, same_ok, then_ok}
use Rattle.ts_json_tables.proofs.TimeLemmas.{duration_good, start_good}

-- ---- children

pub each_all : {A : Type 0} (read : Data → Reading A) (test : A → Bool) (place : ℕ) (nodes : Items) (xs : List A)
    → ((d : Data) (x : A) → read d ≡ Ok x → test x ≡ true) → read_each read place nodes ≡ Ok xs → list_all test xs ≡ true
unfolding read_each
each_all read test place no_items xs all is = ap (list_all test) (sym (same_ok [] xs is))
each_all read test place (item value more) xs all is =
    then_ok (at_child place (read value)) _ xs is (λ x was later.
    then_ok (read_each read (place + 1) more) _ xs later (λ others had joins.
    ap (list_all test) (sym (same_ok (x ∷ others) xs joins))
    ∙ and_from (test x) (list_all test others) (all value x (child_ok place (read value) x was)) (each_all read test (place + 1) more others all had)))

pub each_count : {A : Type 0} (read : Data → Reading A) (place : ℕ) (nodes : Items) (xs : List A)
    → read_each read place nodes ≡ Ok xs → length xs ≡ count_of nodes
unfolding read_each
each_count read place no_items xs is = ap length (sym (same_ok [] xs is))
each_count read place (item value more) xs is =
    then_ok (at_child place (read value)) _ xs is (λ x was later.
    then_ok (read_each read (place + 1) more) _ xs later (λ others had joins.
    let e = same_ok (x ∷ others) xs joins in
    omega (arith, ap length e, each_count read (place + 1) more others had)))

-- ---- rows of numbers and times

-- rows of numbers, flags and times, whose defaults they can hold; a number with a range has no default
abbrev pub is_plain : Kind → Option ℕ → Option (ℕ × ℕ) → Bool
is_plain (Number c) absent range = nat_lt 0 (2 ^ c) && (default_below absent (2 ^ c) && (is_none absent || is_none range))
is_plain (Ones c) absent range = is_none range
is_plain (Free c) absent range = is_none range
is_plain Flag absent range = default_below absent 2 && is_none range
is_plain Start absent range = is_none range
is_plain Duration absent range = is_none range
is_plain _ absent range = false

abbrev pub is_plain_kind : Row → Bool
is_plain_kind r = is_plain r.kind r.absent r.range

abbrev pub are_plain : List Row → Bool
are_plain rs = list_all is_plain_kind rs

number_within : (absent : Option ℕ) (range : Option (ℕ × ℕ)) (widest : ℕ) (key : List ℕ) (ms : Members) (n : ℕ)
    → (is_none absent || is_none range) ≡ true → number_attribute absent range widest key ms ≡ Ok n → within range n ≡ true
unfolding number_attribute number_in
number_within absent None widest key ms n plain is = refl
number_within (Some m) (Some x) widest key ms n plain is = cc
number_within None (Some x) widest key ms n plain is = go (get_member key ms) is
  where
    go : (o : Option Data) → number_at None (Some x) widest key o ≡ Ok n → within (Some x) n ≡ true
    go None is = cc
    go (Some value) is =
        then_ok (or_refuse (number_of value) key _) _ n is (λ m was later.
        let parts = tested (nat_le m widest && within (Some x) m) m n _ later in
        subst (λ k. within (Some x) k ≡ true) parts.1 (both (nat_le m widest) (within (Some x) m) parts.0).1)

held_fits : (read : Reading ℕ) (kind : Kind) (range : Option (ℕ × ℕ)) (v : Option Held)
    → ((n : ℕ) → read ≡ Ok n → (field_fits kind (Some (number n)) ≡ true) × (within range n ≡ true))
    → holds_number read ≡ Ok v → (h : Held) × ((v ≡ Some h) × ((field_fits kind (Some h) ≡ true) × (value_within range (Some h) ≡ true)))
held_fits (Ok n) kind range v good is = (number n, (sym (same_ok _ _ is), good n refl))
held_fits (Err fault) kind range v good is = cc

none_within : (range : Option (ℕ × ℕ)) (n : ℕ) → is_none range ≡ true → within range n ≡ true
none_within None n is = refl
none_within (Some x) n is = cc

-- the value of a row; none for reserved bits
abbrev IsGood : Kind → Option (ℕ × ℕ) → Option Held → Type 0
IsGood kind range v =
    ((v ≡ None) × ((holds kind ≡ 0) × (((w : Option Held) → field_fits kind w ≡ true) × (is_none range ≡ true))))
    ⊎ ((h : Held) × ((v ≡ Some h) × ((holds kind ≡ 1) × ((field_fits kind (Some h) ≡ true) × (value_within range (Some h) ≡ true)))))

kind_good : (kind : Kind) (name : List ℕ) (absent : Option ℕ) (range : Option (ℕ × ℕ)) (ms : Members) (v : Option Held)
    → is_plain kind absent range ≡ true → attribute_of kind name absent range ms ≡ Ok v → IsGood kind range v
unfolding attribute_of
kind_good (Number c) name absent range ms v plain is =
    let a = both (nat_lt 0 (2 ^ c)) _ plain in
    let b = both (default_below absent (2 ^ c)) (is_none absent || is_none range) a.1 in
    let found = held_fits (number_attribute absent range (2 ^ c - 1) name ms) (Number c) range v (λ n had.
    (lt-ltb n (2 ^ c) (number_small absent range c name ms n (ltb-true 0 (2 ^ c) a.0) b.0 had), number_within absent range (2 ^ c - 1) name ms n b.1 had)) is in
    inr (found.0, (found.1.0, (refl, found.1.1)))
kind_good (Ones c) name absent range ms v plain is = inl (sym (same_ok _ _ is), (refl, ((λ w. refl), plain)))
kind_good (Free c) name absent range ms v plain is = inl (sym (same_ok _ _ is), (refl, ((λ w. refl), plain)))
kind_good Flag name absent range ms v plain is =
    let a = both (default_below absent 2) (is_none range) plain in
    let found = held_fits (flag_attribute absent name ms) Flag range v (λ n had.
    (lt-ltb n 2 (flag_small absent name ms n a.0 had), none_within range n a.1)) is in
    inr (found.0, (found.1.0, (refl, found.1.1)))
kind_good Start name absent range ms v plain is =
    let found = held_fits (start_attribute name ms) Start range v (λ n had.
    (start_good name ms n had, none_within range n plain)) is in
    inr (found.0, (found.1.0, (refl, found.1.1)))
kind_good Duration name absent range ms v plain is =
    let found = held_fits (duration_attribute name ms) Duration range v (λ n had.
    (duration_good name ms n had, none_within range n plain)) is in
    inr (found.0, (found.1.0, (refl, found.1.1)))
kind_good (Decimal c) name absent range ms v plain is = cc
kind_good (Reserved c) name absent range ms v plain is = cc
kind_good (Zeros c) name absent range ms v plain is = cc
kind_good Language name absent range ms v plain is = cc
kind_good CountedText name absent range ms v plain is = cc
kind_good Text name absent range ms v plain is = cc
kind_good Hex name absent range ms v plain is = cc
kind_good CountedHex name absent range ms v plain is = cc

none_range : (range : Option (ℕ × ℕ)) (w : Option Held) → is_none range ≡ true → value_within range w ≡ true
none_range (Some x) w is = cc
none_range None None is = refl
none_range None (Some (number n)) is = refl
none_range None (Some (bytes b)) is = refl

one_good : (n : ℕ) (kind : Kind) (range : Option (ℕ × ℕ)) (rs : List Row) (v : Option Held) (more : List Held)
    → n ≡ holds kind → IsGood kind range v → fits rs more ≡ true → are_within rs more ≡ true
    → ((field_fits kind (slice_get (option_to_list v ++ more) 0) && fits rs (drop n (option_to_list v ++ more))) ≡ true)
    × ((value_within range (slice_get (option_to_list v ++ more) 0) && are_within rs (drop n (option_to_list v ++ more))) ≡ true)
one_good n kind range rs v more count (inl none) fit inside =
    rw (count, none.1.0, none.0) (rw (none.1.1.0 (slice_get more 0), fit) refl, rw (none_range range (slice_get more 0) none.1.1.1, inside) refl)
one_good n kind range rs v more count (inr one) fit inside =
    rw (count, one.1.1.0, one.1.0) (rw (one.1.1.1.0, fit) refl, rw (one.1.1.1.1, inside) refl)

-- values that are read fit their rows and are in their ranges
pub read_good : (rs : List Row) (ms : Members) (values : List Held) → are_plain rs ≡ true
    → read_attributes rs ms ≡ Ok values → (fits rs values ≡ true) × (are_within rs values ≡ true)
unfolding read_attributes fits are_within
read_good [] ms values plain is =
    let e = same_ok [] values is in subst (λ vs. (fits [] vs ≡ true) × (are_within [] vs ≡ true)) e (refl, refl)
read_good (r ∷ rs) ms values plain is =
    let parts = both (is_plain_kind r) (are_plain rs) plain in
    then_ok (read_attribute r ms) _ values is (λ v was later.
    then_ok (read_attributes rs ms) _ values later (λ more had joins.
    let rest = read_good rs ms more parts.1 had in
    let here = one_good (holds r.kind) r.kind r.range rs v more refl (kind_good r.kind r.name r.absent r.range ms v parts.0 was) rest.0 rest.1 in
    subst (λ vs. (fits (r ∷ rs) vs ≡ true) × (are_within (r ∷ rs) vs ≡ true)) (same_ok (option_to_list v ++ more) values joins) here))
