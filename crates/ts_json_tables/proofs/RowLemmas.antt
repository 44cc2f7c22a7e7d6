-- Rows one after another, and the values that they hold.
use Rattle.std.proofs.Common.{◌≡◌, ℕ, ◌+◌, Bool, true, false, List, [], ◌∷◌, ◌++◌, length, drop, refl, sym, ap, ◌∙◌, arith, ◌⊎◌, inl, inr, length-append}
use Rattle.std.specs.Prelude.{◌&&◌, Option, Some, None, Ok, Err, option_to_list, slice_get, is_none}
use Rattle.std.specs.List.{list_all}
use Rattle.serde_json.specs.Data.{Members}
use Rattle.ts_fields.specs.declared.field.Kind.{Kind}
use Rattle.ts_fields.specs.declared.field.Kind.TheVariants.{Number, Reserved, Zeros, Ones, Free, Flag, Start, Duration, Decimal, Language, CountedText, Text, CountedHex, Hex}
use Rattle.ts_fields.specs.Fitting.{fits, field_fits}
use Rattle.ts_fields.specs.Layout.{Row, Held, number, bytes}
use Rattle.ts_fields.specs.Spelling.{holds}
use Rattle.ts_jtree.specs.Attributes.{attribute_of, read_attribute, read_attributes, holds_bytes, holds_number}
use Rattle.ts_jtree.specs.Faults.{Reading}
use Rattle.ts_jtree.specs.Shown.{are_within, value_within}
use Rattle.ts_table_rows.specs.BodySpelling.{held_count}
use Rattle.ts_json_tables.proofs.StepLemmas.{both, then_ok, same_ok}

number_count : (read : Reading ℕ) (v : Option Held) → holds_number read ≡ Ok v → length (option_to_list v) ≡ 1
number_count (Ok n) v is = ap (λ z. length (option_to_list z)) (sym (same_ok _ _ is))
number_count (Err fault) v is = cc

bytes_count : (read : Reading (List ℕ)) (v : Option Held) → holds_bytes read ≡ Ok v → length (option_to_list v) ≡ 1
bytes_count (Ok b) v is = ap (λ z. length (option_to_list z)) (sym (same_ok _ _ is))
bytes_count (Err fault) v is = cc

none_count : (v : Option Held) → ◌≡◌ {A = Reading (Option Held)} (Ok None) (Ok v) → length (option_to_list v) ≡ 0
none_count v is = ap (λ z. length (option_to_list z)) (sym (same_ok _ _ is))

-- a field holds as many values as it has attributes
attribute_count : (kind : Kind) (name : List ℕ) (absent : Option ℕ) (range : Option (ℕ × ℕ)) (ms : Members)
    (v : Option Held) → attribute_of kind name absent range ms ≡ Ok v → length (option_to_list v) ≡ holds kind
unfolding attribute_of
attribute_count (Number n) name absent range ms v is = number_count _ v is
attribute_count (Reserved n) name absent range ms v is = number_count _ v is
attribute_count (Zeros n) name absent range ms v is = number_count _ v is
attribute_count (Ones n) name absent range ms v is = none_count v is
attribute_count (Free n) name absent range ms v is = none_count v is
attribute_count Flag name absent range ms v is = number_count _ v is
attribute_count Start name absent range ms v is = number_count _ v is
attribute_count Duration name absent range ms v is = number_count _ v is
attribute_count (Decimal n) name absent range ms v is = number_count _ v is
attribute_count Language name absent range ms v is = bytes_count _ v is
attribute_count CountedText name absent range ms v is = bytes_count _ v is
attribute_count Text name absent range ms v is = bytes_count _ v is
attribute_count Hex name absent range ms v is = bytes_count _ v is
attribute_count CountedHex name absent range ms v is = bytes_count _ v is

pub row_count : (r : Row) (ms : Members) (v : Option Held) → read_attribute r ms ≡ Ok v → length (option_to_list v) ≡ holds r.kind
row_count r ms v is = attribute_count r.kind r.name r.absent r.range ms v is

-- as many values are read as rows hold
pub read_count : (rs : List Row) (ms : Members) (values : List Held) → read_attributes rs ms ≡ Ok values → length values ≡ held_count rs
unfolding read_attributes
read_count [] ms values is = ap length (sym (same_ok [] values is))
read_count (r ∷ rs) ms values is =
    then_ok (read_attribute r ms) _ values is (λ v was later.
    then_ok (read_attributes rs ms) _ values later (λ more had joins.
    let e : option_to_list v ++ more ≡ values = same_ok _ _ joins in
    ap length (sym e) ∙ length-append (option_to_list v) more
    ∙ ap (λ n. n + length more) (row_count r ms v was) ∙ ap (λ n. holds r.kind + n) (read_count rs ms more had)))

same_heads : (h k : Held) (x y : List Held) → h ∷ x ≡ k ∷ y → h ≡ k
same_heads h k x y is = cc

same_tails : (h k : Held) (x y : List Held) → h ∷ x ≡ k ∷ y → x ≡ y
same_tails h k x y is = cc

split_by : (Q : Type 0) (r : Row) (rs : List Row) (x y : List Held) (ms : Members) (v : Option Held) (more : List Held)
    → read_attribute r ms ≡ Ok v → length (option_to_list v) ≡ holds r.kind → option_to_list v ++ more ≡ x ++ y
    → length x ≡ holds r.kind + held_count rs
    → ((z : List Held) → length z ≡ held_count rs → more ≡ z ++ y → (read_attributes rs ms ≡ Ok z) × Q)
    → (read_attributes (r ∷ rs) ms ≡ Ok x) × Q
unfolding read_attributes
split_by Q r rs x y ms None more was count e n rest =
    let parts = rest x (omega (arith, n, count)) e in (rw (was, parts.0) refl, parts.1)
split_by Q r rs [] y ms (Some h) more was count e n rest = absurd (omega (arith, n, count))
split_by Q r rs (k ∷ x) y ms (Some h) more was count e n rest =
    let parts = rest x (omega (arith, n, count)) (same_tails h k more (x ++ y) e) in
    (rw (was, parts.0) (ap (λ z. Ok (z ∷ x)) (same_heads h k more (x ++ y) e)), parts.1)

-- what the first rows hold, and what those after them hold
pub split_read : (a b : List Row) (x y : List Held) (ms : Members) → length x ≡ held_count a
    → read_attributes (a ++ b) ms ≡ Ok (x ++ y) → (read_attributes a ms ≡ Ok x) × (read_attributes b ms ≡ Ok y)
unfolding read_attributes
split_read [] b [] y ms n is = (refl, is)
split_read [] b (h ∷ x) y ms n is = absurd (omega (arith, n))
split_read (r ∷ rs) b x y ms n is =
    then_ok (read_attribute r ms) _ (x ++ y) is (λ v was later.
    then_ok (read_attributes (rs ++ b) ms) _ (x ++ y) later (λ more had joins.
    split_by (read_attributes b ms ≡ Ok y) r rs x y ms v more was (row_count r ms v was) (same_ok _ _ joins) n
    (λ z count e. split_read rs b z y ms count (had ∙ ap Ok e))))

-- ---- values that fit

-- reserved bits fit anything, and other fields need a value
wants : (kind : Kind) → ((holds kind ≡ 0) × ((v : Option Held) → field_fits kind v ≡ true)) ⊎ ((holds kind ≡ 1) × (field_fits kind None ≡ false))
wants (Number n) = inr (refl, refl)
wants (Reserved n) = inr (refl, refl)
wants (Zeros n) = inr (refl, refl)
wants (Ones n) = inl (refl, λ v. refl)
wants (Free n) = inl (refl, λ v. refl)
wants Flag = inr (refl, refl)
wants Start = inr (refl, refl)
wants Duration = inr (refl, refl)
wants (Decimal n) = inr (refl, refl)
wants Language = inr (refl, refl)
wants CountedText = inr (refl, refl)
wants Text = inr (refl, refl)
wants Hex = inr (refl, refl)
wants CountedHex = inr (refl, refl)

fits_by : (n : ℕ) (kind : Kind) (rs b : List Row) (x y : List Held)
    → ((n ≡ 0) × ((v : Option Held) → field_fits kind v ≡ true)) ⊎ ((n ≡ 1) × (field_fits kind None ≡ false))
    → (field_fits kind (slice_get x 0) && fits rs (drop n x)) ≡ true
    → ((z : List Held) → fits rs z ≡ true → fits (rs ++ b) (z ++ y) ≡ true)
    → (field_fits kind (slice_get (x ++ y) 0) && fits (rs ++ b) (drop n (x ++ y))) ≡ true
fits_by n kind rs b x y (inl free) fit rest =
    let parts = both (field_fits kind (slice_get x 0)) (fits rs (drop n x)) fit in
    let later : fits rs x ≡ true = rw free.0 at parts.1 in
    rw (free.0, free.1 (slice_get (x ++ y) 0)) (rest x later)
fits_by n kind rs b [] y (inr one) fit rest =
    let parts = both (field_fits kind None) (fits rs (drop n [])) fit in absurd (false_is (sym one.1 ∙ parts.0))
  where
    false_is : false ≡ true → ⊥
    false_is is = cc
fits_by n kind rs b (h ∷ x) y (inr one) fit rest =
    let parts = both (field_fits kind (Some h)) (fits rs (drop n (h ∷ x))) fit in
    let later : fits rs x ≡ true = rw one.0 at parts.1 in
    rw (one.0, parts.0) (rest x later)

pub fits_append : (a b : List Row) (x y : List Held) → fits a x ≡ true → fits b y ≡ true → fits (a ++ b) (x ++ y) ≡ true
unfolding fits
fits_append [] b [] y first later = later
fits_append [] b (h ∷ x) y first later = cc
fits_append (r ∷ rs) b x y first later =
    fits_by (holds r.kind) r.kind rs b x y (wants r.kind) first (λ z fit. fits_append rs b z y fit later)

count_by : (n : ℕ) (kind : Kind) (rs : List Row) (x : List Held)
    → ((n ≡ 0) × ((v : Option Held) → field_fits kind v ≡ true)) ⊎ ((n ≡ 1) × (field_fits kind None ≡ false))
    → (field_fits kind (slice_get x 0) && fits rs (drop n x)) ≡ true
    → ((z : List Held) → fits rs z ≡ true → length z ≡ held_count rs) → length x ≡ n + held_count rs
count_by n kind rs x (inl free) fit rest =
    let parts = both (field_fits kind (slice_get x 0)) (fits rs (drop n x)) fit in
    let later : fits rs x ≡ true = rw free.0 at parts.1 in
    omega (arith, free.0, rest x later)
count_by n kind rs [] (inr one) fit rest =
    let parts = both (field_fits kind None) (fits rs (drop n [])) fit in absurd (false_is (sym one.1 ∙ parts.0))
  where
    false_is : false ≡ true → ⊥
    false_is is = cc
count_by n kind rs (h ∷ x) (inr one) fit rest =
    let parts = both (field_fits kind (Some h)) (fits rs (drop n (h ∷ x))) fit in
    let later : fits rs x ≡ true = rw one.0 at parts.1 in
    omega (arith, one.0, rest x later)

-- values that fit are as many as the rows hold
pub fits_count : (rs : List Row) (x : List Held) → fits rs x ≡ true → length x ≡ held_count rs
unfolding fits
fits_count [] [] fit = refl
fits_count [] (h ∷ x) fit = cc
fits_count (r ∷ rs) x fit = count_by (holds r.kind) r.kind rs x (wants r.kind) fit (fits_count rs)

-- ---- ranges

plain_one : (range : Option (ℕ × ℕ)) (value : Option Held) → is_none range ≡ true → value_within range value ≡ true
plain_one (Some x) value is = cc
plain_one None None is = refl
plain_one None (Some (number n)) is = refl
plain_one None (Some (bytes b)) is = refl

-- rows without ranges
abbrev pub plain : List Row → Bool
plain rs = list_all (λ r. is_none r.range) rs

pub plain_within : (rs : List Row) (values : List Held) → plain rs ≡ true → are_within rs values ≡ true
unfolding are_within
plain_within [] values is = refl
plain_within (r ∷ rs) values is =
    let parts = both (is_none r.range) (plain rs) is in
    rw (plain_one r.range (slice_get values 0) parts.0, plain_within rs (drop (holds r.kind) values) parts.1) refl

pub plain_append : (a b : List Row) → plain a ≡ true → plain b ≡ true → plain (a ++ b) ≡ true
plain_append [] b first later = later
plain_append (r ∷ rs) b first later =
    let parts = both (is_none r.range) (plain rs) first in rw (parts.0, plain_append rs b parts.1 later) refl
