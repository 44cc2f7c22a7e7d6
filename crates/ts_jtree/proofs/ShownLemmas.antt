-- Attributes put one after another.
use Rattle.std.proofs.Common.{◌≡◌, ℕ, ◌+◌, ◌<◌, ◌≤◌, true, List, [], ◌∷◌, length, drop, refl, sym, ap, ◌∙◌, get_or, map, Bor}
use Rattle.std.specs.Prelude.{Option, Some, None, slice_get, option_map}
use Rattle.std.proofs.lemmas.List.{drop_all}
use Rattle.std.proofs.lemmas.Option.{slice_get-map}
use Rattle.serde_json.specs.Data.{Members}
use Rattle.ts_fields.specs.declared.field.Field.{Field}
use Rattle.ts_fields.specs.declared.field.FieldValue.{FieldValue}
use Rattle.ts_fields.specs.declared.field.Kind.{Kind}
use Rattle.ts_fields.specs.declared.field.Kind.TheVariants.{Number, Reserved, Zeros, Ones, Free, Flag, Start, Duration, Decimal, Language, CountedText, Text, CountedHex, Hex}
use Rattle.ts_fields.specs.Fitting.{fits, field_fits}
use Rattle.ts_fields.specs.Layout as layout
use Rattle.ts_fields.specs.Layout.{Row, Held, held, row, rows_of}
use Rattle.ts_fields.specs.Reading.{are_printable}
use Rattle.ts_fields.specs.Spelling.{holds}
use Rattle.ts_jtree.specs.Shown.{put_attribute, put_attributes, is_shown, are_shown}
use Rattle.ts_jtree.proofs.RowLemmas.{both, rows_left, drop_twice, first_of_rest}

-- a row more
pub shown_more : (fields : List Field) (i : ℕ) (d : Field) (values : List Held) (next : ℕ) (value : Option Held)
    (now new whole : Members) → i < length fields → value ≡ slice_get values next
    → put_attributes (rows_of (drop i fields)) (drop next values) now ≡ whole
    → new ≡ put_attribute (get_or fields i d).kind (row (get_or fields i d)).name value now
    → put_attributes (rows_of (drop (i + 1) fields)) (drop (next + holds (get_or fields i d).kind) values) new ≡ whole
unfolding put_attributes
shown_more fields i d values next value now new whole inside found so_far is =
    let kind = (get_or fields i d).kind in
    let name = (row (get_or fields i d)).name in
    let rest = rows_of (drop (i + 1) fields) in
    let left : rows_of (drop i fields) ≡ row (get_or fields i d) ∷ rest = rows_left fields i d inside in
    let first : slice_get (drop next values) 0 ≡ slice_get values next = first_of_rest values next in
    let others : drop (holds kind) (drop next values) ≡ drop (next + holds kind) values = drop_twice next (holds kind) values in
    let step : put_attributes (row (get_or fields i d) ∷ rest) (drop next values) now ≡ put_attributes rest (drop (next + holds kind) values) (put_attribute kind name (slice_get values next) now) =
    ap (λ vs. put_attributes rest vs (put_attribute kind name (slice_get (drop next values) 0) now)) others
    ∙ ap (λ v. put_attributes rest (drop (next + holds kind) values) (put_attribute kind name v now)) first in
    ap (put_attributes rest (drop (next + holds kind) values)) (is ∙ ap (λ v. put_attribute kind name v now) found)
    ∙ sym step ∙ sym (ap (λ rs. put_attributes rs (drop next values) now) left) ∙ so_far

pub shown_done : (fields : List Field) (i : ℕ) (values : List Held) (now whole : Members) → length fields ≤ i
    → put_attributes (rows_of (drop i fields)) values now ≡ whole → now ≡ whole
unfolding put_attributes
shown_done fields i values now whole all so_far =
    let none : drop i fields ≡ [] = drop_all i fields all in rw none at so_far

pub shown_first : (fields : List Field) (i : ℕ) (d : Field) (values : List Held) (next : ℕ) (value : Option Held)
    → i < length fields → value ≡ slice_get values next
    → are_shown (rows_of (drop i fields)) (drop next values) ≡ true
    → (is_shown (get_or fields i d).kind value ≡ true)
    × (are_shown (rows_of (drop (i + 1) fields)) (drop (next + holds (get_or fields i d).kind) values) ≡ true)
unfolding are_shown
shown_first fields i d values next value inside found all =
    let kind = (get_or fields i d).kind in
    let left : rows_of (drop i fields) ≡ row (get_or fields i d) ∷ rows_of (drop (i + 1) fields) = rows_left fields i d inside in
    let first : slice_get (drop next values) 0 ≡ slice_get values next = first_of_rest values next in
    let others : drop (holds kind) (drop next values) ≡ drop (next + holds kind) values = drop_twice next (holds kind) values in
    let e = rw (left, first, others) at all in
    let parts = both _ _ e in
    (ap (is_shown kind) found ∙ parts.0, parts.1)

through : (found : Option (Bor FieldValue))
    → option_map (λ v. held v.now) found ≡ option_map held (option_map (λ v. v.now) found)
through None = refl
through (Some x) = refl

-- what a value of the code holds
pub held_at : (found : Option (Bor FieldValue)) (values : List FieldValue) (i : ℕ)
    → option_map (λ v. v.now) found ≡ slice_get values i
    → option_map (λ v. held v.now) found ≡ slice_get (map held values) i
held_at found values i is = through found ∙ ap (option_map held) is ∙ sym (slice_get-map held values i)

field_shown : (k : Kind) (value : Option Held) → field_fits k value ≡ true → is_shown k value ≡ true
field_shown Language None fit = refl
field_shown Language (Some (layout.number n)) fit = refl
field_shown Language (Some (layout.bytes b)) fit = (both _ (are_printable b) fit).1
field_shown (Number count) value fit = refl
field_shown (Reserved count) value fit = refl
field_shown (Zeros count) value fit = refl
field_shown (Ones count) value fit = refl
field_shown (Free count) value fit = refl
field_shown Flag value fit = refl
field_shown Start value fit = refl
field_shown Duration value fit = refl
field_shown (Decimal digits) value fit = refl
field_shown CountedText value fit = refl
field_shown Text value fit = refl
field_shown Hex value fit = refl
field_shown CountedHex value fit = refl

-- what fits its rows can be shown
pub fit_shown : (rs : List Row) (values : List Held) → fits rs values ≡ true → are_shown rs values ≡ true
unfolding fits are_shown
fit_shown [] values fit = refl
fit_shown (r ∷ rs) values fit =
    let parts = both (field_fits r.kind (slice_get values 0)) (fits rs (drop (holds r.kind) values)) fit in
    rw (field_shown r.kind (slice_get values 0) parts.0, fit_shown rs (drop (holds r.kind) values) parts.1) refl

-- without a value nothing is put
pub none_put : (kind : Kind) (name : List ℕ) (ms : Members) → put_attribute kind name None ms ≡ ms
unfolding put_attribute
none_put (Number count) name ms = refl
none_put (Reserved count) name ms = refl
none_put (Zeros count) name ms = refl
none_put _ name ms = refl
