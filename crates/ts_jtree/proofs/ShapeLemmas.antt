-- What is read from attributes has numbers where the rows ask for numbers.
use Rattle.std.proofs.Common.{◌≡◌, ℕ, true, List, [], ◌∷◌, ◌++◌, drop, refl}
use Rattle.std.specs.Prelude.{Option, Some, None, Ok, Err, slice_get, option_to_list}
use Rattle.serde_json.specs.Data.{Members}
use Rattle.ts_fields.specs.declared.field.Kind.{Kind}
use Rattle.ts_fields.specs.declared.field.Kind.TheVariants.{Number, Reserved, Zeros, Ones, Free, Flag, Start, Duration, Decimal, Language, CountedText, Text, CountedHex, Hex}
use Rattle.ts_fields.specs.Fitting.{field_shaped, is_number, shaped}
use Rattle.ts_fields.specs.Layout.{Row, Held, number, bytes}
use Rattle.ts_fields.specs.Spelling.{holds}
use Rattle.ts_jtree.specs.Attributes.{attribute_of, holds_bytes, holds_number, read_attributes}
use Rattle.ts_jtree.specs.Faults.{Reading}
use Rattle.ts_jtree.proofs.FaultLemmas.{same_ok, then_ok}

number_sort : (read : Reading ℕ) (value : Option Held) (more : List Held) → holds_number read ≡ Ok value
    → (is_number (slice_get (option_to_list value ++ more) 0) ≡ true) × (drop 1 (option_to_list value ++ more) ≡ more)
number_sort (Ok n) value more is = let e : Some (number n) ≡ value = same_ok _ _ is in rw (← e) (refl, refl)
number_sort (Err fault) value more is = cc

bytes_sort : (read : Reading (List ℕ)) (value : Option Held) (more : List Held) → holds_bytes read ≡ Ok value
    → (true ≡ true) × (drop 1 (option_to_list value ++ more) ≡ more)
bytes_sort (Ok b) value more is = let e : Some (bytes b) ≡ value = same_ok _ _ is in rw (← e) (refl, refl)
bytes_sort (Err fault) value more is = cc

none_sort : (value : Option Held) (more : List Held) → ◌≡◌ {A = Reading (Option Held)} (Ok None) (Ok value)
    → (true ≡ true) × (drop 0 (option_to_list value ++ more) ≡ more)
none_sort value more is = let e : None ≡ value = same_ok _ _ is in rw (← e) (refl, refl)

attribute_sort : (k : Kind) (key : List ℕ) (absent : Option ℕ) (range : Option (ℕ × ℕ)) (ms : Members)
    (value : Option Held) (more : List Held) → attribute_of k key absent range ms ≡ Ok value
    → (field_shaped k (slice_get (option_to_list value ++ more) 0) ≡ true)
    × (drop (holds k) (option_to_list value ++ more) ≡ more)
unfolding attribute_of
attribute_sort (Ones count) key absent range ms value more is = none_sort value more is
attribute_sort (Free count) key absent range ms value more is = none_sort value more is
attribute_sort (Number count) key absent range ms value more is = number_sort _ value more is
attribute_sort (Reserved count) key absent range ms value more is = number_sort _ value more is
attribute_sort (Zeros count) key absent range ms value more is = number_sort _ value more is
attribute_sort Flag key absent range ms value more is = number_sort _ value more is
attribute_sort Start key absent range ms value more is = number_sort _ value more is
attribute_sort Duration key absent range ms value more is = number_sort _ value more is
attribute_sort (Decimal digits) key absent range ms value more is = number_sort _ value more is
attribute_sort Language key absent range ms value more is = bytes_sort _ value more is
attribute_sort CountedText key absent range ms value more is = bytes_sort _ value more is
attribute_sort Text key absent range ms value more is = bytes_sort _ value more is
attribute_sort Hex key absent range ms value more is = bytes_sort _ value more is
attribute_sort CountedHex key absent range ms value more is = bytes_sort _ value more is

pub attributes_shaped : (rs : List Row) (ms : Members) (values : List Held) → read_attributes rs ms ≡ Ok values
    → shaped rs values ≡ true
unfolding read_attributes shaped
attributes_shaped [] ms values is = refl
attributes_shaped (r ∷ rs) ms values is =
    then_ok (attribute_of r.kind r.name r.absent r.range ms) _ values is (λ value was later.
    then_ok (read_attributes rs ms) (λ more. Ok (option_to_list value ++ more)) values later (λ more had joins.
    let e : option_to_list value ++ more ≡ values = same_ok _ _ joins in
    let sort = attribute_sort r.kind r.name r.absent r.range ms value more was in
    let others = attributes_shaped rs ms more had in
    rw (← e) (rw (sort.0, sort.1, others) refl)))
