-- Fields that are there by others: their attributes differ, and the first attributes are read as they were shown.
use Rattle.std.proofs.Common.{◌≡◌, ℕ, suc, ◌+◌, Bool, true, false, List, [], ◌∷◌, ◌++◌, length, take, refl, sym, ap, ◌∙◌, append_assoc, arith}
use Rattle.std.specs.Prelude.{◌&&◌, ◌||◌, not, is_none, if◌then◌else◌, Option, Ok, option_to_list}
use Rattle.std.specs.List.{list_all}
use Rattle.serde_json.specs.Data.{Members}
use Rattle.ts_fields.specs.declared.field.Kind.{Kind}
use Rattle.ts_fields.specs.declared.field.Kind.TheVariants.{Number, Reserved, Zeros, Ones, Free, Flag, Start, Duration, Decimal, Language, CountedText, CountedHex, Text, Hex}
use Rattle.ts_fields.specs.Layout.{Row, Held}
use Rattle.ts_fields.specs.Spelling.{holds}
use Rattle.ts_fields.specs.Bodies.{held_by}
use Rattle.ts_groups.specs.Groups.{Group, chosen, is_there}
use Rattle.ts_jtree.specs.Attributes.{attribute_of, hex_key, holds_bytes, holds_number, read_attribute, read_attributes, table_key}
use Rattle.ts_jtree.specs.Elements.{name_key, nodes_key}
use Rattle.ts_jtree.specs.Faults.{Reading}
use Rattle.ts_jtree.specs.Shown.{is_key, is_key_of, keys_differ, rows_show}
use Rattle.ts_json_descr.proofs.StepLemmas.{both, not_true, same_ok, then_ok}

-- rows without ranges
abbrev pub plain : List Row → Bool
plain rs = list_all (λ r. is_none r.range) rs

-- rows that can be shown as an element and read again
abbrev pub show_again : List Row → Bool
show_again rs = rows_show rs && plain rs

-- the fields of all groups
abbrev pub every : List Group → List Row
every [] = []
every (g ∷ gs) = g.rows ++ every gs

neither : (a b : Bool) → (a || b) ≡ false → (a ≡ false) × (b ≡ false)
neither true b is = cc
neither false b is = (refl, is)

key_parts : (a b : List Row) (key : List ℕ) → is_key (a ++ b) key ≡ false → (is_key a key ≡ false) × (is_key b key ≡ false)
key_parts [] b key is = (refl, is)
key_parts (r ∷ rs) b key is =
    let one = neither (is_key_of r.kind r.name key) (is_key (rs ++ b) key) is in
    let more = key_parts rs b key one.1 in
    (rw (one.0, more.0) refl, more.1)

key_joins : (a b : List Row) (key : List ℕ) → is_key a key ≡ false → is_key b key ≡ false → is_key (a ++ b) key ≡ false
key_joins [] b key first second = second
key_joins (r ∷ rs) b key first second =
    let one = neither (is_key_of r.kind r.name key) (is_key rs key) first in
    rw (one.0, key_joins rs b key one.1 second) refl

-- a key that no row has is none of fewer rows
key_fewer : (a b c : List Row) (key : List ℕ) → not (is_key (a ++ (b ++ c)) key) ≡ true → not (is_key (a ++ c) key) ≡ true
key_fewer a b c key is =
    let outer = key_parts a (b ++ c) key (not_true _ is) in
    let inner = key_parts b c key outer.1 in
    rw (key_joins a c key outer.0 inner.1) refl

differ_after : (b c : List Row) → keys_differ (b ++ c) ≡ true → keys_differ c ≡ true
differ_after [] c is = is
differ_after (r ∷ rs) c is =
    differ_after rs c (both (not (is_key (rs ++ c) r.name) && not (is_key (rs ++ c) (hex_key r.name)) && not (is_key (rs ++ c) (table_key r.name))) (keys_differ (rs ++ c)) is).1

differ_fewer : (a b c : List Row) → keys_differ (a ++ (b ++ c)) ≡ true → keys_differ (a ++ c) ≡ true
differ_fewer [] b c is = differ_after b c is
differ_fewer (r ∷ rs) b c is =
    let all = rs ++ (b ++ c) in
    let one = both (not (is_key all r.name) && not (is_key all (hex_key r.name)) && not (is_key all (table_key r.name))) (keys_differ all) is in
    let two = both (not (is_key all r.name) && not (is_key all (hex_key r.name))) (not (is_key all (table_key r.name))) one.0 in
    let three = both (not (is_key all r.name)) (not (is_key all (hex_key r.name))) two.0 in
    rw (key_fewer rs b c r.name three.0, key_fewer rs b c (hex_key r.name) three.1, key_fewer rs b c (table_key r.name) two.1, differ_fewer rs b c one.1) refl

plain_after : (b c : List Row) → plain (b ++ c) ≡ true → plain c ≡ true
plain_after [] c is = is
plain_after (r ∷ rs) c is = plain_after rs c (both (is_none r.range) (plain (rs ++ c)) is).1

plain_fewer : (a b c : List Row) → plain (a ++ (b ++ c)) ≡ true → plain (a ++ c) ≡ true
plain_fewer [] b c is = plain_after b c is
plain_fewer (r ∷ rs) b c is =
    let one = both (is_none r.range) (plain (rs ++ (b ++ c))) is in
    rw (one.0, plain_fewer rs b c one.1) refl

show_fewer : (a b c : List Row) → show_again (a ++ (b ++ c)) ≡ true → show_again (a ++ c) ≡ true
show_fewer a b c is =
    let all = a ++ (b ++ c) in
    let one = both (rows_show all) (plain all) is in
    let two = both (keys_differ all) (not (is_key all name_key) && not (is_key all nodes_key)) one.0 in
    let three = both (not (is_key all name_key)) (not (is_key all nodes_key)) two.1 in
    rw (differ_fewer a b c two.0, key_fewer a b c name_key three.0, key_fewer a b c nodes_key three.1, plain_fewer a b c one.1) refl

-- where all fields that may be there can be shown, those that are there can
pub show_chosen : (a : List Row) (groups : List Group) (values : List Held) → show_again (a ++ every groups) ≡ true
    → show_again (a ++ chosen groups values) ≡ true
show_chosen a [] values is = is
show_chosen a (g ∷ gs) values is =
    go (is_there g.when values) (λ all. show_chosen (a ++ g.rows) gs values all) (λ all. show_chosen a gs values all)
  where
    go : (there : Bool) → (show_again ((a ++ g.rows) ++ every gs) ≡ true → show_again ((a ++ g.rows) ++ chosen gs values) ≡ true) → (show_again (a ++ every gs) ≡ true → show_again (a ++ chosen gs values) ≡ true) → show_again (a ++ ((if there then g.rows else []) ++ chosen gs values)) ≡ true
    go true more fewer =
        ap show_again (sym (append_assoc a g.rows (chosen gs values)))
        ∙ more (ap show_again (append_assoc a g.rows (every gs)) ∙ is)
    go false more fewer = fewer (show_fewer a g.rows (every gs) is)

-- ---- the first attributes

one_number : (read : Reading ℕ) (y : Option Held) → holds_number read ≡ Ok y → length (option_to_list y) ≡ 1
one_number read y is = then_ok read _ y is (λ n was joins. ap (λ z. length (option_to_list z)) (sym (same_ok _ _ joins)))

one_row : (read : Reading (List ℕ)) (y : Option Held) → holds_bytes read ≡ Ok y → length (option_to_list y) ≡ 1
one_row read y is = then_ok read _ y is (λ b was joins. ap (λ z. length (option_to_list z)) (sym (same_ok _ _ joins)))

-- an attribute gives as many values as its kind holds
attribute_holds : (k : Kind) (name : List ℕ) (absent : Option ℕ) (range : Option (ℕ × ℕ)) (ms : Members) (y : Option Held)
    → attribute_of k name absent range ms ≡ Ok y → length (option_to_list y) ≡ holds k
unfolding attribute_of
attribute_holds (Ones count) name absent range ms y is = ap (λ z. length (option_to_list z)) (sym (same_ok _ _ is))
attribute_holds (Free count) name absent range ms y is = ap (λ z. length (option_to_list z)) (sym (same_ok _ _ is))
attribute_holds (Number count) name absent range ms y is = one_number _ y is
attribute_holds (Reserved count) name absent range ms y is = one_number _ y is
attribute_holds (Zeros count) name absent range ms y is = one_number _ y is
attribute_holds Flag name absent range ms y is = one_number _ y is
attribute_holds Start name absent range ms y is = one_number _ y is
attribute_holds Duration name absent range ms y is = one_number _ y is
attribute_holds (Decimal digits) name absent range ms y is = one_number _ y is
attribute_holds Language name absent range ms y is = one_row _ y is
attribute_holds CountedText name absent range ms y is = one_row _ y is
attribute_holds Text name absent range ms y is = one_row _ y is
attribute_holds Hex name absent range ms y is = one_row _ y is
attribute_holds CountedHex name absent range ms y is = one_row _ y is

take_over : (first more : List Held) (m : ℕ) → take (length first + m) (first ++ more) ≡ first ++ take m more
take_over [] more m = let same : 0 + m ≡ m = omega arith in ap (λ n. take n more) same
take_over (v ∷ vs) more m =
    let up : suc (length vs) + m ≡ suc (length vs + m) = omega arith in
    ap (λ n. take n (v ∷ (vs ++ more))) up ∙ ap (λ l. v ∷ l) (take_over vs more m)

-- where the attributes of all rows are read, those of the first ones give the first values
pub first_attributes : (a b : List Row) (ms : Members) (values : List Held) → read_attributes (a ++ b) ms ≡ Ok values
    → read_attributes a ms ≡ Ok (take (held_by a) values)
unfolding read_attributes
first_attributes [] b ms values is = refl
first_attributes (r ∷ rs) b ms values is =
    then_ok (read_attribute r ms) _ values is (λ x was later.
    then_ok (read_attributes (rs ++ b) ms) (λ more. Ok (option_to_list x ++ more)) values later (λ more had joins.
    let values_are : option_to_list x ++ more ≡ values = same_ok _ _ joins in
    let long = attribute_holds r.kind r.name r.absent r.range ms x was in
    let taken : take (holds r.kind + held_by rs) values ≡ option_to_list x ++ take (held_by rs) more =
    ap (take (holds r.kind + held_by rs)) (sym values_are) ∙ ap (λ n. take (n + held_by rs) (option_to_list x ++ more)) (sym long)
    ∙ take_over (option_to_list x) more (held_by rs) in
    rw (was, first_attributes rs b ms more had) (ap Ok (sym taken))))
