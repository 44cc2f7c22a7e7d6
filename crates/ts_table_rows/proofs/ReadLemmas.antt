-- Fields of a body one after another.
use Rattle.std.proofs.Common.{◌≡◌, ℕ, ◌+◌, ◌<◌, ◌≤◌, Bool, true, false, List, [], ◌∷◌, ◌++◌, length, drop, refl, sym, ap, ◌∙◌, subst, append_assoc, append-nil, map, get_or}
use Rattle.std.specs.Prelude.{Option, Some, None, Result, Ok, Err, option_map, option_to_list, IsTrue, ◌&&◌}
use Rattle.std.proofs.lemmas.List.{drop_all, drop_more, map-append}
use Rattle.ts_fields.specs.declared.field.Field.{Field}
use Rattle.ts_fields.specs.declared.field.Kind.TheVariants.{Number}
use Rattle.ts_fields.specs.declared.field.FieldValue.{FieldValue}
use Rattle.ts_fields.specs.declared.reader.NotRead.{NotRead}
use Rattle.ts_fields.specs.declared.reader.NotRead.TheVariants as not_read
use Rattle.ts_fields.specs.Layout.{Row, Held, row, rows_of, held}
use Rattle.ts_fields.specs.Reading as fields
use Rattle.ts_fields.specs.Reading.{read_field, read_rows, Fails}
use Rattle.ts_fields.specs.SoundRows.{is_sound, are_sound}
use Rattle.ts_table_rows.specs.BodyReading.{Fault, Stops, IsStopOf, or_broken, read_fields, ◌>>=◌}
use Rattle.ts_table_rows.specs.declared.fault.TableRule.{TableRule}
use Rattle.ts_table_rows.specs.declared.fault.BodyStop.{BodyStop}

pub same_ok : {A : Type 0} (x y : A) → ◌≡◌ {A = Result A Fault} (Ok x) (Ok y) → x ≡ y
same_ok x y is = cc

pub same_some : {A : Type 0} (x y : A) → ◌≡◌ {A = Option A} (Some x) (Some y) → x ≡ y
same_some x y is = cc

-- what a reading that goes on has read first
pub then_ok : {A B P : Type 0} (r : Result A Fault) (next : A → Result B Fault) (y : B) → (r >>= next) ≡ Ok y → ((x : A) → r ≡ Ok x → next x ≡ Ok y → P) → P
then_ok (Ok x) next y is goal = goal x refl is
then_ok (Err fault) next y is goal = cc

pub then_some : {A B P : Type 0} (r : Option A) (next : A → Option B) (y : B) → (fields.◌>>=◌ r next) ≡ Some y → ((x : A) → r ≡ Some x → next x ≡ Some y → P) → P
then_some (Some x) next y is goal = goal x refl is
then_some None next y is goal = cc

pub ok_some : {A : Type 0} (o : Option A) (rule : TableRule) (left : ℕ) (x : A) → or_broken o rule left ≡ Ok x → o ≡ Some x
ok_some None rule left x is = cc
ok_some (Some y) rule left x is = ap Some (let e : y ≡ x = cc in e)

-- values before those that are read after them
abbrev pub with_front : List Held → Result (List Held × List Bool) Fault → Result (List Held × List Bool) Fault
with_front front read = read >>= λ x. Ok (front ++ x.0, x.1)

join_front : (front b : List Held) (read : Result (List Held × List Bool) Fault) → with_front front (read >>= λ x. Ok (b ++ x.0, x.1)) ≡ with_front (front ++ b) read
join_front front b (Ok x) = ap (λ l. Ok (l, x.1)) (sym (append_assoc front b x.0))
join_front front b (Err fault) = refl

first_more : (rule : TableRule) (behind : ℕ) (front : List Held) (r : Row) (rs : List Row) (from : List Bool) (value : Option Held) (after : List Bool) → read_field r.kind from ≡ Some (value, after)
    → with_front front (read_fields rule behind (r ∷ rs) from) ≡ with_front (front ++ option_to_list value) (read_fields rule behind rs after)
unfolding read_fields
first_more rule behind front r rs from value after is = rw is (join_front front (option_to_list value) (read_fields rule behind rs after))

rows_left : (rows : List Field) (i : ℕ) (d : Field) → i < length rows → rows_of (drop i rows) ≡ row (get_or rows i d) ∷ rows_of (drop (i + 1) rows)
rows_left rows i d inside = ap rows_of (drop_more rows i d inside)

pub fields_go_on : (rule : TableRule) (behind : ℕ) (rows : List Field) (i : ℕ) (d : Field) (front : List Held) (from : List Bool) (value : Option Held) (after : List Bool) (whole : Result (List Held × List Bool) Fault) → i < length rows
    → read_field (get_or rows i d).kind from ≡ Some (value, after) → with_front front (read_fields rule behind (rows_of (drop i rows)) from) ≡ whole
    → with_front (front ++ option_to_list value) (read_fields rule behind (rows_of (drop (i + 1) rows)) after) ≡ whole
fields_go_on rule behind rows i d front from value after whole inside is so_far =
    sym (first_more rule behind front (row (get_or rows i d)) (rows_of (drop (i + 1) rows)) from value after is)
    ∙ sym (ap (λ rs. with_front front (read_fields rule behind rs from)) (rows_left rows i d inside)) ∙ so_far

first_stops : (stop : NotRead) (answer : BodyStop) (rule : TableRule) (behind left : ℕ) (front : List Held) (r : Row) (rs : List Row) (from : List Bool) (whole : Result (List Held × List Bool) Fault) → left ≡ length from + behind
    → IsStopOf stop rule left answer → with_front front (read_fields rule behind (r ∷ rs) from) ≡ whole → Fails stop (read_field r.kind from) → Stops answer whole
unfolding read_fields
first_stops not_read.Outside answer rule behind left front r rs from whole left_is is so_far fails = rw is (sym so_far ∙ rw (fails, left_is) refl)
first_stops not_read.NoMemory answer rule behind left front r rs from whole left_is is so_far fails = rw is tt

pub fields_stop : (stop : NotRead) (answer : BodyStop) (rule : TableRule) (behind left : ℕ) (rows : List Field) (i : ℕ) (d : Field) (front : List Held) (from : List Bool) (whole : Result (List Held × List Bool) Fault) → i < length rows → left ≡ length from + behind
    → IsStopOf stop rule left answer → with_front front (read_fields rule behind (rows_of (drop i rows)) from) ≡ whole → Fails stop (read_field (get_or rows i d).kind from) → Stops answer whole
fields_stop stop answer rule behind left rows i d front from whole inside left_is is so_far fails =
    first_stops stop answer rule behind left front (row (get_or rows i d)) (rows_of (drop (i + 1) rows)) from whole left_is is
    (sym (ap (λ rs. with_front front (read_fields rule behind rs from)) (rows_left rows i d inside)) ∙ so_far) fails

pub fields_done : (rule : TableRule) (behind : ℕ) (rows : List Field) (i : ℕ) (front : List Held) (from : List Bool) (whole : Result (List Held × List Bool) Fault) → length rows ≤ i → with_front front (read_fields rule behind (rows_of (drop i rows)) from) ≡ whole → whole ≡ Ok (front, from)
unfolding read_fields
fields_done rule behind rows i front from whole all so_far =
    let none : rows_of (drop i rows) ≡ [] = ap rows_of (drop_all i rows all) in
    let e = rw none at so_far in
    sym e ∙ ap (λ l. Ok (l, from)) (append-nil front)

right_true : (a b : Bool) → IsTrue (a && b) → IsTrue b
right_true true b h = h
right_true false b h = cc

left_true : (a b : Bool) → IsTrue (a && b) → IsTrue a
left_true true b h = refl
left_true false b h = cc

pub sound_first : (rows : List Field) (i : ℕ) (d : Field) → i < length rows → IsTrue (are_sound (rows_of (drop i rows))) → IsTrue (is_sound (get_or rows i d).kind)
sound_first rows i d inside sound =
    left_true (is_sound (get_or rows i d).kind) (are_sound (rows_of (drop (i + 1) rows))) (subst (λ rs. IsTrue (are_sound rs)) (rows_left rows i d inside) sound)

pub sound_more : (rows : List Field) (i : ℕ) → i < length rows → IsTrue (are_sound (rows_of (drop i rows))) → IsTrue (are_sound (rows_of (drop (i + 1) rows)))
sound_more rows i inside sound =
    let d : Field = record { name = record { ref_ptr = (0, 0); now = [] }; kind = Number 0; absent = None; range = None } in
    right_true (is_sound (get_or rows i d).kind) (are_sound (rows_of (drop (i + 1) rows))) (subst (λ rs. IsTrue (are_sound rs)) (rows_left rows i d inside) sound)

pub held_more : (old new : List FieldValue) (value : Option FieldValue) → new ≡ old ++ option_to_list value → map held new ≡ map held old ++ option_to_list (option_map held value)
held_more old new None is = ap (map held) is ∙ map-append held old []
held_more old new (Some v) is = ap (map held) is ∙ map-append held old (v ∷ [])

-- fields that are present are rows that are read
pub fields_are_rows : (rule : TableRule) (behind : ℕ) (rs : List Row) (from : List Bool) (x : List Held × List Bool) → read_fields rule behind rs from ≡ Ok x → read_rows rs from ≡ Some x
unfolding read_fields read_rows
fields_are_rows rule behind [] from x is = ap Some (same_ok _ _ is)
fields_are_rows rule behind (r ∷ rs) from x is =
    then_ok (or_broken (read_field r.kind from) rule (length from + behind)) _ x is (λ one was later.
    then_ok (read_fields rule behind rs one.1) _ x later (λ more had joins.
    rw (ok_some _ _ _ _ was, fields_are_rows rule behind rs one.1 more had) (ap Some (same_ok _ _ joins))))

-- and rows that are read are fields that are present
pub rows_are_fields : (rule : TableRule) (behind : ℕ) (rs : List Row) (from : List Bool) (x : List Held × List Bool) → read_rows rs from ≡ Some x → read_fields rule behind rs from ≡ Ok x
unfolding read_fields read_rows
rows_are_fields rule behind [] from x is = ap Ok (same_some _ _ is)
rows_are_fields rule behind (r ∷ rs) from x is =
    then_some (read_field r.kind from) _ x is (λ one was later.
    then_some (read_rows rs one.1) _ x later (λ more had joins.
    rw (was, rows_are_fields rule behind rs one.1 more had) (ap Ok (same_some _ _ joins))))
