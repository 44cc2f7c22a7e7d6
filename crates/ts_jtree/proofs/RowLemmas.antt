-- Rows and values one after another.
use Rattle.std.proofs.Common.{◌≡◌, ℕ, zero, suc, ◌+◌, ◌^◌, ◌<◌, ◌≤◌, Bool, true, false, List, [], ◌∷◌, ◌++◌, length, drop, get_or, map, refl, ap, ◌∙◌, arith}
use Rattle.std.specs.Prelude.{◌&&◌, ◌||◌, not, IsTrue, Option, Some, None, option_map, option_to_list, slice_get}
use Rattle.std.proofs.lemmas.Grind.{common_steps}
use Rattle.std.proofs.lemmas.List.{drop_more, map-append}
use Rattle.ts_fields.specs.declared.field.Kind.TheVariants.{Number}
use Rattle.ts_fields.specs.declared.field.Field.{Field}
use Rattle.ts_fields.specs.declared.field.FieldValue.{FieldValue}
use Rattle.ts_fields.specs.Layout.{held, row, rows_of}
use Rattle.ts_fields.specs.SoundRows.{is_sound, are_sound}

-- both halves of a test
pub both : (a b : Bool) → (a && b) ≡ true → (a ≡ true) × (b ≡ true)
both true b is = (refl, is)
both false b is = cc

pub not_true : (b : Bool) → not b ≡ true → b ≡ false
not_true true is = cc
not_true false is = refl

pub neither : (a b : Bool) → (a || b) ≡ false → (a ≡ false) × (b ≡ false)
neither true b is = cc
neither false b is = (refl, is)

pub first_true : (a b : Bool) → a ≡ true → (a || b) ≡ true
first_true true b is = refl
first_true false b is = cc

pub second_true : (a b : Bool) → b ≡ true → (a || b) ≡ true
second_true true b is = refl
second_true false b is = is

-- the rows from a place on
pub rows_left : (fields : List Field) (i : ℕ) (d : Field) → i < length fields
    → rows_of (drop i fields) ≡ row (get_or fields i d) ∷ rows_of (drop (i + 1) fields)
rows_left fields i d inside = ap rows_of (drop_more fields i d inside)

pub drop_twice : {A : Type 0} (m n : ℕ) (l : List A) → drop n (drop m l) ≡ drop (m + n) l
drop_twice m n l = grind (arith, common_steps)

pub first_of_rest : {A : Type 0} (xs : List A) (n : ℕ) → slice_get (drop n xs) 0 ≡ slice_get xs n
first_of_rest xs zero = refl
first_of_rest [] (suc n) = refl
first_of_rest (x ∷ xs) (suc n) = first_of_rest xs n

-- a value more
pub held_more : (old new : List FieldValue) (value : Option FieldValue) → new ≡ old ++ option_to_list value
    → map held new ≡ map held old ++ option_to_list (option_map held value)
held_more old new None is = ap (map held) is ∙ map-append held old []
held_more old new (Some v) is = ap (map held) is ∙ map-append held old (v ∷ [])

right_true : (a b : Bool) → IsTrue (a && b) → IsTrue b
right_true true b is = is
right_true false b is = cc

pub sound_more : (fields : List Field) (i : ℕ) → i < length fields
    → IsTrue (are_sound (rows_of (drop i fields))) → IsTrue (are_sound (rows_of (drop (i + 1) fields)))
sound_more fields i inside all =
    let d : Field = record { name = record { ref_ptr = (0, 0); now = [] }; kind = Number 0; absent = None; range = None } in
    right_true (is_sound (get_or fields i d).kind) _ (rw (rows_left fields i d inside) at all)

left_true : (a b : Bool) → IsTrue (a && b) → IsTrue a
left_true true b is = refl
left_true false b is = cc

-- the row at a place
pub sound_first : (fields : List Field) (i : ℕ) (d : Field) → i < length fields
    → IsTrue (are_sound (rows_of (drop i fields))) → IsTrue (is_sound (get_or fields i d).kind)
sound_first fields i d inside all =
    left_true (is_sound (get_or fields i d).kind) (are_sound (rows_of (drop (i + 1) fields))) (rw (rows_left fields i d inside) at all)

pub ten_power : (digits : ℕ) → 1 ≤ 10 ^ digits
ten_power zero = omega arith
ten_power (suc digits) = omega (arith, ten_power digits)
