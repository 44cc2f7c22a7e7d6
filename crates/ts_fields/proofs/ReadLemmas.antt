-- What the calls of the reader read.
use Rattle.std.proofs.Common.{◌≡◌, ℕ, suc, ◌+◌, ◌-◌, ◌*◌, ◌≤◌, ◌<◌, Bool, true, false, List, [], ◌∷◌, ◌++◌, length, take, drop, refl, sym, ap, ◌∙◌, arith, append_assoc, append-nil, pow-suc, ◌^◌}
use Rattle.std.specs.Prelude.{Option, Some, None, nat_le, option_map, option_to_list, map, get_or, IsTrue, ◌&&◌}
use Rattle.std.proofs.lemmas.Bool.{le-leb, lt-leb, leb-true}
use Rattle.std.proofs.lemmas.Option.{cond_some}
use Rattle.std.proofs.lemmas.List.{length-take-le}
use Rattle.std.proofs.lemmas.Grind.{common_steps}
use Rattle.std.proofs.lemmas.List.{drop_more, map-append}
use Rattle.ts_fields.specs.Layout.{Row, Held, row, held}
use Rattle.ts_fields.specs.declared.field.Kind.TheVariants.{Number}
use Rattle.ts_fields.specs.declared.field.Field.{Field}
use Rattle.ts_fields.specs.declared.field.FieldValue.{FieldValue}
use Rattle.ts_fields.specs.declared.reader.NotRead.{NotRead}
use Rattle.ts_fields.specs.declared.reader.NotRead.TheVariants as stops
use Rattle.ts_bit_rows.specs.BitRow.{field}
use Rattle.ts_fields.specs.Bits.{number_of, bits_of}
use Rattle.ts_fields.specs.Reading.{read_number, read_bytes, read_decimal, read_field, read_rows, Fails, ◌>>=◌}
use Rattle.ts_fields.specs.SoundRows.{is_sound, are_sound}
use Rattle.ts_fields.proofs.BitLemmas.{left, field-number_of, number_of-lt}

pub drop_twice : {A : Type 0} (m n : ℕ) (l : List A) → drop n (drop m l) ≡ drop (m + n) l
drop_twice m n l = grind (arith, common_steps)

-- a number that is there
pub read_there : (row : List ℕ) (at count n : ℕ) → n ≡ field row at count → at + count ≤ 8 * length row
    → read_number count (drop at (bits_of row)) ≡ Some (n, drop (at + count) (bits_of row))
unfolding read_number
read_there row at count n is inside =
    let room : count ≤ length (drop at (bits_of row)) = omega (arith, left row at) in
    let test = le-leb count (length (drop at (bits_of row))) room in
    rw test (ap (λ m. Some (m, drop count (drop at (bits_of row)))) (sym (is ∙ field-number_of row at count inside)) ∙ ap (λ l. Some (n, l)) (drop_twice at count (bits_of row)))

pub read_none : (row : List ℕ) (at count : ℕ) → at ≤ 8 * length row → 8 * length row < at + count
    → read_number count (drop at (bits_of row)) ≡ None
unfolding read_number
read_none row at count some short =
    let room : length (drop at (bits_of row)) < count = omega (arith, left row at) in
    let test = lt-leb count (length (drop at (bits_of row))) room in
    rw test refl

-- what is read has no more bits than were asked for
pub read_small : (count : ℕ) (from : List Bool) (n : ℕ) (after : List Bool)
    → read_number count from ≡ Some (n, after) → n < 2 ^ count
unfolding read_number
read_small count from n after is =
    let parts = cond_some (nat_le count (length from)) (number_of (take count from), drop count from) (n, after) is in
    let n_is : number_of (take count from) ≡ n = ap (λ x. x.0) parts.1 in
    let room : count ≤ length from = leb-true count (length from) parts.0 in
    let long : length (take count from) ≡ count = length-take-le count from room in
    let small : number_of (take count from) < 2 ^ length (take count from) = number_of-lt (take count from) in
    rw (n_is, long) at small

-- what is before, and what is read
abbrev pub with_front : {A : Type 0} → List A → Option (List A × List Bool) → Option (List A × List Bool)
with_front front read = read >>= λ x. Some (front ++ x.0, x.1)

join_front : {A : Type 0} (front : List A) (b : List A) (read : Option (List A × List Bool))
    → with_front front (read >>= λ x. Some (b ++ x.0, x.1)) ≡ with_front (front ++ b) read
join_front front b None = refl
join_front front b (Some x) = ap (λ l. Some (l, x.1)) (sym (append_assoc front b x.0))

-- one byte more
pub bytes_more : (front : List ℕ) (left : ℕ) (from : List Bool) (byte : ℕ) (after : List Bool)
    → read_number 8 from ≡ Some (byte, after)
    → with_front front (read_bytes (suc left) from) ≡ with_front (front ++ byte ∷ []) (read_bytes left after)
unfolding read_bytes
bytes_more front left from byte after is = rw is (join_front front (byte ∷ []) (read_bytes left after))

pub bytes_cut : (front : List ℕ) (left : ℕ) (from : List Bool) → read_number 8 from ≡ None
    → with_front front (read_bytes (suc left) from) ≡ None
unfolding read_bytes
bytes_cut front left from is = rw is refl

pub bytes_none : (front : List ℕ) (from : List Bool)
    → with_front front (read_bytes 0 from) ≡ Some (front, from)
unfolding read_bytes
bytes_none front from = ap (λ l. Some (l, from)) (append-nil front)

-- the digits read so far, and what the others read
abbrev pub with_digits : ℕ → ℕ → Option (ℕ × List Bool) → Option (ℕ × List Bool)
with_digits number left read = read >>= λ x. Some (number * 10 ^ left + x.0, x.1)

joined : (number digit left : ℕ) (read : Option (ℕ × List Bool))
    → with_digits number (suc left) (read >>= λ x. Some (digit * 10 ^ left + x.0, x.1)) ≡ with_digits (10 * number + digit) left read
joined number digit left None = refl
joined number digit left (Some x) = ap (λ n. Some (n, x.1)) (rw pow-suc (omega arith))

pub digits_more : (number left : ℕ) (from : List Bool) (digit : ℕ) (after : List Bool)
    → read_number 4 from ≡ Some (digit, after) → digit ≤ 9
    → with_digits number (suc left) (read_decimal (suc left) from) ≡ with_digits (10 * number + digit) left (read_decimal left after)
unfolding read_decimal
digits_more number left from digit after is small =
    let test = le-leb digit 9 small in
    rw (is, test) (joined number digit left (read_decimal left after))

pub digits_cut : (number left : ℕ) (from : List Bool) → read_number 4 from ≡ None
    → with_digits number (suc left) (read_decimal (suc left) from) ≡ None
unfolding read_decimal
digits_cut number left from is = rw is refl

pub digits_large : (number left : ℕ) (from : List Bool) (digit : ℕ) (after : List Bool)
    → read_number 4 from ≡ Some (digit, after) → 9 < digit
    → with_digits number (suc left) (read_decimal (suc left) from) ≡ None
unfolding read_decimal
digits_large number left from digit after is large =
    let test = lt-leb digit 9 large in
    rw (is, test) refl

pub digits_none : (number : ℕ) (from : List Bool)
    → with_digits number 0 (read_decimal 0 from) ≡ Some (number, from)
unfolding read_decimal
digits_none number from = ap (λ n. Some (n, from)) (omega arith)

-- the same as a loop goes over them
pub bytes_goes_on : (front : List ℕ) (count counter : ℕ) (from : List Bool) (byte : ℕ)
    (after : List Bool) (whole : Option (List ℕ × List Bool)) → counter < count
    → Some (byte, after) ≡ read_number 8 from
    → with_front front (read_bytes (count - counter) from) ≡ whole
    → with_front (front ++ byte ∷ []) (read_bytes (count - (counter + 1)) after) ≡ whole
bytes_goes_on front count counter from byte after whole inside is so_far =
    let more : count - counter ≡ suc (count - (counter + 1)) = omega arith in
    sym (bytes_more front (count - (counter + 1)) from byte after (sym is)) ∙ sym (ap (λ n. with_front front (read_bytes n from)) more) ∙ so_far

pub bytes_ends : (front : List ℕ) (count counter : ℕ) (from : List Bool)
    (whole : Option (List ℕ × List Bool)) → counter < count → None ≡ read_number 8 from
    → with_front front (read_bytes (count - counter) from) ≡ whole → whole ≡ None
bytes_ends front count counter from whole inside is so_far =
    let more : count - counter ≡ suc (count - (counter + 1)) = omega arith in
    sym so_far ∙ ap (λ n. with_front front (read_bytes n from)) more ∙ bytes_cut front (count - (counter + 1)) from (sym is)

pub bytes_done : (front : List ℕ) (count counter : ℕ) (from : List Bool)
    (whole : Option (List ℕ × List Bool)) → count ≤ counter
    → with_front front (read_bytes (count - counter) from) ≡ whole → whole ≡ Some (front, from)
bytes_done front count counter from whole all so_far =
    let none : count - counter ≡ 0 = omega arith in
    sym so_far ∙ ap (λ n. with_front front (read_bytes n from)) none ∙ bytes_none front from

pub digits_go_on : (number count counter : ℕ) (from : List Bool) (digit : ℕ) (after : List Bool)
    (whole : Option (ℕ × List Bool)) → counter < count → digit ≤ 9
    → Some (digit, after) ≡ read_number 4 from
    → with_digits number (count - counter) (read_decimal (count - counter) from) ≡ whole
    → with_digits (10 * number + digit) (count - (counter + 1)) (read_decimal (count - (counter + 1)) after) ≡ whole
digits_go_on number count counter from digit after whole inside small is so_far =
    let more : count - counter ≡ suc (count - (counter + 1)) = omega arith in
    sym (digits_more number (count - (counter + 1)) from digit after (sym is) small) ∙ sym (ap (λ n. with_digits number n (read_decimal n from)) more) ∙ so_far

pub digits_end : (number count counter : ℕ) (from : List Bool) (whole : Option (ℕ × List Bool))
    → counter < count → None ≡ read_number 4 from
    → with_digits number (count - counter) (read_decimal (count - counter) from) ≡ whole → None ≡ whole
digits_end number count counter from whole inside is so_far =
    let more : count - counter ≡ suc (count - (counter + 1)) = omega arith in
    sym (sym so_far ∙ ap (λ n. with_digits number n (read_decimal n from)) more ∙ digits_cut number (count - (counter + 1)) from (sym is))

pub digits_break : (number count counter : ℕ) (from : List Bool) (digit : ℕ) (after : List Bool)
    (whole : Option (ℕ × List Bool)) → counter < count → 9 < digit
    → Some (digit, after) ≡ read_number 4 from
    → with_digits number (count - counter) (read_decimal (count - counter) from) ≡ whole → None ≡ whole
digits_break number count counter from digit after whole inside large is so_far =
    let more : count - counter ≡ suc (count - (counter + 1)) = omega arith in
    sym (sym so_far ∙ ap (λ n. with_digits number n (read_decimal n from)) more ∙ digits_large number (count - (counter + 1)) from digit after (sym is) large)

pub digits_done : (number count counter : ℕ) (from : List Bool) (whole : Option (ℕ × List Bool))
    → count ≤ counter
    → with_digits number (count - counter) (read_decimal (count - counter) from) ≡ whole
    → Some (number, from) ≡ whole
digits_done number count counter from whole all so_far =
    let none : count - counter ≡ 0 = omega arith in
    sym (sym so_far ∙ ap (λ n. with_digits number n (read_decimal n from)) none ∙ digits_none number from)

-- the fields of some rows, one after another
pub rows_more : (front : List Held) (r : Row) (rs : List Row) (from : List Bool) (value : Option Held)
    (after : List Bool) → read_field r.kind from ≡ Some (value, after)
    → with_front front (read_rows (r ∷ rs) from) ≡ with_front (front ++ option_to_list value) (read_rows rs after)
unfolding read_rows
rows_more front r rs from value after is = rw is (join_front front (option_to_list value) (read_rows rs after))

pub rows_none : (front : List Held) (from : List Bool)
    → with_front front (read_rows [] from) ≡ Some (front, from)
unfolding read_rows
rows_none front from = ap (λ l. Some (l, from)) (append-nil front)

pub rows_cut : (front : List Held) (r : Row) (rs : List Row) (from : List Bool)
    → read_field r.kind from ≡ None → with_front front (read_rows (r ∷ rs) from) ≡ None
unfolding read_rows
rows_cut front r rs from is = rw is refl

-- the reason why one field was not read is the reason for all
pub rows_stop : (stop : NotRead) (front : List Held) (r : Row) (rs : List Row) (from : List Bool)
    (whole : Option (List Held × List Bool))
    → with_front front (read_rows (r ∷ rs) from) ≡ whole → Fails stop (read_field r.kind from)
    → Fails stop whole
rows_stop stops.Outside front r rs from whole so_far is = sym so_far ∙ rows_cut front r rs from is
rows_stop stops.NoMemory front r rs from whole so_far is = tt

-- the rows that are left
pub rows_left : (fields : List Field) (i : ℕ) (d : Field) → i < length fields
    → map row (drop i fields) ≡ row (get_or fields i d) ∷ map row (drop (i + 1) fields)
rows_left fields i d inside = ap (map row) (drop_more fields i d inside)

pub held_more : (old new : List FieldValue) (value : Option FieldValue)
    → new ≡ old ++ option_to_list value
    → map held new ≡ map held old ++ option_to_list (option_map held value)
held_more old new None is = ap (map held) is ∙ map-append held old []
held_more old new (Some v) is = ap (map held) is ∙ map-append held old (v ∷ [])

pub rows_go_on : (fields : List Field) (i : ℕ) (d : Field) (front : List Held) (from : List Bool)
    (value : Option Held) (after : List Bool) (whole : Option (List Held × List Bool)) → i < length fields
    → read_field (get_or fields i d).kind from ≡ Some (value, after)
    → with_front front (read_rows (map row (drop i fields)) from) ≡ whole
    → with_front (front ++ option_to_list value) (read_rows (map row (drop (i + 1) fields)) after) ≡ whole
rows_go_on fields i d front from value after whole inside is so_far =
    sym (rows_more front (row (get_or fields i d)) (map row (drop (i + 1) fields)) from value after is)
    ∙ sym (ap (λ rs. with_front front (read_rows rs from)) (rows_left fields i d inside)) ∙ so_far

pub rows_stop_at : (stop : NotRead) (fields : List Field) (i : ℕ) (d : Field) (front : List Held)
    (from : List Bool) (whole : Option (List Held × List Bool)) → i < length fields
    → with_front front (read_rows (map row (drop i fields)) from) ≡ whole
    → Fails stop (read_field (get_or fields i d).kind from) → Fails stop whole
rows_stop_at stop fields i d front from whole inside so_far is =
    rows_stop stop front (row (get_or fields i d)) (map row (drop (i + 1) fields)) from whole
    (sym (ap (λ rs. with_front front (read_rows rs from)) (rows_left fields i d inside)) ∙ so_far) is

pub right_true : (a b : Bool) → IsTrue (a && b) → IsTrue b
right_true true b h = h
right_true false b h = cc

pub left_true : (a b : Bool) → IsTrue (a && b) → IsTrue a
left_true true b h = refl
left_true false b h = cc

pub sound_more : (fields : List Field) (i : ℕ) → i < length fields
    → IsTrue (are_sound (map row (drop i fields))) → IsTrue (are_sound (map row (drop (i + 1) fields)))
sound_more fields i inside all = let d : Field = record { name = record { ref_ptr = (0, 0); now = [] }; kind = Number 0; absent = None; range = None } in
    right_true (is_sound (get_or fields i d).kind) _ (rw (rows_left fields i d inside) at all)
