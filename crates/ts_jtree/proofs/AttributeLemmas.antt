-- Attributes one after another.
use Rattle.std.proofs.Common.{◌≡◌, ℕ, ◌+◌, ◌<◌, ◌≤◌, List, [], ◌∷◌, ◌++◌, length, drop, refl, sym, ap, ◌∙◌, append_assoc, append-nil, get_or}
use Rattle.std.specs.Prelude.{Option, Ok, Err, option_to_list}
use Rattle.std.proofs.lemmas.List.{drop_all}
use Rattle.serde_json.specs.Data.{Members}
use Rattle.ts_fields.specs.declared.field.Field.{Field}
use Rattle.ts_fields.specs.Layout.{Row, Held, row, rows_of}
use Rattle.ts_jtree.specs.declared.fault.ReadRefusal.{ReadRefusal}
use Rattle.ts_jtree.specs.declared.fault.ReadRefusal.TheVariants.{Json, NoMemory}
use Rattle.ts_jtree.specs.Attributes.{read_attribute, read_attributes}
use Rattle.ts_jtree.specs.Faults.{Reading, Stops, ◌>>=◌}
use Rattle.ts_jtree.proofs.RowLemmas.{rows_left}

-- what is read, after what was read before
abbrev pub with_values : List Held → Reading (List Held) → Reading (List Held)
with_values front read = read >>= λ more. Ok (front ++ more)

join : (front b : List Held) (read : Reading (List Held))
    → with_values front (read >>= λ more. Ok (b ++ more)) ≡ with_values (front ++ b) read
join front b (Ok more) = ap Ok (sym (append_assoc front b more))
join front b (Err fault) = refl

values_more : (front : List Held) (r : Row) (rs : List Row) (ms : Members) (value : Option Held)
    → read_attribute r ms ≡ Ok value
    → with_values front (read_attributes (r ∷ rs) ms)
    ≡ with_values (front ++ option_to_list value) (read_attributes rs ms)
unfolding read_attributes
values_more front r rs ms value is = rw is (join front (option_to_list value) (read_attributes rs ms))

pub values_go_on : (fields : List Field) (i : ℕ) (d : Field) (front : List Held) (ms : Members)
    (value : Option Held) (whole : Reading (List Held)) → i < length fields
    → read_attribute (row (get_or fields i d)) ms ≡ Ok value
    → with_values front (read_attributes (rows_of (drop i fields)) ms) ≡ whole
    → with_values (front ++ option_to_list value) (read_attributes (rows_of (drop (i + 1) fields)) ms) ≡ whole
values_go_on fields i d front ms value whole inside is so_far =
    sym (values_more front (row (get_or fields i d)) (rows_of (drop (i + 1) fields)) ms value is)
    ∙ sym (ap (λ rs. with_values front (read_attributes rs ms)) (rows_left fields i d inside)) ∙ so_far

stop_first : (refusal : ReadRefusal) (front : List Held) (r : Row) (rs : List Row) (ms : Members)
    (whole : Reading (List Held)) → with_values front (read_attributes (r ∷ rs) ms) ≡ whole
    → Stops refusal (read_attribute r ms) → Stops refusal whole
unfolding read_attributes
stop_first (Json fault) front r rs ms whole so_far is = sym so_far ∙ rw is refl
stop_first NoMemory front r rs ms whole so_far is = tt

pub values_stop : (refusal : ReadRefusal) (fields : List Field) (i : ℕ) (d : Field) (front : List Held)
    (ms : Members) (whole : Reading (List Held)) → i < length fields
    → with_values front (read_attributes (rows_of (drop i fields)) ms) ≡ whole
    → Stops refusal (read_attribute (row (get_or fields i d)) ms) → Stops refusal whole
values_stop refusal fields i d front ms whole inside so_far is =
    stop_first refusal front (row (get_or fields i d)) (rows_of (drop (i + 1) fields)) ms whole
    (sym (ap (λ rs. with_values front (read_attributes rs ms)) (rows_left fields i d inside)) ∙ so_far) is

pub values_done : (fields : List Field) (i : ℕ) (front : List Held) (ms : Members)
    (whole : Reading (List Held)) → length fields ≤ i
    → with_values front (read_attributes (rows_of (drop i fields)) ms) ≡ whole → whole ≡ Ok front
unfolding read_attributes
values_done fields i front ms whole all so_far =
    let none : rows_of (drop i fields) ≡ [] = ap rows_of (drop_all i fields all) in
    let e = rw none at so_far in
    sym e ∙ ap Ok (append-nil front)
