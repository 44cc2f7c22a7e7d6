-- What the calls that write count and write.
use Rattle.std.proofs.Common.{◌≡◌, ℕ, ◌+◌, ◌<◌, ◌≤◌, List, [], ◌∷◌, ◌++◌, length, take, drop, map, get_or, sym, ap, ◌∙◌, arith}
use Rattle.std.proofs.Common.{Bool, append_assoc}
use Rattle.std.proofs.lemmas.List.{take_more, take_all, map-append, take-map, drop-map}
use Rattle.ts_fields.specs.declared.field.Field.{Field}
use Rattle.ts_fields.specs.declared.field.FieldValue.{FieldValue}
use Rattle.ts_fields.specs.Layout.{Row, row, rows_of, held}
use Rattle.ts_fields.specs.Spelling.{holds, spell_rows}
use Rattle.ts_table_rows.specs.TablePages.{TablePage}
use Rattle.ts_table_rows.specs.BodySpelling.{held_count, common_values, head_values, spell_own, spell_after, spell_parts}

count-append : (a b : List Row) → held_count (a ++ b) ≡ held_count a + held_count b
count-append [] b = omega arith
count-append (r ∷ a) b = omega (arith, count-append a b)

pub count_more : (rows : List Field) (i : ℕ) (d : Field) (count more : ℕ) → i < length rows → count ≡ held_count (rows_of (take i rows)) → more ≡ holds (get_or rows i d).kind → count + more ≡ held_count (rows_of (take (i + 1) rows))
count_more rows i d count more inside so_far is =
    let split : rows_of (take (i + 1) rows) ≡ rows_of (take i rows) ++ row (get_or rows i d) ∷ [] = ap rows_of (take_more rows i d inside) ∙ map-append row (take i rows) (get_or rows i d ∷ []) in
    omega (arith, ap held_count split, count-append (rows_of (take i rows)) (row (get_or rows i d) ∷ []))

pub count_all : (rows : List Field) (i count : ℕ) → length rows ≤ i → count ≡ held_count (rows_of (take i rows)) → count ≡ held_count (rows_of rows)
count_all rows i count all so_far = so_far ∙ ap (λ fs. held_count (rows_of fs)) (take_all i rows all)

-- a body written part by part
pub parts_written : (p : TablePage) (values common head : List FieldValue) (count : ℕ) (own items : List ℕ) (old one two three four : List Bool) → count ≡ held_count p.common → common ≡ take count values → head ≡ drop count values
    → one ≡ old ++ spell_rows p.common (map held common) → two ≡ one ++ spell_rows p.head (map held head) → three ≡ two ++ spell_own p.loop_form own → four ≡ three ++ spell_after p.items items
    → four ≡ old ++ spell_parts p (map held values) own items
unfolding spell_parts
parts_written p values common head count own items old one two three four count_is common_is head_is a b c d =
    let first : map held common ≡ common_values p (map held values) = ap (map held) common_is ∙ ap (λ n. map held (take n values)) count_is ∙ sym (take-map held (held_count p.common) values) in
    let others : map held head ≡ head_values p (map held values) = ap (map held) head_is ∙ ap (λ n. map held (drop n values)) count_is ∙ sym (drop-map held (held_count p.common) values) in
    let ca = spell_rows p.common (common_values p (map held values)) in
    let cb = spell_rows p.head (head_values p (map held values)) in
    let cc' = spell_own p.loop_form own in
    let cd = spell_after p.items items in
    let front : two ≡ (old ++ ca) ++ cb = b ∙ ap (λ l. l ++ spell_rows p.head (map held head)) (a ∙ ap (λ v. old ++ spell_rows p.common v) first) ∙ ap (λ v. (old ++ ca) ++ spell_rows p.head v) others in
    d ∙ ap (λ l. l ++ cd) (c ∙ ap (λ l. l ++ cc') front)
    ∙ append_assoc ((old ++ ca) ++ cb) cc' cd ∙ append_assoc (old ++ ca) cb (cc' ++ cd) ∙ append_assoc old ca (cb ++ (cc' ++ cd))
