-- A text in a table is its bytes in the table of the same name.
use Rattle.std.proofs.Common.{◌≡◌, ℕ, zero, suc, Bool, true, false, List, [], ◌∷◌, ◌++◌, length, drop, refl, sym, ap, ◌∙◌}
use Rattle.std.specs.Prelude.{nat_eq, nat_lt, not, bytes_eq, Option, Some, None, option_map, option_and_then, chars, encode_utf8_all, IsUtf8}
use Rattle.std.specs.List.{find, starts_with}
use Rattle.std.specs.Str.{is_utf8}
use Rattle.std.proofs.lemmas.Bool.Decides.{Decides-eqb}
use Rattle.std.proofs.lemmas.Option.{cond_some, same_Some}
use Rattle.std.proofs.lemmas.Slice.Eq.{bytes_eq-Decides, starts_is}
use Rattle.std.proofs.lemmas.Str.{IsUtf8-from_is_utf8, chars-encodes}
use Rattle.ts_charsets.specs.declared.charset.Charset.{Charset}
use Rattle.ts_charsets.specs.Alphabets.{Alphabet}
use Rattle.ts_charsets.specs.AlphabetTexts.{chars_in, bytes_in}
use Rattle.ts_charsets.specs.KnownAlphabets.{alphabet_for}
use Rattle.ts_charsets.specs.SingleSpelling.{are_bytes, spells_once}
use Rattle.ts_charsets.specs.TextTables.{TextTable, text_tables, has_name, names_differ, named_in, selected_in, table_named, text_by, bytes_by, text_after, tabled_text, tabled_bytes, bytes_by_table}
use Rattle.ts_charsets.proofs.SpellingLemmas.{both, then_some, mapped, back}

-- ---- bytes that are no UTF-8

utf8_by : (bs : List ℕ) (b : Bool) → is_utf8 bs ≡ b → (IsUtf8 bs → ⊥) → b ≡ false
utf8_by bs true is other = absurd (other (IsUtf8-from_is_utf8 bs is))
utf8_by bs false is other = refl

pub not_utf8 : (bs : List ℕ) → (IsUtf8 bs → ⊥) → is_utf8 bs ≡ false
not_utf8 bs other = utf8_by bs (is_utf8 bs) refl other

-- ---- a table that is found is the one of its name

not_true : (b : Bool) → not b ≡ true → b ≡ false
not_true true is = cc
not_true false is = refl

other_name : (t x : TextTable) (ts : List TextTable) (b : Bool) → bytes_eq x.name t.name ≡ b
    → has_name (x ∷ ts) t.name ≡ false → (b ≡ false) × (has_name ts t.name ≡ false)
other_name t x ts true same none = let f = rw same at none in cc
other_name t x ts false same none = let f = rw same at none in (refl, f)

-- no table of a list has this name, and so none that is found there
differs_next : (test : TextTable → Bool) (x t u : TextTable) (us : List TextTable) (b : Bool) → test u ≡ b
    → find test (u ∷ us) ≡ Some t → bytes_eq u.name x.name ≡ false
    → (find test us ≡ Some t → bytes_eq t.name x.name ≡ false) → bytes_eq t.name x.name ≡ false
differs_next test x t u us true so found here others = let e : u ≡ t = same_Some _ _ (rw so at found) in rw (← e) here
differs_next test x t u us false so found here others = others (rw so at found)

found_differs : (test : TextTable → Bool) (x t : TextTable) (ts : List TextTable) → find test ts ≡ Some t
    → has_name ts x.name ≡ false → bytes_eq t.name x.name ≡ false
found_differs test x t [] found none = cc
found_differs test x t (u ∷ us) found none =
    let apart = other_name x u us (bytes_eq u.name x.name) refl none in
    let here : bytes_eq u.name x.name ≡ false = apart.0 in
    differs_next test x t u us (test u) refl found here (λ later. found_differs test x t us later apart.1)

turned : (xs ys : List ℕ) (b : Bool) → bytes_eq xs ys ≡ false → bytes_eq ys xs ≡ b → b ≡ false
turned xs ys true other same =
    let e : ys ≡ xs = (bytes_eq-Decides ys xs).0 same in
    let t : bytes_eq xs ys ≡ true = (bytes_eq-Decides xs ys).1 (sym e) in cc
turned xs ys false other same = refl

self : (name : List ℕ) → bytes_eq name name ≡ true
self name = (bytes_eq-Decides name name).1 refl

named_next : (test : TextTable → Bool) (t x : TextTable) (xs : List TextTable) (b : Bool) → test x ≡ b
    → find test (x ∷ xs) ≡ Some t → (find test xs ≡ Some t → bytes_eq x.name t.name ≡ false)
    → (find test xs ≡ Some t → named_in xs t.name ≡ Some t) → named_in (x ∷ xs) t.name ≡ Some t
named_next test t x xs true so found apart others =
    let e : x ≡ t = same_Some _ _ (rw so at found) in rw (← e, self x.name) refl
named_next test t x xs false so found apart others =
    let later = rw so at found in rw (apart later) (others later)

named_again : (test : TextTable → Bool) (t : TextTable) (ts : List TextTable) → names_differ ts ≡ true
    → find test ts ≡ Some t → named_in ts t.name ≡ Some t
named_again test t [] differ found = cc
named_again test t (x ∷ xs) differ found =
    let parts = both (not (has_name xs x.name)) (names_differ xs) differ in
    named_next test t x xs (test x) refl found
    (λ later. turned t.name x.name (bytes_eq x.name t.name) (found_differs test x t xs later (not_true (has_name xs x.name) parts.0)) refl)
    (λ later. named_again test t xs parts.1 later)

passes_next : (test : TextTable → Bool) (t x : TextTable) (xs : List TextTable) (b : Bool) → test x ≡ b
    → find test (x ∷ xs) ≡ Some t → (find test xs ≡ Some t → test t ≡ true) → test t ≡ true
passes_next test t x xs true so found others = let e : x ≡ t = same_Some _ _ (rw so at found) in rw (← e) so
passes_next test t x xs false so found others = others (rw so at found)

found_passes : (test : TextTable → Bool) (t : TextTable) (ts : List TextTable) → find test ts ≡ Some t → test t ≡ true
found_passes test t [] found = cc
found_passes test t (x ∷ xs) found =
    passes_next test t x xs (test x) refl found (λ later. found_passes test t xs later)

-- ---- a text is the bytes after the selecting ones

bytes_left : (row : List ℕ) (n : ℕ) → are_bytes row ≡ true → are_bytes (drop n row) ≡ true
bytes_left [] zero small = refl
bytes_left [] (suc n) small = refl
bytes_left (b ∷ bs) zero small = small
bytes_left (b ∷ bs) (suc n) small = bytes_left bs n (both (nat_lt b 256) (are_bytes bs) small).1

-- each alphabet has one spelling of a character
abbrev pub Once : Type 0
Once = (c : Charset) (a : Alphabet) → alphabet_for c ≡ Some a → spells_once a ≡ true

alphabet_back : Once → (c : Charset) (found : Option Alphabet) (row text : List ℕ) → alphabet_for c ≡ found
    → are_bytes row ≡ true → text_by found row ≡ Some text → bytes_by found text ≡ Some row
alphabet_back once c None row text which small is =
    let parts = cond_some (is_utf8 row) row text is in ap Some (sym parts.1)
alphabet_back once c (Some a) row text which small is =
    mapped (chars_in a row) encode_utf8_all text is (λ cs had text_is.
    let told = back a row cs (once c a which) small had in
    ap (λ t. bytes_in a (chars t)) (sym text_is) ∙ ap (bytes_in a) (chars-encodes cs told.1) ∙ told.0)

table_back : Once → (t : TextTable) (row text : List ℕ) → are_bytes row ≡ true
    → row ≡ t.selects ++ drop (length t.selects) row → text_after t row ≡ Some text
    → bytes_by_table t text ≡ Some row
unfolding bytes_by_table
table_back once t row text small begins is =
    let left = drop (length t.selects) row in
    let told = alphabet_back once t.charset (alphabet_for t.charset) left text refl (bytes_left row (length t.selects) small) is in
    ap (option_map (λ b. t.selects ++ b)) told ∙ ap Some (sym begins)

pub all_differ : names_differ text_tables ≡ true
all_differ = refl

pub told : Once → (row name text : List ℕ) → are_bytes row ≡ true → tabled_text row ≡ Some (name, text)
    → tabled_bytes name text ≡ Some row
unfolding tabled_text table_named
told once row name text small is =
    then_some (selected_in text_tables row) (λ t. option_map (λ text. (t.name, text)) (text_after t row)) (name, text) is (λ t found later.
    mapped (text_after t row) (λ text. (t.name, text)) (name, text) later (λ shown had same.
    let name_is : t.name ≡ name = ap (λ x. x.0) same in
    let text_is : shown ≡ text = ap (λ x. x.1) same in
    let passes : starts_with nat_eq row t.selects ≡ true = found_passes (λ u. starts_with nat_eq row u.selects) t text_tables found in
    let begins = (starts_is Decides-eqb row t.selects true (sym passes)).0 refl in
    let named = named_again (λ u. starts_with nat_eq row u.selects) t text_tables all_differ found in
    ap (λ n. option_and_then (λ t. bytes_by_table t text) (named_in text_tables n)) (sym name_is)
    ∙ ap (option_and_then (λ t. bytes_by_table t text)) named
    ∙ ap (bytes_by_table t) (sym text_is) ∙ table_back once t row shown small begins had))
