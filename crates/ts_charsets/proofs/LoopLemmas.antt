-- One character more, read or written.
use Rattle.std.proofs.Common.{◌≡◌, ℕ, ◌+◌, ◌<◌, ◌≤◌, Bool, true, false, List, [], ◌∷◌, ◌++◌, length, drop, get_or, drop-cons, add-one, refl, sym, ap, ◌∙◌, arith, append_assoc, append-nil}
use Rattle.std.specs.Prelude.{nat_eq, Option, Some, None, option_map, option_and_then, if◌then◌else◌, encode_utf8, encode_utf8_all}
use Rattle.std.proofs.lemmas.Option.{same_Some}
use Rattle.std.proofs.lemmas.List.{drop_all}
use Rattle.ts_charsets.specs.declared.char_table.AccentedLetter.{AccentedLetter}
use Rattle.ts_charsets.specs.CharTables.{Table, char_of, letter_of}
use Rattle.ts_charsets.specs.Alphabets.{Alphabet, single, double, pair_char}
use Rattle.ts_charsets.specs.AlphabetTexts.{first_letter, first_single, first_double, first_char, single_chars, double_chars, chars_in, after_char, bytes_of, bytes_in, after_bytes}

-- a text before characters
abbrev pub with_front : List ℕ → Option (List ℕ) → Option (List ℕ)
with_front front cs = option_map (λ ds. front ++ encode_utf8_all ds) cs

pub no_text_before : (front : List ℕ) (cs : Option (List ℕ)) → front ≡ [] → with_front front cs ≡ option_map encode_utf8_all cs
no_text_before front None is = refl
no_text_before front (Some ds) is = rw is refl

letter_step : (t : Table) (b l c : ℕ) (more after : List ℕ) (found : Option AccentedLetter)
    → option_map {U = ℕ × List ℕ} (λ a. (a.shown, more)) found ≡ Some (c, after)
    → option_and_then (λ a. after_char a.shown (single_chars t more)) found ≡ after_char c (single_chars t after)
letter_step t b l c more after None is = cc
letter_step t b l c more after (Some a) is =
    let pair = same_Some _ _ is in
    let c_is : a.shown ≡ c = ap (λ x. x.0) pair in
    let after_is : more ≡ after = ap (λ x. x.1) pair in
    rw (← c_is, ← after_is) refl

byte_step : (t : Table) (b c : ℕ) (bs after : List ℕ) (none : Bool) → nat_eq (char_of t b) 0 ≡ none
    → (if none then first_letter t b bs else Some (char_of t b, bs)) ≡ Some (c, after)
    → single_chars t (b ∷ bs) ≡ after_char c (single_chars t after)
unfolding single_chars
byte_step t b c [] after true none is = cc
byte_step t b c [] after false none is =
    let pair = same_Some _ _ is in
    let c_is : char_of t b ≡ c = ap (λ x. x.0) pair in
    let after_is : [] ≡ after = ap (λ x. x.1) pair in
    rw (none, ← c_is, ← after_is) refl
byte_step t b c (l ∷ more) after true none is = rw none (letter_step t b l c more after (letter_of t b l) is)
byte_step t b c (l ∷ more) after false none is =
    let pair = same_Some _ _ is in
    let c_is : char_of t b ≡ c = ap (λ x. x.0) pair in
    let after_is : l ∷ more ≡ after = ap (λ x. x.1) pair in
    rw (none, ← c_is, ← after_is) refl

single_step : (t : Table) (row : List ℕ) (c : ℕ) (after : List ℕ) → first_single t row ≡ Some (c, after)
    → single_chars t row ≡ after_char c (single_chars t after)
single_step t [] c after is = cc
single_step t (b ∷ bs) c after is = byte_step t b c bs after (nat_eq (char_of t b) 0) refl is

abbrev found_pair : Bool → ℕ → List ℕ → Option (ℕ × List ℕ)
found_pair none shown more = if none then None else Some (shown, more)

pair_step : (shown c : ℕ) (more after : List ℕ) (none : Bool)
    → found_pair none shown more ≡ Some (c, after)
    → (if none then None else after_char shown (double_chars more)) ≡ after_char c (double_chars after)
pair_step shown c more after true is = cc
pair_step shown c more after false is =
    let pair = same_Some _ _ is in
    let c_is : shown ≡ c = ap (λ x. x.0) pair in
    let after_is : more ≡ after = ap (λ x. x.1) pair in
    rw (← c_is, ← after_is) refl

double_step : (row : List ℕ) (c : ℕ) (after : List ℕ) → first_double row ≡ Some (c, after)
    → double_chars row ≡ after_char c (double_chars after)
unfolding double_chars
double_step [] c after is = cc
double_step (high ∷ []) c after is = cc
double_step (high ∷ (low ∷ more)) c after is =
    pair_step (pair_char high low) c more after (nat_eq (pair_char high low) 0) is

char_step : (a : Alphabet) (row : List ℕ) (c : ℕ) (after : List ℕ) → first_char a row ≡ Some (c, after)
    → chars_in a row ≡ after_char c (chars_in a after)
char_step (single t) row c after is = single_step t row c after is
char_step double row c after is = double_step row c after is

front_more : (front : List ℕ) (c : ℕ) (more : Option (List ℕ))
    → with_front (front ++ encode_utf8 c) more ≡ with_front front (after_char c more)
front_more front c None = refl
front_more front c (Some ds) = ap Some (append_assoc front (encode_utf8 c) (encode_utf8_all ds))

-- one character more
pub text_more : (a : Alphabet) (front row after : List ℕ) (c : ℕ) (whole : Option (List ℕ))
    → first_char a row ≡ Some (c, after) → with_front front (chars_in a row) ≡ whole
    → with_front (front ++ encode_utf8 c) (chars_in a after) ≡ whole
text_more a front row after c whole is so_far =
    front_more front c (chars_in a after) ∙ ap (with_front front) (sym (char_step a row c after is)) ∙ so_far

letter_stop : (t : Table) (b l : ℕ) (more : List ℕ) (found : Option AccentedLetter)
    → option_map {U = ℕ × List ℕ} (λ a. (a.shown, more)) found ≡ None
    → option_and_then (λ a. after_char a.shown (single_chars t more)) found ≡ None
letter_stop t b l more None is = refl
letter_stop t b l more (Some a) is = cc

byte_stop : (t : Table) (b : ℕ) (bs : List ℕ) (none : Bool) → nat_eq (char_of t b) 0 ≡ none
    → (if none then first_letter t b bs else Some (char_of t b, bs)) ≡ None → single_chars t (b ∷ bs) ≡ None
unfolding single_chars
byte_stop t b [] true none is = rw none refl
byte_stop t b [] false none is = cc
byte_stop t b (l ∷ more) true none is = rw none (letter_stop t b l more (letter_of t b l) is)
byte_stop t b (l ∷ more) false none is = cc

single_stop : (t : Table) (row : List ℕ) → (length row ≡ 0 → ⊥) → first_single t row ≡ None → single_chars t row ≡ None
single_stop t [] some is = absurd (some refl)
single_stop t (b ∷ bs) some is = byte_stop t b bs (nat_eq (char_of t b) 0) refl is

pair_stop : (shown : ℕ) (more : List ℕ) (none : Bool) → found_pair none shown more ≡ None
    → (if none then None else after_char shown (double_chars more)) ≡ None
pair_stop shown more true is = refl
pair_stop shown more false is = cc

double_stop : (row : List ℕ) → (length row ≡ 0 → ⊥) → first_double row ≡ None → double_chars row ≡ None
unfolding double_chars
double_stop [] some is = absurd (some refl)
double_stop (high ∷ []) some is = refl
double_stop (high ∷ (low ∷ more)) some is = pair_stop (pair_char high low) more (nat_eq (pair_char high low) 0) is

char_stop : (a : Alphabet) (row : List ℕ) → (length row ≡ 0 → ⊥) → first_char a row ≡ None → chars_in a row ≡ None
char_stop (single t) row some is = single_stop t row some is
char_stop double row some is = double_stop row some is

-- no character is there
pub text_stop : (a : Alphabet) (front row : List ℕ) (whole : Option (List ℕ)) → (length row ≡ 0 → ⊥)
    → first_char a row ≡ None → with_front front (chars_in a row) ≡ whole → whole ≡ None
text_stop a front row whole some is so_far = sym so_far ∙ ap (with_front front) (char_stop a row some is)

no_chars : (a : Alphabet) → chars_in a [] ≡ Some []
unfolding single_chars double_chars
no_chars (single t) = refl
no_chars double = refl

pub text_done : (a : Alphabet) (front row : List ℕ) (whole : Option (List ℕ)) → length row ≡ 0
    → with_front front (chars_in a row) ≡ whole → whole ≡ Some front
text_done a front [] whole none so_far = sym so_far ∙ ap (with_front front) (no_chars a) ∙ ap Some (append-nil front)
text_done a front (b ∷ bs) whole none so_far = absurd (omega arith)

-- bytes before the bytes of characters
abbrev pub with_bytes : List ℕ → Option (List ℕ) → Option (List ℕ)
with_bytes front more = option_map (λ rest. front ++ rest) more

pub nothing_before : (front : List ℕ) (more : Option (List ℕ)) → front ≡ [] → with_bytes front more ≡ more
nothing_before front None is = refl
nothing_before front (Some rest) is = rw is refl

bytes_next : (front first : List ℕ) (more : Option (List ℕ))
    → with_bytes (front ++ first) more ≡ with_bytes front (after_bytes first more)
bytes_next front first None = refl
bytes_next front first (Some rest) = ap Some (append_assoc front first rest)

bytes_found : (front new : List ℕ) (found more whole : Option (List ℕ))
    → Some new ≡ option_map (λ rest. front ++ rest) found
    → with_bytes front (option_and_then (λ first. after_bytes first more) found) ≡ whole
    → with_bytes new more ≡ whole
bytes_found front new None more whole is so_far = cc
bytes_found front new (Some first) more whole is so_far =
    let e : new ≡ front ++ first = same_Some _ _ is in
    ap (λ n. with_bytes n more) e ∙ bytes_next front first more ∙ so_far

known_is : (known : Bool) (new : List ℕ) (found : Option (List ℕ)) → (if known then Some new else None) ≡ found
    → known ≡ true → Some new ≡ found
known_is true new found is so = is
known_is false new found is so = cc

known_not : (known : Bool) (new : List ℕ) (found : Option (List ℕ)) → (if known then Some new else None) ≡ found
    → known ≡ false → None ≡ found
known_not true new found is so = cc
known_not false new found is so = is

char_left : (xs : List ℕ) (i d : ℕ) → i < length xs → drop i xs ≡ get_or xs i d ∷ drop (i + 1) xs
char_left xs i d inside = rw (add-one, drop-cons xs i d) refl

-- the bytes of one character more
pub bytes_more : (t : Alphabet) (front new xs : List ℕ) (i d c : ℕ) (known : Bool) (whole : Option (List ℕ))
    → i < length xs → c ≡ get_or xs i d
    → (if known then Some new else None) ≡ option_map (λ more. front ++ more) (bytes_of t c) → known ≡ true
    → with_bytes front (bytes_in t (drop i xs)) ≡ whole → with_bytes new (bytes_in t (drop (i + 1) xs)) ≡ whole
unfolding bytes_in
bytes_more t front new xs i d c known whole inside c_is is so so_far =
    let e = rw (char_left xs i d inside, ← c_is) at so_far in
    bytes_found front new (bytes_of t c) (bytes_in t (drop (i + 1) xs)) whole (known_is known new _ is so) e

no_first : (front : List ℕ) (found : Option (List ℕ)) → None ≡ option_map (λ more. front ++ more) found
    → found ≡ None
no_first front None is = refl
no_first front (Some bytes) is = cc

pub bytes_stop : (t : Alphabet) (front new xs : List ℕ) (i d c : ℕ) (known : Bool) (whole : Option (List ℕ))
    → i < length xs → c ≡ get_or xs i d
    → (if known then Some new else None) ≡ option_map (λ more. front ++ more) (bytes_of t c) → known ≡ false
    → with_bytes front (bytes_in t (drop i xs)) ≡ whole → whole ≡ None
unfolding bytes_in
bytes_stop t front new xs i d c known whole inside c_is is so so_far =
    let e = rw (char_left xs i d inside, ← c_is) at so_far in
    let none = no_first front (bytes_of t c) (known_not known new _ is so) in
    sym (rw none at e)

pub bytes_done : (t : Alphabet) (front xs : List ℕ) (i : ℕ) (whole : Option (List ℕ)) → length xs ≤ i
    → with_bytes front (bytes_in t (drop i xs)) ≡ whole → whole ≡ Some front
unfolding bytes_in
bytes_done t front xs i whole past so_far =
    let none : drop i xs ≡ [] = drop_all i xs past in
    sym (rw none at so_far) ∙ ap Some (append-nil front)
