-- Texts in an alphabet.
-- ETSI EN 300 468, annex A.
use Rattle.std.specs.Prelude.{ℕ, List, [], ◌∷◌, ◌++◌, nat_eq, if◌then◌else◌, Option, Some, None, option_map, option_and_then}
use Rattle.ts_charsets.specs.declared.char_table.AccentedLetter.{AccentedLetter}
use Rattle.ts_charsets.specs.CharTables.{Table, char_of, letter_of, byte_of, accented_char}
use Rattle.ts_charsets.specs.Alphabets.{Alphabet, single, double, pair_char, pair_of}

-- an accented letter, and the bytes after it
abbrev pub first_letter : Table → ℕ → List ℕ → Option (ℕ × List ℕ)
first_letter t b [] = None
first_letter t b (l ∷ more) = option_map (λ a. (a.shown, more)) (letter_of t b l)

-- the first character of some bytes in a table, and the bytes after it
abbrev pub first_single : Table → List ℕ → Option (ℕ × List ℕ)
first_single t [] = None
first_single t (b ∷ bs) = if nat_eq (char_of t b) 0 then first_letter t b bs else Some (char_of t b, bs)

-- the character of the first two bytes, and the bytes after them
abbrev pub first_double : List ℕ → Option (ℕ × List ℕ)
first_double [] = None
first_double (high ∷ []) = None
first_double (high ∷ (low ∷ more)) =
    if nat_eq (pair_char high low) 0 then None else Some (pair_char high low, more)

-- the first character of some bytes, and the bytes after it
abbrev pub first_char : Alphabet → List ℕ → Option (ℕ × List ℕ)
first_char (single t) row = first_single t row
first_char double row = first_double row

-- a character before others
abbrev pub after_char : ℕ → Option (List ℕ) → Option (List ℕ)
after_char c more = option_map (λ cs. c ∷ cs) more

-- the characters of bytes in a table; none where a byte has none
unfoldable pub single_chars : Table → List ℕ → Option (List ℕ)
single_chars t [] = Some []
single_chars t (b ∷ []) = if nat_eq (char_of t b) 0 then None else Some (char_of t b ∷ [])
single_chars t (b ∷ (l ∷ more)) =
    if nat_eq (char_of t b) 0
    then option_and_then (λ a. after_char a.shown (single_chars t more)) (letter_of t b l)
    else after_char (char_of t b) (single_chars t (l ∷ more))

-- the characters of pairs of bytes; none where a pair has none, or where the last byte stands alone
unfoldable pub double_chars : List ℕ → Option (List ℕ)
double_chars [] = Some []
double_chars (high ∷ []) = None
double_chars (high ∷ (low ∷ more)) =
    if nat_eq (pair_char high low) 0 then None else after_char (pair_char high low) (double_chars more)

-- the characters of bytes; none where some have none
abbrev pub chars_in : Alphabet → List ℕ → Option (List ℕ)
chars_in (single t) row = single_chars t row
chars_in double row = double_chars row

-- the byte, or else the accent and the letter
abbrev pub one_or_two : Option ℕ → Option AccentedLetter → Option (List ℕ)
one_or_two (Some b) a = Some (b ∷ [])
one_or_two None None = None
one_or_two None (Some a) = Some (a.accent ∷ a.letter ∷ [])

-- the bytes of a character
abbrev pub bytes_of : Alphabet → ℕ → Option (List ℕ)
bytes_of (single t) c = one_or_two (byte_of t c) (accented_char t c)
bytes_of double c = option_map (λ p. p.0 ∷ p.1 ∷ []) (pair_of c)

-- bytes before others
abbrev pub after_bytes : List ℕ → Option (List ℕ) → Option (List ℕ)
after_bytes first more = option_map (λ rest. first ++ rest) more

-- the bytes of characters; none where the alphabet lacks one
unfoldable pub bytes_in : Alphabet → List ℕ → Option (List ℕ)
bytes_in a [] = Some []
bytes_in a (c ∷ cs) = option_and_then (λ first. after_bytes first (bytes_in a cs)) (bytes_of a c)
