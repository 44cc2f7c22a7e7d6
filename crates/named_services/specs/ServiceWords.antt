-- Words of a command line that say which services are meant.
-- ISO/IEC 13818-1, 2.4.4.5: a program_number has 16 bits, and 0 is not that of a service. This project's own rule: a word is a
-- number from 1 to 65535, or, where it is no number, a name. Another number and the empty word are none. A word that is
-- given twice counts once.
use Rattle.std.specs.Prelude.{ℕ, ◌<◌, ◌==◌, ◌++◌, ◌∷◌, [], Bool, true, false, List, bytes_eq, fold, length, Option, Some, None, option_map, if◌then◌else◌}
use Rattle.std.specs.List.{filter_map, list_any}
use Rattle.plugin_options.specs.Number.{if_within, number_of}
use Rattle.plugin_options.specs.declared.limits.TheConstants.{LAST_SERVICE}
use Rattle.named_services.specs.declared.service_word.ServiceWord.{ServiceWord}
use Rattle.named_services.specs.declared.service_word.ServiceWord.TheVariants.{Number, Name}

-- the name that a text is
abbrev pub name_of : List ℕ → Option ServiceWord
name_of text = if length text == 0 then None else Some (Name text)

-- the word that a text is, if it is this number, or none
abbrev pub word_by : Option ℕ → List ℕ → Option ServiceWord
word_by None text = name_of text
word_by (Some n) text = option_map (λ id. Number id) (if_within 1 LAST_SERVICE n)

-- the word that a text is
abbrev pub word_of : List ℕ → Option ServiceWord
word_of text = word_by (number_of text) text

-- a word says which service is meant: a number is that of a service, and a name is not empty
abbrev pub SaysService : ServiceWord → Type 0
SaysService (Number id) = (0 < id) × (id < 65536)
SaysService (Name name) = 0 < length name

-- whether two words are the same number or the same name
abbrev pub is_same : ServiceWord → ServiceWord → Bool
is_same (Number a) (Number b) = a == b
is_same (Number a) (Name b) = false
is_same (Name a) (Number b) = false
is_same (Name a) (Name b) = bytes_eq a b

-- whether a word is one of some
abbrev pub is_word : List ServiceWord → ServiceWord → Bool
is_word words word = list_any (is_same word) words

-- words with one more, unless it is one of them
abbrev pub with_word : List ServiceWord → ServiceWord → List ServiceWord
with_word words word = if is_word words word then words else words ++ word ∷ []

-- the words that texts are, each once
abbrev pub words_of : List (List ℕ) → List ServiceWord
words_of texts = fold with_word [] (filter_map word_of texts)

-- whether a word is a name
abbrev pub is_name : ServiceWord → Bool
is_name (Number id) = false
is_name (Name name) = true

-- whether one of some words is
abbrev pub has_name : List ServiceWord → Bool
has_name words = list_any is_name words
