-- Words from texts.
use Rattle.std.proofs.Common.{◌≡◌, ℕ, ◌<◌, ◌≤◌, ◌==◌, ◌&&◌, Bool, true, false, List, [], ◌∷◌, ◌++◌, Option, None, Some, length, not, refl, ◌∙◌, ap, ap₂, arith}
use Rattle.std.specs.Prelude.{filter_map, fold, is_some, option_and_then, option_map, if◌then◌else◌}
use Rattle.std.specs.List.{cons_option, list_all}
use Rattle.std.proofs.lemmas.List.{length_push}
use Rattle.plugin_options.specs.Number.{if_within, number_of, number_within}
use Rattle.plugin_options.specs.ServiceTexts.{is_service}
use Rattle.named_services.specs.ServiceWords.{is_word, name_of, with_word, word_by, word_of, words_of}
use Rattle.plugin_options.specs.declared.limits.TheConstants.{LAST_SERVICE}
use Rattle.named_services.specs.declared.service_word.ServiceWord.{ServiceWord}
use Rattle.named_services.specs.declared.service_word.ServiceWord.TheVariants.{Name, Number}

by-number : (o : Option ℕ) (text : List ℕ) → is_some o ≡ true → option_map (λ id. Number id) (option_and_then (if_within 1 LAST_SERVICE) o) ≡ word_by o text
by-number None text e = cc
by-number (Some n) text e = refl

by-name : (o : Option ℕ) (text : List ℕ) → is_some o ≡ false → name_of text ≡ word_by o text
by-name None text e = refl
by-name (Some n) text e = cc

-- a text that is a number is the word of this number, if it is that of a service
pub word-number : (text : List ℕ) → is_some (number_of text) ≡ true → option_map (λ id. Number id) (number_within 1 LAST_SERVICE text) ≡ word_of text
unfolding number_within
word-number text e = by-number (number_of text) text e

-- and another one is a name
pub word-name : (text : List ℕ) → is_some (number_of text) ≡ false → name_of text ≡ word_of text
word-name text e = by-name (number_of text) text e

-- a text is a word exactly if it says which service is meant
some-map : {X Y : Type 0} (f : X → Y) (o : Option X) → is_some (option_map f o) ≡ is_some o
some-map f None = refl
some-map f (Some x) = refl

some-if : (b : Bool) (w : ServiceWord) → is_some (if b then None else Some w) ≡ not b
some-if true w = refl
some-if false w = refl

word-some : (o : Option ℕ) (text : List ℕ) → is_some (word_by o text) ≡ (if is_some o then is_some (option_and_then (if_within 1 LAST_SERVICE) o) else not (length text == 0))
word-some (Some n) text = some-map (λ id. Number id) (if_within 1 LAST_SERVICE n)
word-some None text = some-if (length text == 0) (Name text)

pub is-service : (text : List ℕ) → is_some (word_of text) ≡ is_service text
unfolding number_within
is-service text = word-some (number_of text) text

pub all-services : (texts : List (List ℕ)) → list_all (λ text. is_some (word_of text)) texts ≡ list_all is_service texts
all-services [] = refl
all-services (t ∷ ts) = ap₂ (λ a b. a && b) (is-service t) (all-services ts)

-- where there is a text, there is a word
longer-with : (b : Bool) (words : List ServiceWord) (w : ServiceWord) → length words ≤ length (if b then words else words ++ w ∷ [])
longer-with true words w = omega (arith)
longer-with false words w = omega (arith, length_push words w)

longer-from : (words more : List ServiceWord) → length words ≤ length (fold with_word words more)
longer-from words [] = omega (arith)
longer-from words (w ∷ more) = omega (arith, longer-with (is_word words w) words w, longer-from (with_word words w) more)

first-some : (o : Option ServiceWord) (more : List ServiceWord) → is_some o ≡ true → 0 < length (fold with_word [] (cons_option o more))
first-some None more e = cc
first-some (Some w) more e = omega (arith, longer-from (w ∷ []) more)

left-true : (a b : Bool) → (a && b) ≡ true → a ≡ true
left-true true b e = refl
left-true false b e = e

pub words-some : (texts : List (List ℕ)) → 0 < length texts → list_all (λ text. is_some (word_of text)) texts ≡ true → 0 < length (words_of texts)
words-some [] h e = absurd (omega (arith, h))
words-some (t ∷ ts) h e = first-some (word_of t) (filter_map word_of ts) (left-true (is_some (word_of t)) (list_all (λ text. is_some (word_of text)) ts) e)
