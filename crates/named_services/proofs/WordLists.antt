-- What holds of the words that texts are: each says which service is meant, and none is there twice.
use Rattle.std.proofs.Common.{◌≡◌, ℕ, ◌<◌, ◌==◌, ◌&&◌, Bool, true, false, List, [], ◌∷◌, ◌++◌, Option, None, Some, length, refl, arith}
use Rattle.std.specs.Prelude.{bytes_eq, filter_map, fold, nat_le, option_map, if◌then◌else◌}
use Rattle.std.specs.Cmp.{IsEquivalence}
use Rattle.std.specs.List.{All, IsDistinct, cons_option}
use Rattle.std.specs.Option.{IfSome}
use Rattle.std.proofs.lemmas.Cmp.{nat_list_eq_equiv}
use Rattle.std.specs.Cmp.{nat_eq_equiv}
use Rattle.std.proofs.lemmas.List.Elements.{All-cons, All-head, All-nil, All-push, All-tail}
use Rattle.std.proofs.lemmas.Map.Keys.{IsDistinct-push}
use Rattle.std.proofs.lemmas.Bool.Decides.{nat_tests}
use Rattle.plugin_options.specs.Number.{number_of}
use Rattle.plugin_options.specs.declared.limits.TheConstants.{LAST_SERVICE}
use Rattle.named_services.specs.ServiceWords.{SaysService, is_same, is_word, with_word, word_by, word_of, words_of}
use Rattle.named_services.specs.declared.service_word.ServiceWord.{ServiceWord}
use Rattle.named_services.specs.declared.service_word.ServiceWord.TheVariants.{Name, Number}

-- the word that a text is says which service is meant
says-number : (b : Bool) (n : ℕ) → (nat_le 1 n && nat_le n LAST_SERVICE) ≡ b → IfSome (option_map (λ id. Number id) (if b then Some n else None)) SaysService
says-number true n e = (grind (arith, nat_tests, e), grind (arith, nat_tests, e))
says-number false n e = tt

says-name : (b : Bool) (text : List ℕ) → (length text == 0) ≡ b → IfSome (if b then None else Some (Name text)) SaysService
says-name true text e = tt
says-name false text e = grind (arith, nat_tests, e)

says-by : (o : Option ℕ) (text : List ℕ) → IfSome (word_by o text) SaysService
says-by None text = says-name (length text == 0) text refl
says-by (Some n) text = says-number (nat_le 1 n && nat_le n LAST_SERVICE) n refl

-- so do the words of several texts
says-cons : (o : Option ServiceWord) (words : List ServiceWord) → IfSome o SaysService → All SaysService words → All SaysService (cons_option o words)
says-cons None words h hs = hs
says-cons (Some w) words h hs = All-cons SaysService w words h hs

says-each : (texts : List (List ℕ)) → All SaysService (filter_map word_of texts)
says-each [] = All-nil SaysService
says-each (t ∷ ts) = says-cons (word_of t) (filter_map word_of ts) (says-by (number_of t) t) (says-each ts)

says-with : (b : Bool) (words : List ServiceWord) (w : ServiceWord) → All SaysService words → SaysService w → All SaysService (if b then words else words ++ w ∷ [])
says-with true words w h p = h
says-with false words w h p = All-push SaysService words w h p

says-from : (words more : List ServiceWord) → All SaysService words → All SaysService more → All SaysService (fold with_word words more)
says-from words [] h hs = h
says-from words (w ∷ more) h hs =
    says-from (with_word words w) more (says-with (is_word words w) words w h (All-head SaysService w more hs)) (All-tail SaysService w more hs)

pub words-say : (texts : List (List ℕ)) → All SaysService (words_of texts)
words-say texts = says-from [] (filter_map word_of texts) (All-nil SaysService) (says-each texts)

-- to be the same word is an equivalence
same-itself : (a : ServiceWord) → is_same a a ≡ true
same-itself (Number m) = nat_eq_equiv.refl m
same-itself (Name a) = nat_list_eq_equiv.refl a

same-other : (a b : ServiceWord) → is_same a b ≡ is_same b a
same-other (Number m) (Number n) = nat_eq_equiv.symm m n
same-other (Number m) (Name b) = refl
same-other (Name a) (Number n) = refl
same-other (Name a) (Name b) = nat_list_eq_equiv.symm a b

same-third : (a b c : ServiceWord) → is_same a b ≡ true → is_same a c ≡ is_same b c
same-third (Number m) (Number n) (Number k) e = nat_eq_equiv.congr m n k e
same-third (Number m) (Number n) (Name k) e = refl
same-third (Number m) (Name b) c e = cc
same-third (Name a) (Number n) c e = cc
same-third (Name a) (Name b) (Number k) e = refl
same-third (Name a) (Name b) (Name k) e = nat_list_eq_equiv.congr a b k e

same-equiv : IsEquivalence is_same
same-equiv = record {
  refl = same-itself;
  symm = same-other;
  congr = same-third;
}

-- no word is there twice
different-with : (b : Bool) (words : List ServiceWord) (w : ServiceWord) → is_word words w ≡ b → IsDistinct is_same words → IsDistinct is_same (if b then words else words ++ w ∷ [])
different-with true words w e h = h
different-with false words w e h = IsDistinct-push same-equiv words w h e

different-from : (words more : List ServiceWord) → IsDistinct is_same words → IsDistinct is_same (fold with_word words more)
different-from words [] h = h
different-from words (w ∷ more) h = different-from (with_word words w) more (different-with (is_word words w) words w refl h)

pub words-different : (texts : List (List ℕ)) → IsDistinct is_same (words_of texts)
unfolding IsDistinct
words-different texts = different-from [] (filter_map word_of texts) tt
