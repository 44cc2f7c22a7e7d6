-- Lemmas on the word of an option.
use Rattle.std.proofs.Common.{◌≡◌, ℕ, true, List, [], ◌∷◌, Option, Some, ap, subst}
use Rattle.std.specs.Prelude.{fold, option_and_then}
use Rattle.std.specs.List.{All, cons_option}
use Rattle.std.specs.Option.{option_map_or}
use Rattle.std.proofs.lemmas.List.Elements.{All-head}
use Rattle.plugin_options.specs.Forms.{known}
use Rattle.plugin_options.specs.Options.{is_formed, read_value, value_of}
use Rattle.plugin_options.specs.ServiceTexts.{is_service}
use Rattle.named_services.specs.ServiceWords.{SaysService, with_word, word_of}
use Rattle.named_services.specs.declared.service_word.ServiceWord.{ServiceWord}
use Rattle.named_services.proofs.WordLists.{words-say}

-- the option has this text, or none
module _ (name : List ℕ) (found : List _) (text : Option (List ℕ)) (is : value_of name found ≡ text) where
  pub word-formed : is_formed (known is_service) name found ≡ option_map_or is_service text true
  word-formed = ap (λ o. option_map_or is_service o true) is

  pub word-read : read_value word_of name found ≡ option_and_then word_of text
  word-read = ap (option_and_then word_of) is

-- the word that a text is says which service is meant
pub says-word : (text : List ℕ) (word : ServiceWord) → word_of text ≡ Some word → SaysService word
says-word text word is =
    All-head SaysService word [] (subst (All SaysService) (ap (λ o. fold with_word [] (cons_option o [])) is) (words-say (text ∷ [])))
