-- When what follows the services of a command line stands for the packets that were met. This project's own rule.
use Rattle.std.specs.Prelude.{◌≡◌, ℕ, Bool, false, true, List, [], ◌∷◌, ◌++◌, Option, Some, None}
use Rattle.named_services.specs.NamedServices.{are_unknown, services_after}
use Rattle.named_services.specs.SdtStands.{HasFedSdt}
use Rattle.named_services.specs.ServiceWords.{has_name}
use Rattle.named_services.specs.declared.meant.Meant.{Meant}
use Rattle.named_services.specs.declared.named_services.NamedServices.{NamedServices}
use Rattle.named_services.specs.declared.sdt_in_force.SdtInForce.{SdtInForce}
use Rattle.named_services.specs.declared.service_word.ServiceWord.{ServiceWord}

-- the SDTs are followed exactly if a word is a name
abbrev pub FollowsSdts : Bool → Option SdtInForce → List (List ℕ) → Type 0
FollowsSdts named None met = named ≡ false
FollowsSdts named (Some sdts) met = (named ≡ true) × HasFedSdt sdts met

-- these are the services that words mean after some packets of any PID
pub record AreMeant (words : List ServiceWord) (meant : Meant) (met : List (List ℕ)) : Type 0 where
  pub services : meant.services ≡ services_after words met
  pub unknown : meant.unknown ≡ are_unknown words met

-- with one more packet words mean the same services as before
pub record StaysMeant (words : List ServiceWord) (met : List (List ℕ)) (packet : List ℕ) : Type 0 where
  pub services : services_after words (met ++ packet ∷ []) ≡ services_after words met
  pub unknown : are_unknown words (met ++ packet ∷ []) ≡ are_unknown words met

-- the words are these, the SDTs are followed where one is a name, and the services are those that the words mean
pub record NamesStand (words : List ServiceWord) (named : NamedServices) (met : List (List ℕ)) : Type 0 where
  pub same_words : named.words ≡ words
  pub follows : FollowsSdts (has_name words) named.sdts met
  pub meant : AreMeant words named.meant met
