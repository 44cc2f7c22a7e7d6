-- When what follows a service stands for the packets that were met. This project's own rule.
use Rattle.std.specs.Prelude.{◌≡◌, ℕ, true, false, List, [], ◌∷◌, Option, Some, None, Box}
use Rattle.plug_psi.specs.ForceStands as forcing
use Rattle.named_services.specs.NamesStand.{NamesStand}
use Rattle.named_services.specs.ServiceWords.{is_name}
use Rattle.named_services.specs.declared.service_word.ServiceWord.{ServiceWord}
use Rattle.followed_services.specs.ServiceNumbers.{number_after}
use Rattle.followed_services.specs.declared.followed_name.FollowedName.{FollowedName}
use Rattle.followed_services.specs.declared.named_service.NamedService.{NamedService}

-- the tables in force, and what the one word means by them, are those of all packets that were met
pub record FollowsWord (word : ServiceWord) (followed : FollowedName) (met : List (List ℕ)) : Type 0 where
  pub named : NamesStand (word ∷ []) followed.names met
  pub forced : forcing.StandsFor followed.force met

-- tables are followed exactly if the word is a name
abbrev pub FollowsName : {Z : Type 0} → ServiceWord → Option (Box FollowedName Z) → List (List ℕ) → Type 0
FollowsName word None met = is_name word ≡ false
FollowsName word (Some followed) met = (is_name word ≡ true) × FollowsWord word followed.value met

-- the number is the one that the word means after these packets, of any PID
pub record StandsFor (word : ServiceWord) (service : NamedService) (met : List (List ℕ)) : Type 0 where
  pub number : service.number ≡ number_after word met
  pub follows : FollowsName word service.followed met
