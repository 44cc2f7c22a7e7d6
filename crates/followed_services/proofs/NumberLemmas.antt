-- Lemmas on the number that a word means, packet by packet.
use Rattle.std.proofs.Common.{◌≡◌, ℕ, true, false, List, [], ◌∷◌, ◌++◌, Option, None, Some, refl, sym, ◌∙◌, ap, subst}
use Rattle.std.specs.Prelude.{Box, slice_get}
use Rattle.std.specs.List.{cons_option}
use Rattle.std.specs.Option.{option_to_list}
use Rattle.named_services.specs.NamedServices.{number_by, service_named, services_after}
use Rattle.named_services.specs.SdtInForce.{sdt_of}
use Rattle.named_services.specs.ServiceLists.{each_once}
use Rattle.named_services.specs.ServiceWords.{is_name}
use Rattle.named_services.specs.declared.service_word.ServiceWord.{ServiceWord}
use Rattle.named_services.specs.declared.service_word.ServiceWord.TheVariants.{Number, Name}
use Rattle.named_services.proofs.SdtLemmas.{sdt-none}
use Rattle.followed_services.specs.NumberStands.{FollowsName, FollowsWord, StandsFor}
use Rattle.followed_services.specs.ServiceNumbers.{number_after}
use Rattle.followed_services.specs.declared.followed_name.FollowedName.{FollowedName}
use Rattle.followed_services.specs.declared.named_service.NamedService.{NamedService}

-- a number means itself
pub number-fixed : (id : ℕ) (packets : List (List ℕ)) → number_after (Number id) packets ≡ Some id
unfolding number_after
number-fixed id packets = refl

pub number-same : (word : ServiceWord) → is_name word ≡ false → (a b : List (List ℕ)) → number_after word a ≡ number_after word b
number-same (Number id) e a b = number-fixed id a ∙ sym (number-fixed id b)
number-same (Name name) e a b = cc

-- before any packet a name means none
pub name-none : (word : ServiceWord) → is_name word ≡ true → None ≡ number_after word []
unfolding number_after
name-none (Number id) e = cc
name-none (Name name) e = sym (ap (service_named name) sdt-none)

-- the services that one word means
of-one : (o : Option ℕ) → each_once (cons_option o []) ≡ option_to_list o
of-one None = refl
of-one (Some n) = refl

pub services-one : (word : ServiceWord) (packets : List (List ℕ)) → services_after (word ∷ []) packets ≡ option_to_list (number_after word packets)
unfolding services_after number_after
services-one word packets = of-one (number_by (sdt_of packets) word)

first-of : (o : Option ℕ) → slice_get (option_to_list o) 0 ≡ o
first-of None = refl
first-of (Some n) = refl

pub first-number : (services : List ℕ) (word : ServiceWord) (packets : List (List ℕ)) → services ≡ services_after (word ∷ []) packets
    → slice_get services 0 ≡ number_after word packets
first-number services word packets is = ap (λ l. slice_get l 0) (is ∙ services-one word packets) ∙ first-of (number_after word packets)

-- where the services are the same, so is the number
pub same-number : (word : ServiceWord) (a b : List (List ℕ)) → services_after (word ∷ []) a ≡ services_after (word ∷ []) b
    → number_after word a ≡ number_after word b
same-number word a b same =
    sym (first-number (services_after (word ∷ []) a) word a refl) ∙ first-number (services_after (word ∷ []) a) word b same

-- ---- one packet more, where the word is a name, and where it is a number

module _ (word : ServiceWord) (old : NamedService) (met : List (List ℕ)) (packet : List ℕ) (h : StandsFor word old met) where
  module _ (followed : Box FollowedName _) (is : old.followed ≡ Some followed) where
    pub follows-name : (is_name word ≡ true) × FollowsWord word followed.value met
    follows-name = subst (λ o. FollowsName word o met) is h.follows

    pub meets-name : (new : NamedService) (followed_new : Box FollowedName _) → new.followed ≡ Some followed_new
        → (FollowsWord word followed.value met → FollowsWord word followed_new.value (met ++ packet ∷ []))
        → (FollowsWord word followed.value met → old.number ≡ number_after word met → new.number ≡ number_after word (met ++ packet ∷ []))
        → StandsFor word new (met ++ packet ∷ [])
    meets-name new followed_new is_new on number = record {
      number = number follows-name.1 h.number;
      follows = subst (λ o. FollowsName word o (met ++ packet ∷ [])) (sym is_new) (follows-name.0, on follows-name.1);
    }

  module _ (is : old.followed ≡ None) where
    pub means-number : is_name word ≡ false
    means-number = subst (λ o. FollowsName word o met) is h.follows

    pub meets-number : StandsFor word old (met ++ packet ∷ [])
    meets-number = record {
      number = h.number ∙ number-same word means-number met (met ++ packet ∷ []);
      follows = subst (λ o. FollowsName word o (met ++ packet ∷ [])) (sym is) means-number;
    }
