-- Lemmas on what words mean, packet by packet.
use Rattle.std.proofs.Common.{◌≡◌, ℕ, ◌&&◌, Bool, true, false, List, [], ◌∷◌, ◌++◌, Option, None, Some, length, refl, sym, ◌∙◌, ap, arith, subst}
use Rattle.std.specs.Prelude.{is_none}
use Rattle.std.specs.List.{filter_map}
use Rattle.ts_table_rows.specs.TableValues.{TableHolding}
use Rattle.named_services.specs.NamedServices.{are_unknown, number_by, numbers_by, services_after}
use Rattle.named_services.specs.NamesStand.{AreMeant, FollowsSdts, NamesStand, StaysMeant}
use Rattle.named_services.specs.SdtInForce.{sdt_of}
use Rattle.named_services.specs.SdtStands.{HasFedSdt}
use Rattle.named_services.specs.ServiceLists.{each_once}
use Rattle.named_services.specs.ServiceWords.{has_name}
use Rattle.named_services.specs.declared.meant.Meant.{Meant}
use Rattle.named_services.specs.declared.named_services.NamedServices.{NamedServices}
use Rattle.named_services.specs.declared.sdt_in_force.SdtInForce.{SdtInForce}
use Rattle.named_services.specs.declared.service_word.ServiceWord.{ServiceWord}
use Rattle.named_services.specs.declared.service_word.ServiceWord.TheVariants.{Number, Name}
use Rattle.named_services.proofs.SdtLemmas.{sdt-none}

-- numbers mean the same whatever is in force
fixed : (words : List ServiceWord) → has_name words ≡ false → (a b : Option TableHolding) → filter_map (number_by a) words ≡ filter_map (number_by b) words
fixed [] none a b = refl
fixed (Number id ∷ words) none a b = ap (λ ids. id ∷ ids) (fixed words none a b)
fixed (Name name ∷ words) none a b = cc

fixed-services : (words : List ServiceWord) → has_name words ≡ false → (a b : List (List ℕ)) → services_after words a ≡ services_after words b
unfolding services_after
fixed-services words none a b = ap each_once (fixed words none (sdt_of a) (sdt_of b))

fixed-unknown : (words : List ServiceWord) → has_name words ≡ false → (a b : List (List ℕ)) → are_unknown words a ≡ are_unknown words b
fixed-unknown words none a b = ap (λ named. named && is_none (sdt_of a)) none ∙ sym (ap (λ named. named && is_none (sdt_of b)) none)

-- before any packet
and-true : (b : Bool) → b ≡ b && true
and-true true = refl
and-true false = refl

pub meant-new : (words : List ServiceWord) (meant : Meant) → meant.services ≡ numbers_by words None → meant.unknown ≡ has_name words → AreMeant words meant []
unfolding services_after
meant-new words meant services unknown = record {
  services = services ∙ sym (ap (numbers_by words) sdt-none);
  unknown = unknown ∙ and-true (has_name words) ∙ sym (ap (λ (sdt : Option TableHolding). has_name words && is_none sdt) sdt-none);
}

-- where no word is a name, any packet leaves what they mean
pub meant-fixed : (words : List ServiceWord) (meant : Meant) (met more : List (List ℕ)) → has_name words ≡ false → AreMeant words meant met → AreMeant words meant more
meant-fixed words meant met more none are = record {
  services = are.services ∙ fixed-services words none met more;
  unknown = are.unknown ∙ fixed-unknown words none met more;
}

-- so does one with which the same SDT is in force
pub meant-stays : (words : List ServiceWord) (meant : Meant) (met more : List (List ℕ)) → sdt_of more ≡ sdt_of met → AreMeant words meant met → AreMeant words meant more
unfolding services_after
meant-stays words meant met more same are = record {
  services = are.services ∙ sym (ap (numbers_by words) same);
  unknown = are.unknown ∙ sym (ap (λ (sdt : Option TableHolding). has_name words && is_none sdt) same);
}

-- what words mean by the SDT in force
pub meant-by : (words : List ServiceWord) (meant : Meant) (met : List (List ℕ)) (sdt : Option TableHolding) → has_name words ≡ true → sdt ≡ sdt_of met
    → meant.services ≡ numbers_by words sdt → meant.unknown ≡ is_none sdt → AreMeant words meant met
unfolding services_after
meant-by words meant met sdt named is services unknown = record {
  services = services ∙ ap (numbers_by words) is;
  unknown = unknown ∙ ap is_none is ∙ ap (λ b. b && is_none (sdt_of met)) (sym named);
}

-- where the same is meant before and with a packet
pub same-meant : (words : List ServiceWord) (old new : Meant) (met : List (List ℕ)) (packet : List ℕ) → AreMeant words old met → AreMeant words new (met ++ packet ∷ [])
    → new ≡ old → StaysMeant words met packet
same-meant words old new met packet before after same = record {
  services = sym after.services ∙ ap (λ (m : Meant). m.services) same ∙ before.services;
  unknown = sym after.unknown ∙ ap (λ (m : Meant). m.unknown) same ∙ before.unknown;
}

-- a row of no tables is empty
pub no-tables : (tables : List (List (List ℕ))) → length tables ≡ 0 → tables ≡ []
no-tables [] e = refl
no-tables (t ∷ ts) e = absurd (omega (arith, e))

-- ---- one packet more, where a word is a name, and where none is

module _ (words : List ServiceWord) (old : NamedServices) (met : List (List ℕ)) (packet : List ℕ) (n : NamesStand words old met) where
  module _ (sdts : SdtInForce) (is : old.sdts ≡ Some sdts) where
    followed : (has_name words ≡ true) × HasFedSdt sdts met
    followed = subst (λ (o : Option SdtInForce). FollowsSdts (has_name words) o met) is n.follows

    meant-next : (new : Meant) → (has_name old.words ≡ true → HasFedSdt sdts met → AreMeant old.words old.meant met → AreMeant old.words new (met ++ packet ∷ []))
        → AreMeant words new (met ++ packet ∷ [])
    meant-next new meant =
        subst (λ ws. AreMeant ws new (met ++ packet ∷ [])) n.same_words
        (meant (ap has_name n.same_words ∙ followed.0) followed.1 (subst (λ ws. AreMeant ws old.meant met) (sym n.same_words) n.meant))

    pub meets-named : (new : NamedServices) (sdts_new : SdtInForce) → new.sdts ≡ Some sdts_new → new.words ≡ old.words
        → (HasFedSdt sdts met → HasFedSdt sdts_new (met ++ packet ∷ []))
        → (has_name old.words ≡ true → HasFedSdt sdts met → AreMeant old.words old.meant met → AreMeant old.words new.meant (met ++ packet ∷ []))
        → NamesStand words new (met ++ packet ∷ [])
    meets-named new sdts_new is_new same on meant = record {
      same_words = same ∙ n.same_words;
      follows = subst (λ (o : Option SdtInForce). FollowsSdts (has_name words) o (met ++ packet ∷ [])) (sym is_new) (followed.0, on followed.1);
      meant = meant-next new.meant meant;
    }

    pub same-named : (new : Meant) → (has_name old.words ≡ true → HasFedSdt sdts met → AreMeant old.words old.meant met → AreMeant old.words new (met ++ packet ∷ []))
        → new ≡ old.meant → StaysMeant words met packet
    same-named new meant same = same-meant words old.meant new met packet n.meant (meant-next new meant) same

  module _ (is : old.sdts ≡ None) where
    numbers : has_name words ≡ false
    numbers = subst (λ (o : Option SdtInForce). FollowsSdts (has_name words) o met) is n.follows

    pub meets-numbers : NamesStand words old (met ++ packet ∷ [])
    meets-numbers = record {
      same_words = n.same_words;
      follows = subst (λ (o : Option SdtInForce). FollowsSdts (has_name words) o (met ++ packet ∷ [])) (sym is) numbers;
      meant = meant-fixed words old.meant met (met ++ packet ∷ []) numbers n.meant;
    }

    pub same-numbers : StaysMeant words met packet
    same-numbers = same-meant words old.meant old.meant met packet n.meant meets-numbers.meant refl
