-- Worked rows, computed on the definitions.
use Rattle.std.proofs.Common.{◌≡◌, true, false, [], codes, None, refl}
use Rattle.followed_services.specs.ServiceNumbers.{may_rename, number_after}
use Rattle.followed_services.proofs.NumberLemmas.{name-none}
use Rattle.named_services.specs.declared.service_word.ServiceWord.TheVariants.{Number, Name}

-- the number 5 is service 5, whatever comes on PID 17, where a name may become that of another service
number-row : may_rename (Number 5) 17 [] ≡ false
number-row = refl

name-row : may_rename (Name (codes "A")) 17 [] ≡ true
name-row = refl

pat-row : may_rename (Name (codes "A")) 0 [] ≡ true
pat-row = refl

-- before an SDT a name means no service
early-row : None ≡ number_after (Name (codes "A")) []
early-row = name-none (Name (codes "A")) refl
