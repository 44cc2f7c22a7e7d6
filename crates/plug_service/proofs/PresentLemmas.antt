-- What is in force at two packets.
use Rattle.std.proofs.Common.{◌≡◌}
use Rattle.plug_service.specs.declared.present.Present.{Present}

-- it is the same where each part of it is
pub same-all : (a b : Present) → a.way ≡ b.way → a.services ≡ b.services → a.unknown ≡ b.unknown → a.stream ≡ b.stream → a ≡ b
same-all a b e f g h = λ i. record { way = e i; services = f i; unknown = g i; stream = h i }
