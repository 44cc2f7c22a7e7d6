use Rattle.std.proofs.Common.{true, [], refl}
use Rattle.packet_search.specs.Search.{search}
use Rattle.packet_search.proofs.Stands.{stand}
use Rattle.packet_search.proofs.laws.packets_stand_in_the_bytes.Goals as goal

pub returns : goal.returns
unfolding search
returns c = λ form bytes. stand form 0 true 0 [] bytes refl
