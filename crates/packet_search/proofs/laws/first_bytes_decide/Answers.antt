use Rattle.std.proofs.Common.{true, arith}
use Rattle.packet_search.proofs.Settles.{settles}
use Rattle.packet_search.proofs.laws.first_bytes_decide.Goals as goal

pub returns : goal.returns
returns c = λ form bytes. settles form 0 true 0 bytes (omega arith)
