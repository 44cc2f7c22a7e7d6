use Rattle.std.proofs.Common.{IsOk, subst}
use Rattle.stage_run.proofs.packet_row.packet_of.Goals as goal

pub unreachable-requires : goal.unreachable-requires
unreachable-requires c = let ok = subst (λ r. IsOk r) c.in-Err.is (c.of.ensures.accepted.1 c.requires.sync) in cc
