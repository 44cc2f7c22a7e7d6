use Rattle.std.proofs.Common.{length}
use Rattle.test_streams.proofs.pid.write_packets.Given as goal

abbrev pub decreases-loop-row : goal.decreases-loop-row
decreases-loop-row l = length l.left
