use Rattle.std.proofs.Common.{length}
use Rattle.ts_packetize.proofs.room.+not_begun.Given as goal

abbrev pub decreases-not_begun : goal.decreases-not_begun
decreases-not_begun l = length l.waiting.now
