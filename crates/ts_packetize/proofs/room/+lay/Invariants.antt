use Rattle.std.proofs.Common.{length}
use Rattle.ts_packetize.proofs.room.+lay.Given as goal

abbrev pub decreases-lay : goal.decreases-lay
decreases-lay l = length l.waiting.now
