use Rattle.std.proofs.Common.{length}
use Rattle.ts_packetize.proofs.room.+missing.Given as goal

abbrev pub decreases-missing : goal.decreases-missing
decreases-missing l = length l.waiting.now
