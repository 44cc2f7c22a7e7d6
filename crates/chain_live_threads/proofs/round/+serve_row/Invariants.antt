use Rattle.std.proofs.Common.{length}
use Rattle.chain_live_threads.proofs.round.+serve_row.Given as goal

abbrev pub decreases-serve_row : goal.decreases-serve_row
decreases-serve_row g l = length l.stages.now
