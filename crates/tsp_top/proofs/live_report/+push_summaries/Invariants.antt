use Rattle.std.proofs.Common.{length}
use Rattle.tsp_top.proofs.live_report.+push_summaries.Given as goal

abbrev pub decreases-push_summaries : goal.decreases-push_summaries
decreases-push_summaries g l = length l.plugins.now
