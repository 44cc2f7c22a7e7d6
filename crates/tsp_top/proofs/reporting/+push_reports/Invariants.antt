use Rattle.std.proofs.Common.{length}
use Rattle.tsp_top.proofs.reporting.+push_reports.Given as goal

abbrev pub decreases-push_reports : goal.decreases-push_reports
decreases-push_reports g l = length l.plugins.now
