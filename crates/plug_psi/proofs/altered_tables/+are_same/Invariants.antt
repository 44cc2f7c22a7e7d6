use Rattle.std.proofs.Common.{length}
use Rattle.plug_psi.proofs.altered_tables.+are_same.Given as goal

abbrev pub decreases-are_same : goal.decreases-are_same
decreases-are_same l = length l.sections.now
