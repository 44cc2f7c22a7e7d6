use Rattle.std.proofs.Common.{length}
use Rattle.section_flow.proofs.room.+lay.Given as goal

abbrev pub decreases-lay : goal.decreases-lay
decreases-lay l = length l.sections.now.items
