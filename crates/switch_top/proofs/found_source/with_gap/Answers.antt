use Rattle.switch_top.proofs.FoundLemmas.{with-some, with-none}
use Rattle.switch_top.proofs.found_source.with_gap.Goals as goal

pub returns-in-Some : goal.returns-in-Some
returns-in-Some c = with-some c.args.count c.sum.result c.args.gap c.in-Some.gap c.in-Some.is c.sum.ensures

pub returns-in-None : goal.returns-in-None
returns-in-None c = with-none c.args.count c.args.gap c.in-None.is c.ranges.count.fits
