use Rattle.ts_section.proofs.FrontLemmas.{nothing_trails}
use Rattle.ts_section.proofs.section.Section.parse_front.Goals as goal

pub returns-clause-nothing_trails : goal.returns-clause-nothing_trails
returns-clause-nothing_trails c = nothing_trails c.args.from.now
