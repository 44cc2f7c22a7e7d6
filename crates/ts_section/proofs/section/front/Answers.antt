use Rattle.std.proofs.Common.{◌∙◌, arith}
use Rattle.ts_section.proofs.FrontLemmas.{front-all, front-part}
use Rattle.ts_section.proofs.section.front.Goals as goal

pub returns-then-bytes-lt-SHORT_BODY_PLACE : goal.returns-then-bytes-lt-SHORT_BODY_PLACE
returns-then-bytes-lt-SHORT_BODY_PLACE c = front-all c.args.bytes.now (omega arith)

pub returns-then-bytes-size : goal.returns-then-bytes-size
returns-then-bytes-size c = front-all c.args.bytes.now (omega arith)

pub returns-else-bytes-size : goal.returns-else-bytes-size
returns-else-bytes-size c = front-part c.args.bytes.now c.from-size.result (c.from-size.ensures ∙ c.section_length.ensures)
