use Rattle.std.proofs.Common.{rules, sym}
use Rattle.tsp_top.proofs.end_line.refusal_text.Goals as goal

pub returns : goal.returns
returns c = rw (sym c.pid-pid.ensures) (search rules)
