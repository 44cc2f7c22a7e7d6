use Rattle.std.proofs.Common.{ap, arith}
use Rattle.plug_monitor.proofs.monitor.Monitor.new.Goals as goal

pub returns-clause-fresh : goal.returns-clause-fresh
returns-clause-fresh c = record {
  keeps = record { kept = ap (λ b. b.items) c.in_ok-notes.ensures; marked = omega arith };
  counted = record { counted = c.none.ensures; few = omega arith };
  watching = λ works. c.in_ok-watch.ensures;
  short = omega arith;
}
