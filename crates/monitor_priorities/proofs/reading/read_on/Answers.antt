use Rattle.std.proofs.Common.{◌≡◌, ◌==◌, false, ap, sym, ◌∙◌}
use Rattle.std.proofs.lemmas.Bool.{ne_eqb}
use Rattle.monitor_priorities.proofs.Passing.{gives_none, reads_on}
use Rattle.monitor_priorities.proofs.reading.read_on.Goals as goal

pub returns-then-pid-clause-stands : goal.returns-then-pid-clause-stands
returns-then-pid-clause-stands c =
    let other : (c.pid.result == c.args.pid) ≡ false = ne_eqb c.pid.result c.args.pid c.if-pid.true in
    λ fed w. reads_on c.args.reader.now c.args.pid fed c.args.packet.now w (ap (λ n. n == c.args.pid) (sym c.pid.ensures.field) ∙ other)
    c.other_packets_change_nothing.ensures

pub returns-then-pid-clause-gives : goal.returns-then-pid-clause-gives
returns-then-pid-clause-gives c =
    let other : (c.pid.result == c.args.pid) ≡ false = ne_eqb c.pid.result c.args.pid c.if-pid.true in
    λ fed w. c.new.ensures.items
    ∙ sym (gives_none c.args.reader.now c.args.pid fed c.args.packet.now w (ap (λ n. n == c.args.pid) (sym c.pid.ensures.field) ∙ other)
    c.other_packets_change_nothing.ensures)
