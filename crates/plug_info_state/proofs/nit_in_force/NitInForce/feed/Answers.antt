use Rattle.std.proofs.Common.{◌≡◌, ◌==◌, false, sym, ◌∙◌, ap}
use Rattle.std.proofs.lemmas.Bool.{ne_eqb}
use Rattle.plug_info_state.proofs.NitLemmas.{nit-fed, nit-other}
use Rattle.plug_info_state.proofs.nit_in_force.NitInForce.feed.Goals as goal

pub returns-then-pid-ne-NIT_PID-clause-fed : goal.returns-then-pid-ne-NIT_PID-clause-fed
returns-then-pid-ne-NIT_PID-clause-fed c =
    let other : (c.pid.result == 16) ≡ false = ne_eqb c.pid.result 16 c.if-pid-ne-NIT_PID.true in
    λ fed w. nit-other c.args.self.now fed c.args.packet.now (ap (λ n. n == 16) (sym c.pid.ensures.field) ∙ other)
    c.uncounted_packets_change_nothing.ensures c.other_packets_complete_nothing.ensures w

pub returns-clause-fed : goal.returns-clause-fed
returns-clause-fed c = λ fed w.
    nit-fed c.args.self.now _ fed c.args.packet.now _ c.in_ok-tables.tables.items w
    (c.in_ok-tables.ensures.stands 16 fed w.read) (c.in_ok-tables.ensures.completes 16 fed w.read) c.deref.ensures.value c.in_ok-keep_nits.ensures
