use Rattle.std.proofs.Common.{◌≡◌, ◌==◌, false, sym, ◌∙◌, ap}
use Rattle.std.proofs.lemmas.Bool.{ne_eqb}
use Rattle.monitor_services.proofs.SdtFeeding.{sdt-fed, sdt-other}
use Rattle.monitor_services.proofs.current_sdt.CurrentSdt.feed.Goals as goal

pub returns-then-pid-ne-SDT_PID : goal.returns-then-pid-ne-SDT_PID
returns-then-pid-ne-SDT_PID c =
    let other : (c.pid.result == 17) ≡ false = ne_eqb c.pid.result 17 c.if-pid-ne-SDT_PID.true in
    λ fed w. sdt-other c.args.self.now fed c.args.packet.now (ap (λ n. n == 17) (sym c.pid.ensures.field) ∙ other)
    c.uncounted_packets_change_nothing.ensures c.other_packets_complete_nothing.ensures w

pub returns : goal.returns
returns c = λ fed w.
    sdt-fed c.args.self.now _ fed c.args.packet.now _ c.in_ok-tables.tables.items w
    (c.in_ok-tables.ensures.stands 17 fed w.read) (c.in_ok-tables.ensures.completes 17 fed w.read) c.deref.ensures.value
    c.in_ok-keep_sdts.ensures
