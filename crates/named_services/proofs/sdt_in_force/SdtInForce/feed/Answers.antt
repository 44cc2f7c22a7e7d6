use Rattle.std.proofs.Common.{◌≡◌, ◌==◌, false, sym, ◌∙◌, ap, length, subst, true≢false}
use Rattle.std.proofs.lemmas.Bool.{eq-eqb, ne_eqb}
use Rattle.ts_demux.specs.TablesOn.{Completes}
use Rattle.named_services.proofs.SdtLemmas.{apart, sdt-fed, sdt-other}
use Rattle.named_services.proofs.sdt_in_force.SdtInForce.feed.Goals as goal

pub returns-then-pid-ne-SDT_PID-clause-stands : goal.returns-then-pid-ne-SDT_PID-clause-stands
returns-then-pid-ne-SDT_PID-clause-stands c =
    let other : (c.pid.result == 17) ≡ false = ne_eqb c.pid.result 17 c.if-pid-ne-SDT_PID.true in
    λ fed w. sdt-other c.args.self.now fed c.args.packet.now (ap (λ n. n == 17) (sym c.pid.ensures.field) ∙ other)
    c.uncounted_packets_change_nothing.ensures c.other_packets_complete_nothing.ensures w

pub returns-then-pid-ne-SDT_PID-clause-completes : goal.returns-then-pid-ne-SDT_PID-clause-completes
returns-then-pid-ne-SDT_PID-clause-completes c =
    let other : (c.pid.result == 17) ≡ false = ne_eqb c.pid.result 17 c.if-pid-ne-SDT_PID.true in
    λ fed w. subst (Completes 17 fed c.args.packet.now) (sym c.new.ensures.items)
    (c.other_packets_complete_nothing.ensures 17 fed c.args.packet.now (apart c.args.packet.now (ap (λ n. n == 17) (sym c.pid.ensures.field) ∙ other)))

pub returns-then-pid-ne-SDT_PID-clause-none : goal.returns-then-pid-ne-SDT_PID-clause-none
returns-then-pid-ne-SDT_PID-clause-none c = λ other. ap length c.new.ensures.items

pub returns-clause-none : goal.returns-clause-none
returns-clause-none c = λ other.
    absurd (true≢false (sym (ap (λ n. n == 17) (sym c.pid.ensures.field) ∙ eq-eqb c.pid.result 17 c.if-pid-ne-SDT_PID.false) ∙ other))

pub returns-in_err-tables-clause-quiet : goal.returns-in_err-tables-clause-quiet
returns-in_err-tables-clause-quiet c = λ other.
    absurd (true≢false (sym (ap (λ n. n == 17) (sym c.pid.ensures.field) ∙ eq-eqb c.pid.result 17 c.if-pid-ne-SDT_PID.false) ∙ other))

pub returns-in_err-keep_sdts-clause-quiet : goal.returns-in_err-keep_sdts-clause-quiet
returns-in_err-keep_sdts-clause-quiet c = λ other.
    absurd (true≢false (sym (ap (λ n. n == 17) (sym c.pid.ensures.field) ∙ eq-eqb c.pid.result 17 c.if-pid-ne-SDT_PID.false) ∙ other))

pub returns-clause-stands : goal.returns-clause-stands
returns-clause-stands c = λ fed w.
    sdt-fed c.args.self.now _ fed c.args.packet.now _ c.in_ok-tables.tables.items w
    (c.in_ok-tables.ensures.stands 17 fed w.read) (c.in_ok-tables.ensures.completes 17 fed w.read) c.deref.ensures.value
    c.in_ok-keep_sdts.ensures.each c.in_ok-keep_sdts.ensures.last

pub returns-clause-completes : goal.returns-clause-completes
returns-clause-completes c = λ fed w. c.in_ok-tables.ensures.completes 17 fed w.read
