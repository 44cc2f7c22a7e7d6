use Rattle.std.proofs.Common.{◌==◌, ◌<◌, ◌+◌, ◌%◌, sym, ◌∙◌, ap, refl, arith}
use Rattle.std.specs.Prelude.{if◌then◌else◌}
use Rattle.ts_packet.specs.Header.{pid_of, has_payload_of, with_counter}
use Rattle.ts_packetize.specs.Packing.{is_done, next_step}
use Rattle.ts_packetize.specs.Packets.{packet_with}
use Rattle.plug_inject.specs.Counted.{counter_behind}
use Rattle.section_flow.specs.FlowState.{PackingState}
use Rattle.section_flow.proofs.Placing.{puts-other, puts-null, puts-passed, puts-next}
use Rattle.section_flow.proofs.packing.Packing.put.Goals as goal

pub returns-then-not-is_on : goal.returns-then-not-is_on
returns-then-not-is_on c =
    puts-other c.args.self.now c.args.packet.now c.args.packet.now
    (ap (λ (v : PackingState). pid_of c.args.packet.now == v.pid) (sym c.self.view_is) ∙ sym c.is_on.ensures ∙ c.if-not-is_on.true) refl

pub returns-then-not-is_clear : goal.returns-then-not-is_clear
returns-then-not-is_clear c =
    let old : PackingState = c.args.self.now in
    let new : PackingState = record { pid = c.self.inside.pid; rest = c.self.inside.rest.items; sections = c.self.inside.sections.items; counter = c.counter_behind-self-inside.result } in
    let few : old.counter < 16 = omega (arith, ap (λ (v : PackingState). v.counter) c.self.view_is, c.self.invariant.1) in
    puts-passed old new c.args.packet.now c.counted-new.result
    (ap (λ (v : PackingState). pid_of c.args.packet.now == v.pid) (sym c.self.view_is) ∙ sym c.is_on.ensures ∙ c.if-not-is_on.false)
    (sym c.is_clear.ensures ∙ c.if-not-is_clear.true) few
    (c.counted-new.ensures ∙ ap (λ (v : PackingState). with_counter c.args.packet.now (counter_behind v.counter c.args.packet.now)) c.self.view_is)
    (ap (λ (v : PackingState). v.pid) c.self.view_is) (ap (λ (v : PackingState). v.rest) c.self.view_is) (ap (λ (v : PackingState). v.sections) c.self.view_is)
    (c.counter_behind-self-inside.ensures ∙ ap (λ (v : PackingState). if has_payload_of c.args.packet.now then (v.counter + 1) % 16 else v.counter) c.self.view_is)

pub returns-then-is_done : goal.returns-then-is_done
returns-then-is_done c =
    puts-null c.args.self.now c.args.packet.now c.null.result
    (ap (λ (v : PackingState). pid_of c.args.packet.now == v.pid) (sym c.self.view_is) ∙ sym c.is_on.ensures ∙ c.if-not-is_on.false)
    (sym c.is_clear.ensures ∙ c.if-not-is_clear.false)
    (ap (λ (v : PackingState). is_done v.rest v.sections) (sym c.self.view_is) ∙ sym c.is_done.ensures ∙ c.if-is_done.true)
    c.null.ensures.bytes

pub returns : goal.returns
returns c =
    let old : PackingState = c.args.self.now in
    let new : PackingState = record { pid = c.self.inside.pid; rest = c.next_packet.new.rest.items; sections = c.next_packet.new.sections.items; counter = (c.self.inside.counter + 1) % 16 } in
    let few : old.counter < 16 = omega (arith, ap (λ (v : PackingState). v.counter) c.self.view_is, c.self.invariant.1) in
    puts-next old new c.args.packet.now c.in_ok-new.new
    (ap (λ (v : PackingState). pid_of c.args.packet.now == v.pid) (sym c.self.view_is) ∙ sym c.is_on.ensures ∙ c.if-not-is_on.false)
    (sym c.is_clear.ensures ∙ c.if-not-is_clear.false) few
    (ap (λ (v : PackingState). is_done v.rest v.sections) (sym c.self.view_is) ∙ sym c.is_done.ensures ∙ c.if-is_done.false)
    (c.in_ok-new.ensures.packet ∙ ap (λ (v : PackingState). packet_with v.pid v.counter (next_step v.rest v.sections).load) c.self.view_is)
    (ap (λ (v : PackingState). v.pid) c.self.view_is)
    (c.in_ok-new.ensures.rest ∙ ap (λ (v : PackingState). (next_step v.rest v.sections).rest) c.self.view_is)
    (c.in_ok-new.ensures.sections ∙ ap (λ (v : PackingState). (next_step v.rest v.sections).sections) c.self.view_is)
    (ap (λ (v : PackingState). (v.counter + 1) % 16) c.self.view_is)
