use Rattle.std.proofs.Common.{sym, ◌∙◌, ap, arith, true, false}
use Rattle.ts_packetize.specs.Packing.{Load, filled}
use Rattle.ts_packetize.specs.Packets.{packet_with}
use Rattle.ts_packetize.proofs.Filling.{filled-first}
use Rattle.ts_packetize.proofs.Laying.{step-alone, step-begins, begins-bytes}
use Rattle.ts_packetize.proofs.packing.next_packet.Goals as goal

pub returns-then-goes_on_alone-clause-packet : goal.returns-then-goes_on_alone-clause-packet
returns-then-goes_on_alone-clause-packet c =
    c.packet.ensures
    ∙ ap (λ t. packet_with c.args.pid c.args.counter (let load : Load = record { unit_start = false; payload = t } in load)) (filled-first c.min.result c.args.rest.now (omega arith) (omega arith) (λ h. omega arith))
    ∙ sym (ap (λ step. packet_with c.args.pid c.args.counter step.load) (step-alone c.args.rest.now c.args.waiting.now (sym c.goes_on_alone.ensures.alone ∙ c.if-goes_on_alone.true)))

pub returns-clause-packet : goal.returns-clause-packet
returns-clause-packet c =
    c.packet-2.ensures
    ∙ ap (λ t. packet_with c.args.pid c.args.counter (let load : Load = record { unit_start = true; payload = filled t } in load))
    (c.deref.ensures.value ∙ begins-bytes c.args.rest.now c.args.waiting.now c.clear.new.self.items c.push.new.self.items c.extend_from_slice.new.self.items c.lay.new.load.items
    (omega (arith, c.goes_on_alone.ensures.room c.if-goes_on_alone.false)) c.clear.ensures.items c.in_ok-push.ensures.items c.in_ok-extend_from_slice.ensures.items c.in_ok-lay.ensures.laid)
    ∙ sym (ap (λ step. packet_with c.args.pid c.args.counter step.load) (step-begins c.args.rest.now c.args.waiting.now (sym c.goes_on_alone.ensures.alone ∙ c.if-goes_on_alone.false)))
