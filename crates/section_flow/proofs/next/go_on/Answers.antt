use Rattle.std.proofs.Common.{◌∙◌, ap, arith, take, false}
use Rattle.ts_packetize.specs.Packing.{Load, filled}
use Rattle.ts_packetize.specs.Packets.{packet_with}
use Rattle.ts_packetize.proofs.Filling.{filled-first, left_after}
use Rattle.section_flow.proofs.next.go_on.Goals as goal

pub returns-clause-packet : goal.returns-clause-packet
returns-clause-packet c =
    c.packet-packet.ensures
    ∙ ap (λ t. packet_with c.args.pid c.args.counter (let load : Load = record { unit_start = false; payload = filled t } in load)) (ap (take c.min-size.result) c.deref.ensures.value)
    ∙ ap (λ t. packet_with c.args.pid c.args.counter (let load : Load = record { unit_start = false; payload = t } in load)) (filled-first c.min-size.result c.args.rest.now.items (omega arith) (omega arith) (λ h. omega arith))

pub returns-clause-rest : goal.returns-clause-rest
returns-clause-rest c = c.drop_front.ensures ∙ left_after c.min-size.result 184 c.args.rest.now.items (omega arith) (λ h. omega arith)
