use Rattle.std.proofs.Common.{◌≡◌, ◌-◌, ◌∷◌, ◌++◌, [], ◌∙◌, ap, arith, length, take, true}
use Rattle.ts_packetize.specs.Packing.{Load, filled, joined}
use Rattle.ts_packetize.specs.Packets.{packet_with}
use Rattle.ts_packetize.proofs.Laying.{begins-bytes}
use Rattle.section_flow.proofs.next.begin.Goals as goal

pub returns-clause-packet : goal.returns-clause-packet
returns-clause-packet c =
    let room : c.len-room.result ≡ length c.args.rest.now.items = omega (arith, c.len-room.ensures) in
    let left : c.len.result ≡ length c.args.rest.now.items = omega (arith, c.len.ensures) in
    c.packet.ensures
    ∙ ap (λ t. packet_with c.args.pid c.args.counter (let load : Load = record { unit_start = true; payload = filled t } in load))
    (c.deref-2.ensures.value
    ∙ begins-bytes c.args.rest.now.items c.args.sections.now.items c.clear.new.self.items c.push.new.self.items c.extend_from_slice.new.self.items c.lay.new.load.items
    c.requires.room c.clear.ensures.items
    (c.in_ok-push.ensures.items ∙ ap (λ n. c.clear.new.self.items ++ n ∷ []) left)
    (c.in_ok-extend_from_slice.ensures.items ∙ ap (λ t. c.push.new.self.items ++ t) c.deref.ensures.value)
    (c.in_ok-lay.ensures.load ∙ ap (λ n. c.extend_from_slice.new.self.items ++ take (183 - n) (joined c.args.sections.now.items)) room))
