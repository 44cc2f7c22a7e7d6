use Rattle.std.proofs.Common.{◌≡◌, false, ◌+◌, ◌∙◌, ap, arith}
use Rattle.ts_packet.specs.Header.{with_pid, with_counter}
use Rattle.ts_packet.specs.Payload.{with_piece}
use Rattle.ts_packetize.specs.Packets.{packet_with}
use Rattle.ts_testgen.specs.Mixed.{mixed_bytes}
use Rattle.ts_testgen.proofs.Spreading.{length-mixed}
use Rattle.ts_testgen.proofs.Carrying.{plain_header, plain_laid}
use Rattle.ts_testgen.proofs.carriers.payload_packet.Goals as goal

pub returns : goal.returns
returns c =
    let pid = 256 + c.from.result in
    let e : 256 + c.from.result ≡ 256 + c.args.component = omega (arith, c.from.ensures) in
    let payload = mixed_bytes c.args.r 184 in
    c.put_payload.ensures.bytes
    ∙ ap (with_piece c.set_counter.new.self 4) c.mixed_bytes.ensures
    ∙ ap (λ row. with_piece row 4 payload)
    (c.set_counter.ensures.row ∙ ap (λ row. with_counter row c.args.counter) (c.set_pid.ensures.row ∙ ap (λ row. with_pid row pid) c.null-packet.ensures.bytes)
    ∙ plain_header pid c.args.counter (omega (arith, e, c.requires.component)) c.requires.counter)
    ∙ plain_laid pid c.args.counter payload (length-mixed c.args.r 184)
    ∙ ap (λ n. packet_with n c.args.counter (record { unit_start = false; payload = payload })) e
