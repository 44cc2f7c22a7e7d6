use Rattle.std.proofs.Common.{take, replicate, sym, ◌∙◌, ap, arith, refl}
use Rattle.ts_packet.specs.Header.{with_counter}
use Rattle.ts_packet.specs.Payload.{with_piece}
use Rattle.ts_testgen.specs.Generated.{clock_at, clock_packet}
use Rattle.ts_testgen.specs.Mixed.{mixed_bytes}
use Rattle.ts_testgen.proofs.Spreading.{length-mixed, take-mixed, first_length}
use Rattle.ts_testgen.proofs.Carrying.{clock_counted, clock_laid}
use Rattle.ts_testgen.proofs.carriers.clock_packet.Goals as goal

pub returns : goal.returns
returns c =
    let r = c.args.r in
    let clock = clock_at c.args.i in
    c.put_payload.ensures.bytes
    ∙ ap (λ bytes. with_piece c.set_counter.new.self 12 (take 176 bytes)) c.mixed_bytes-payload.ensures
    ∙ ap (with_piece c.set_counter.new.self 12) (take-mixed r 184 176 (omega arith))
    ∙ ap (λ row. with_piece row 12 (mixed_bytes r 176))
    (c.set_counter.ensures.row
    ∙ ap (λ row. with_counter row c.args.counter) (c.clocked-packet.ensures ∙ ap (λ t. clock_packet 0 t (replicate 176 0xFF)) c.clock_at.ensures.clock)
    ∙ clock_counted clock c.args.counter (replicate 176 0xFF) c.requires)
    ∙ clock_laid clock c.args.counter (replicate 176 0xFF) (mixed_bytes r 176) refl (length-mixed r 176)

pub slice_bounds-put_payload-length : goal.slice_bounds-put_payload-length
slice_bounds-put_payload-length c = sym (first_length c.args.r c.mixed_bytes-payload.result c.mixed_bytes-payload.ensures)

pub put_payload-requires-clause-fits : goal.put_payload-requires-clause-fits
put_payload-requires-clause-fits c = omega (arith, first_length c.args.r c.mixed_bytes-payload.result c.mixed_bytes-payload.ensures)
