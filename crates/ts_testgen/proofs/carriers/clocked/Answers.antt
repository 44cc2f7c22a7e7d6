use Rattle.std.proofs.Common.{◌≡◌, [], ◌∷◌, ◌∙◌, ap}
use Rattle.std.proofs.lemmas.Bool.{OnTrue_at}
use Rattle.ts_packet.specs.Header.{with_pid, with_adaptation_control}
use Rattle.ts_packet.specs.Payload.{with_piece}
use Rattle.ts_packet.specs.Pcr.{has_pcr_of, with_pcr}
use Rattle.ts_testgen.proofs.Carrying.{clock_blank, blank_has_clock, blank_clocked}
use Rattle.ts_testgen.proofs.carriers.clocked.Goals as goal

pub returns : goal.returns
returns c =
    let row : c.put_payload.new.self ≡ clock_blank =
    c.put_payload.ensures.bytes
    ∙ ap (λ row. with_piece row 4 (7 ∷ 16 ∷ []))
    (c.set_adaptation_control.ensures.row ∙ ap (λ row. with_adaptation_control row 3) (c.set_pid.ensures.row ∙ ap (λ row. with_pid row 256) c.null-packet.ensures.bytes)) in
    OnTrue_at (c.set_pcr.ensures.outcome ∙ ap has_pcr_of row ∙ blank_has_clock) c.set_pcr.ensures.row
    ∙ ap (λ row. with_pcr row c.args.clock) row
    ∙ blank_clocked c.args.clock
