use Rattle.std.proofs.Common.{◌-◌, take, ap, sym, ◌∙◌, arith}
use Rattle.ts_packet.specs.Payload.{with_piece}
use Rattle.plug_pass.proofs.Repeating.{take-repeated, patterned-in}
use Rattle.plug_pass.proofs.pattern.write_from.Goals as goal

pub returns-then-at : goal.returns-then-at
returns-then-at c = λ pattern is.
    c.put_payload.ensures.bytes
    ∙ (ap (with_piece c.args.packet.now c.args.at) (ap (take (188 - c.args.at)) is ∙ take-repeated pattern (188 - c.args.at) 184 (omega arith))
    ∙ sym (patterned-in pattern c.args.at c.args.packet.now c.if-at.true))
