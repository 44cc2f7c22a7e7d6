use Rattle.std.proofs.Common.{sym, ◌∙◌, ap, arith, drop, length, ◌-◌}
use Rattle.ts_packetize.specs.Packing.{missing}
use Rattle.ts_packetize.proofs.Laying.{missing-nil, missing-full, missing-whole, missing-part, no_bytes, rest_of}
use Rattle.ts_packetize.proofs.room.+missing.Goals as goal

pub returns-in_default : goal.returns-in_default
returns-in_default t c = no_bytes c.args.nothing.now c.requires ∙ sym (missing-nil c.args.room c.args.waiting.now c.in_default.ensures.cases)

pub returns-then-room-eq0 : goal.returns-then-room-eq0
returns-then-room-eq0 t c = no_bytes c.args.nothing.now c.requires ∙ sym (missing-full c.args.room c.args.waiting.now c.if-room-eq0.true)

pub returns-then-bytes-room : goal.returns-then-bytes-room
returns-then-bytes-room t c =
    c.missing.ensures
    ∙ ap (λ s. missing (c.args.room - length s) c.in-Some.others.now) c.bytes-bytes.ensures.same
    ∙ sym (ap (missing c.args.room) c.in-Some.ensures.cases.0 ∙ missing-whole c.args.room c.in-Some.first.now c.in-Some.others.now (omega (arith, c.if-room-eq0.false)) (omega (arith, ap length c.bytes-bytes.ensures.same, c.if-bytes-room.true)))

pub returns : goal.returns
returns t c =
    rest_of c.args.room c.bytes-bytes.result.now
    ∙ ap (drop c.args.room) c.bytes-bytes.ensures.same
    ∙ sym (ap (missing c.args.room) c.in-Some.ensures.cases.0 ∙ missing-part c.args.room c.in-Some.first.now c.in-Some.others.now (omega (arith, c.if-room-eq0.false)) (omega (arith, ap length c.bytes-bytes.ensures.same, c.if-bytes-room.false)))
