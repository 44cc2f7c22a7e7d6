use Rattle.std.proofs.Common.{sym, ◌∙◌, ap, arith, length, ◌-◌}
use Rattle.ts_packetize.specs.Packing.{not_begun}
use Rattle.ts_packetize.proofs.Laying.{not_begun-nil, not_begun-full, not_begun-whole, not_begun-part}
use Rattle.ts_packetize.proofs.room.+not_begun.Goals as goal

pub returns-in_default : goal.returns-in_default
returns-in_default t c = sym (not_begun-nil c.args.room c.args.waiting.now c.in_default.ensures.cases)

pub returns-then-room-eq0 : goal.returns-then-room-eq0
returns-then-room-eq0 t c = sym (not_begun-full c.args.room c.args.waiting.now c.if-room-eq0.true)

pub returns-then-bytes-room : goal.returns-then-bytes-room
returns-then-bytes-room t c =
    c.not_begun.ensures
    ∙ ap (λ s. not_begun (c.args.room - length s) c.in-Some.others.now) c.bytes-bytes.ensures.same
    ∙ sym (ap (not_begun c.args.room) c.in-Some.ensures.cases.0 ∙ not_begun-whole c.args.room c.in-Some.first.now c.in-Some.others.now (omega (arith, c.if-room-eq0.false)) (omega (arith, ap length c.bytes-bytes.ensures.same, c.if-bytes-room.true)))

pub returns : goal.returns
returns t c =
    sym (ap (not_begun c.args.room) c.in-Some.ensures.cases.0 ∙ not_begun-part c.args.room c.in-Some.first.now c.in-Some.others.now (omega (arith, c.if-room-eq0.false)) (omega (arith, ap length c.bytes-bytes.ensures.same, c.if-bytes-room.false)))
