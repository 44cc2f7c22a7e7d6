use Rattle.std.proofs.Common.{sym, ◌∙◌, ap, arith, length, ◌-◌, subst}
use Rattle.std.specs.List.{AllByRecursion}
use Rattle.ts_section.specs.ValidSection.{IsSection}
use Rattle.ts_packetize.specs.Begun.{begun}
use Rattle.ts_packetize.proofs.Laying.{begun-nil, begun-full, begun-whole, begun-part, laid-on}
use Rattle.ts_packetize.proofs.room.+lay.Goals as goal

pub returns-in_default-clause-valid : goal.returns-in_default-clause-valid
returns-in_default-clause-valid t c = subst (AllByRecursion (λ s. IsSection s)) (sym (begun-nil c.args.room c.args.waiting.now c.in_default.ensures.cases)) tt

pub returns-then-room-eq0-clause-valid : goal.returns-then-room-eq0-clause-valid
returns-then-room-eq0-clause-valid t c = subst (AllByRecursion (λ s. IsSection s)) (sym (begun-full c.args.room c.args.waiting.now c.if-room-eq0.true)) tt

pub returns-then-bytes-room-clause-laid : goal.returns-then-bytes-room-clause-laid
returns-then-bytes-room-clause-laid t c =
    laid-on c.args.room c.args.load.now.items c.extend_from_slice.new.self.items c.lay.new.load.items c.bytes-bytes.result.now c.in-Some.first.now
    c.args.waiting.now c.in-Some.others.now c.in-Some.ensures.cases.0 c.bytes-bytes.ensures.same c.if-bytes-room.true
    c.in_ok-extend_from_slice.ensures.items c.in_ok-lay.ensures.laid

pub returns-then-bytes-room-clause-valid : goal.returns-then-bytes-room-clause-valid
returns-then-bytes-room-clause-valid t c =
    let s = c.in-Some.first.now in
    let ss = c.in-Some.others.now in
    subst (AllByRecursion (λ s. IsSection s))
    (sym (ap (begun c.args.room) c.in-Some.ensures.cases.0 ∙ begun-whole c.args.room s ss (omega (arith, c.if-room-eq0.false)) (omega (arith, ap length c.bytes-bytes.ensures.same, c.if-bytes-room.true))))
    (c.bytes-bytes.ensures.valid, subst (λ x. AllByRecursion (λ s. IsSection s) (begun (c.args.room - length x) ss)) c.bytes-bytes.ensures.same c.in_ok-lay.ensures.valid)

pub returns-clause-valid : goal.returns-clause-valid
returns-clause-valid t c =
    let s = c.in-Some.first.now in
    let ss = c.in-Some.others.now in
    subst (AllByRecursion (λ s. IsSection s))
    (sym (ap (begun c.args.room) c.in-Some.ensures.cases.0 ∙ begun-part c.args.room s ss (omega (arith, c.if-room-eq0.false)) (omega (arith, ap length c.bytes-bytes.ensures.same, c.if-bytes-room.false))))
    (c.bytes-bytes.ensures.valid, tt)
