use Rattle.std.proofs.Common.{◌++◌, sym, ◌∙◌, ap, arith, length, take, drop, ◌-◌}
use Rattle.ts_packetize.specs.Packing.{missing, not_begun}
use Rattle.ts_packetize.proofs.Laying.{missing-nil, missing-full, missing-whole, missing-part, not_begun-nil, not_begun-full, not_begun-whole, not_begun-part, laid-on, rest_of}
use Rattle.section_flow.proofs.room.+lay.Goals as goal

pub returns-then-room-eq0-clause-rest : goal.returns-then-room-eq0-clause-rest
returns-then-room-eq0-clause-rest t c = c.requires ∙ sym (missing-full c.args.room c.args.sections.now.items c.if-room-eq0.true)

pub returns-then-room-eq0-clause-sections : goal.returns-then-room-eq0-clause-sections
returns-then-room-eq0-clause-sections t c = sym (not_begun-full c.args.room c.args.sections.now.items c.if-room-eq0.true)

pub returns-in_default-clause-rest : goal.returns-in_default-clause-rest
returns-in_default-clause-rest t c = c.requires ∙ sym (missing-nil c.args.room c.args.sections.now.items (omega (arith, c.in_default.ensures.cases.0)))

pub returns-in_default-clause-sections : goal.returns-in_default-clause-sections
returns-in_default-clause-sections t c =
    sym c.in_default.ensures.items ∙ sym (not_begun-nil c.args.room c.args.sections.now.items (omega (arith, c.in_default.ensures.cases.0)))

pub returns-then-bytes-room-clause-load : goal.returns-then-bytes-room-clause-load
returns-then-bytes-room-clause-load t c =
    laid-on c.args.room c.args.load.now.items c.extend_from_slice.new.self.items c.lay.new.load.items c.bytes-bytes.result.now c.in-Some.first
    c.args.sections.now.items c.pop_front.new.self.items c.in-Some.ensures.items c.bytes-bytes.ensures.same c.if-bytes-room.true
    c.in_ok-extend_from_slice.ensures.items c.in_ok-lay.ensures.load

pub returns-then-bytes-room-clause-rest : goal.returns-then-bytes-room-clause-rest
returns-then-bytes-room-clause-rest t c =
    c.in_ok-lay.ensures.rest
    ∙ ap (λ s. missing (c.args.room - length s) c.pop_front.new.self.items) c.bytes-bytes.ensures.same
    ∙ sym (ap (missing c.args.room) c.in-Some.ensures.items ∙ missing-whole c.args.room c.in-Some.first c.pop_front.new.self.items (omega (arith, c.if-room-eq0.false)) (omega (arith, ap length c.bytes-bytes.ensures.same, c.if-bytes-room.true)))

pub returns-then-bytes-room-clause-sections : goal.returns-then-bytes-room-clause-sections
returns-then-bytes-room-clause-sections t c =
    c.in_ok-lay.ensures.sections
    ∙ ap (λ s. not_begun (c.args.room - length s) c.pop_front.new.self.items) c.bytes-bytes.ensures.same
    ∙ sym (ap (not_begun c.args.room) c.in-Some.ensures.items ∙ not_begun-whole c.args.room c.in-Some.first c.pop_front.new.self.items (omega (arith, c.if-room-eq0.false)) (omega (arith, ap length c.bytes-bytes.ensures.same, c.if-bytes-room.true)))

pub returns-clause-rest : goal.returns-clause-rest
returns-clause-rest t c =
    c.in_ok-extend_from_slice-3.ensures.items
    ∙ ap (λ r. r ++ take (length c.bytes-bytes.result.now - c.args.room) (drop c.args.room c.bytes-bytes.result.now)) c.requires
    ∙ rest_of c.args.room c.bytes-bytes.result.now
    ∙ ap (drop c.args.room) c.bytes-bytes.ensures.same
    ∙ sym (ap (missing c.args.room) c.in-Some.ensures.items ∙ missing-part c.args.room c.in-Some.first c.pop_front.new.self.items (omega (arith, c.if-room-eq0.false)) (omega (arith, ap length c.bytes-bytes.ensures.same, c.if-bytes-room.false)))

pub returns-clause-sections : goal.returns-clause-sections
returns-clause-sections t c =
    sym (ap (not_begun c.args.room) c.in-Some.ensures.items ∙ not_begun-part c.args.room c.in-Some.first c.pop_front.new.self.items (omega (arith, c.if-room-eq0.false)) (omega (arith, ap length c.bytes-bytes.ensures.same, c.if-bytes-room.false)))
