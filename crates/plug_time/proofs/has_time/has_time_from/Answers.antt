use Rattle.std.proofs.Common.{◌≡◌, ◌∙◌, ◌+◌, ◌-◌, ap, arith, drop, false, refl, sym, true, true≢false}
use Rattle.ts_section.specs.SectionFields.{front_of}
use Rattle.ts_demux.specs.Cut.{is_whole_in_front, size_in_front}
use Rattle.plug_time.specs.HasTime.{has_time_from, tells_time}
use Rattle.plug_time.proofs.HasTimeLemmas.{time_found, time_goes_on, time_none, time_stop}
use Rattle.plug_time.proofs.MovedLemmas.{not_true}
use Rattle.plug_time.proofs.has_time.has_time_from.Goals as goal

pub returns : goal.returns
returns c = sym (time_none (61 - c.loop.counter) c.loop.at c.args.packet.now (omega arith)) ∙ c.loop.invariant.same

pub returns-in_default : goal.returns-in_default
returns-in_default c =
    let stops : is_whole_in_front (drop c.loop.at c.args.packet.now) ≡ false =
    ap (λ row. is_whole_in_front (drop c.loop.at row)) (sym c.bytes-bytes.ensures.bytes) ∙ not_true _ (λ whole. true≢false (sym (c.in_default.ensures.whole.1 whole))) in
    sym (time_stop (61 - c.loop.counter) c.loop.at c.args.packet.now stops) ∙ c.loop.invariant.same

pub returns-then-tells_time : goal.returns-then-tells_time
returns-then-tells_time c =
    let whole : is_whole_in_front (drop c.loop.at c.args.packet.now) ≡ true =
    ap (λ row. is_whole_in_front (drop c.loop.at row)) (sym c.bytes-bytes.ensures.bytes) ∙ c.in-Some.ensures.whole.0 refl in
    let tells : tells_time (front_of (drop c.loop.at c.args.packet.now)) ≡ true =
    ap (λ row. tells_time (front_of (drop c.loop.at row))) (sym c.bytes-bytes.ensures.bytes)
    ∙ ap tells_time (sym c.section_at.ensures.bytes) ∙ sym c.tells_time.ensures ∙ c.if-tells_time.true in
    sym (time_found (61 - c.loop.counter) (61 - (c.loop.counter + 1)) c.loop.at c.args.packet.now (omega arith) whole tells) ∙ c.loop.invariant.same

pub loop-preserved : goal.loop-preserved
loop-preserved c =
    let whole : is_whole_in_front (drop c.loop.at c.args.packet.now) ≡ true =
    ap (λ row. is_whole_in_front (drop c.loop.at row)) (sym c.bytes-bytes.ensures.bytes) ∙ c.in-Some.ensures.whole.0 refl in
    let size : c.in-Some.size ≡ size_in_front (drop c.loop.at c.args.packet.now) =
    c.in-Some.ensures.size ∙ ap (λ row. size_in_front (drop c.loop.at row)) c.bytes-bytes.ensures.bytes in
    let tells : tells_time (front_of (drop c.loop.at c.args.packet.now)) ≡ false =
    ap (λ row. tells_time (front_of (drop c.loop.at row))) (sym c.bytes-bytes.ensures.bytes)
    ∙ ap tells_time (sym c.section_at.ensures.bytes) ∙ sym c.tells_time.ensures ∙ c.if-tells_time.false in
    record {
      near = omega (arith, c.in-Some.ensures.within.1);
      same = ap (λ n. has_time_from (61 - (c.loop.counter + 1)) (c.loop.at + n) c.args.packet.now) size
          ∙ sym (time_goes_on (61 - c.loop.counter) (61 - (c.loop.counter + 1)) c.loop.at c.args.packet.now (omega arith) whole tells)
          ∙ c.loop.invariant.same;
    }
