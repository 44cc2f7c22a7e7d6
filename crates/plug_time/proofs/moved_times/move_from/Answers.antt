use Rattle.std.proofs.Common.{◌≡◌, ◌∙◌, ◌+◌, ◌-◌, ap, arith, drop, false, of_z, refl, sym, to_z, true, true≢false, w64}
use Rattle.std.proofs.lemmas.Int.{to_z-of_z}
use Rattle.ts_demux.specs.Cut.{is_whole_in_front, size_in_front}
use Rattle.plug_time.specs.MovedTimes.{moved_from, moved_section}
use Rattle.plug_time.proofs.MovedLemmas.{moved_none, moved_step, moved_stop, not_true}
use Rattle.plug_time.proofs.moved_times.move_from.Goals as goal

pub loop-preserved : goal.loop-preserved
loop-preserved c =
    let z = to_z w64 (of_z w64 c.args.shift) in
    let whole : is_whole_in_front (drop c.loop.at c.loop.packet) ≡ true =
    ap (λ row. is_whole_in_front (drop c.loop.at row)) (sym c.bytes.ensures.bytes) ∙ c.in-Some.ensures.whole.0 refl in
    let size : c.in-Some.size ≡ size_in_front (drop c.loop.at c.loop.packet) =
    c.in-Some.ensures.size ∙ ap (λ row. size_in_front (drop c.loop.at row)) c.bytes.ensures.bytes in
    record {
      header = omega arith;
      near = omega (arith, c.in-Some.ensures.within.1);
      same = ap (moved_from (61 - (c.loop.counter + 1)) z (c.loop.at + c.in-Some.size)) c.move_section.ensures
          ∙ ap (λ n. moved_from (61 - (c.loop.counter + 1)) z (c.loop.at + n) (moved_section z c.loop.at c.loop.packet)) size
          ∙ sym (moved_step (61 - c.loop.counter) (61 - (c.loop.counter + 1)) z c.loop.at c.loop.packet (omega arith) whole)
          ∙ c.loop.invariant.same;
    }

pub returns-after-loop : goal.returns-after-loop
returns-after-loop c =
    let z = to_z w64 (of_z w64 c.args.shift) in
    sym (moved_none (61 - c.loop.counter) z c.loop.at c.loop.packet (omega arith))
    ∙ c.loop.invariant.same
    ∙ ap (λ shift. moved_from 61 shift c.args.first c.args.packet.now) (to_z-of_z w64 c.args.shift c.ranges.shift)

pub returns-in_default : goal.returns-in_default
returns-in_default c =
    let z = to_z w64 (of_z w64 c.args.shift) in
    let stops : is_whole_in_front (drop c.loop.at c.loop.packet) ≡ false =
    ap (λ row. is_whole_in_front (drop c.loop.at row)) (sym c.bytes.ensures.bytes) ∙ not_true _ (λ whole. true≢false (sym (c.in_default.ensures.whole.1 whole))) in
    sym (moved_stop (61 - c.loop.counter) z c.loop.at c.loop.packet stops)
    ∙ c.loop.invariant.same
    ∙ ap (λ shift. moved_from 61 shift c.args.first c.args.packet.now) (to_z-of_z w64 c.args.shift c.ranges.shift)
