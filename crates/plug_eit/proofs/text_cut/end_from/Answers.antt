use Rattle.std.proofs.Common.{◌≡◌, ◌∙◌, ◌+◌, ◌-◌, ◌<◌, ◌≤◌, ap, arith, slice_index, subst, sym}
use Rattle.plug_eit.specs.TextCut.{char_size, end_from}
use Rattle.plug_eit.proofs.TextCutLemmas.{end_none, end_step, end_stop}
use Rattle.plug_eit.proofs.text_cut.end_from.Goals as goal

pub returns-clause-end : goal.returns-clause-end
returns-clause-end c =
    sym (end_none (c.args.room - c.loop.counter) c.args.text.now c.args.room c.loop.at (omega arith)) ∙ c.loop.invariant.same

pub returns-then-room-next-clause-end : goal.returns-then-room-next-clause-end
returns-then-room-next-clause-end c =
    let size : c.char_size.result ≡ char_size (slice_index c.args.text.now 0) (slice_index c.args.text.now c.loop.at) = c.char_size.ensures.size in
    sym (end_stop (c.args.room - c.loop.counter) c.args.text.now c.args.room c.loop.at (subst (λ n. c.args.room < c.loop.at + n) size c.if-room-next.true))
    ∙ c.loop.invariant.same

pub loop-preserved : goal.loop-preserved
loop-preserved c =
    let size : c.char_size.result ≡ char_size (slice_index c.args.text.now 0) (slice_index c.args.text.now c.loop.at) = c.char_size.ensures.size in
    let near : c.loop.at + c.char_size.result ≤ c.args.room = omega (arith, c.if-room-next.false) in
    record {
      within = near;
      same = ap (λ n. end_from (c.args.room - (c.loop.counter + 1)) c.args.text.now c.args.room (c.loop.at + n)) size
          ∙ sym (end_step (c.args.room - c.loop.counter) (c.args.room - (c.loop.counter + 1)) c.args.text.now c.args.room c.loop.at (omega (arith, c.loop-test.true)) (subst (λ n. c.loop.at + n ≤ c.args.room) size near))
          ∙ c.loop.invariant.same;
    }
