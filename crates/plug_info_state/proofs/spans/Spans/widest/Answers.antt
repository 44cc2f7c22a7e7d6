use Rattle.std.proofs.Common.{◌≡◌, ◌<◌, ℕ, None, ◌∙◌, ap, refl, arith}
use Rattle.std.specs.Prelude.{option_map}
use Rattle.std.specs.List.{fold}
use Rattle.ts_packet.specs.declared.numbers.TheConstants.{PID_COUNT}
use Rattle.plugin_notes.specs.PidPackets.{numbers_below}
use Rattle.plug_info_state.specs.ClockSpans.{no_span, span_on}
use Rattle.plug_info_state.specs.PcrRate.{wider_of}
use Rattle.plug_info_state.proofs.SpanLemmas.{widest_more}
use Rattle.plug_info_state.proofs.spans.Spans.widest.Goals as goal

pub loop-pid-init : goal.loop-pid-init
unfolding numbers_below
loop-pid-init c = λ cells w. refl

pub loop-pid-preserved : goal.loop-pid-preserved
loop-pid-preserved c = λ cells w.
    let below : c.loop-pid.pid < PID_COUNT = omega (arith, c.loop-pid-test.true) in
    widest_more cells c.loop-pid.pid c.loop-pid.widest _ c.get.result (c.loop-pid.invariant cells w)
    (c.get.ensures no_span ∙ w.each c.loop-pid.pid below) c.wider-widest.ensures

pub returns : goal.returns
returns c = λ cells w.
    let there : c.loop-pid.pid ≡ PID_COUNT = omega (arith, c.loop-pid-test.false, c.loop-pid.auto.pid-end) in
    c.loop-pid.invariant cells w ∙ ap (λ (n : ℕ). option_map (span_on cells) (fold (wider_of cells) None (numbers_below n))) there
