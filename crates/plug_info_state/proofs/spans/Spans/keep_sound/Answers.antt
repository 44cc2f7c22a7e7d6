use Rattle.std.proofs.Common.{◌<◌, sym, arith}
use Rattle.ts_packet.specs.Header.{pid_of}
use Rattle.ts_packet.specs.declared.numbers.TheConstants.{PID_COUNT}
use Rattle.plug_info_state.specs.ClockSpans.{no_span}
use Rattle.plug_info_state.specs.declared.spans.Spans.{Spans}
use Rattle.plug_pcr.proofs.Faulting.{pcr_reads}
use Rattle.plug_info_state.proofs.SpanLemmas.{set_at, span_is_of, spans_live, with_is}
use Rattle.plug_info_state.proofs.spans.Spans.keep_sound.Goals as goal

pub returns : goal.returns
returns c = λ cells w count labels.
    let packet = c.args.packet.now in
    let reads = pcr_reads packet c.args.met.clock (sym c.requires.clock) in
    let below : pid_of packet < PID_COUNT = omega (arith, c.pid-pid.ensures.range, c.pid-pid.ensures.field) in
    let spans_new : Spans = record { spans = c.set.new.self } in
    spans_live c.args.self.now cells w packet labels reads.0 c.requires.sound below c.in-Some.span
    (span_is_of c.args.self.now packet cells c.get-kept.result c.in-Some.span c.args.met c.pid-pid.result c.discontinuity.result
    (with_is c.get-kept.result c.in-Some.span c.args.met c.discontinuity.result c.in-Some.ensures)
    (c.get-kept.ensures no_span) c.pid-pid.ensures.field count reads.1 c.discontinuity.ensures)
    spans_new (set_at c.args.self.now spans_new packet c.pid-pid.result c.in-Some.span c.pid-pid.ensures.field c.set.ensures.values) c.set.ensures.whole
