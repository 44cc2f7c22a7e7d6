use Rattle.std.proofs.Common.{sym}
use Rattle.plug_pcr.proofs.Faulting.{pcr_none}
use Rattle.plug_info_state.proofs.SpanLemmas.{spans_without}
use Rattle.plug_info_state.proofs.spans.Spans.meet.Goals as goal

pub returns-in-None : goal.returns-in-None
returns-in-None c = λ cells w count labels.
    spans_without c.args.self.now cells w c.args.packet.now labels (pcr_none c.args.packet.now (sym c.in-None.ensures.value))
