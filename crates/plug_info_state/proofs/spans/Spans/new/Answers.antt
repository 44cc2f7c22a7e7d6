use Rattle.plug_info_state.proofs.SpanLemmas.{spans_none}
use Rattle.plug_info_state.proofs.spans.Spans.new.Goals as goal

pub returns : goal.returns
returns c = spans_none _ c.in_ok-filled.ensures.each
