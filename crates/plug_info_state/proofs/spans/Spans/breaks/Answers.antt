use Rattle.plug_info_state.specs.PcrRate.{clock_pid}
use Rattle.plug_info_state.proofs.SpanLemmas.{breaks-kept, breaks-nowhere}
use Rattle.plug_info_state.proofs.spans.Spans.breaks.Goals as goal

pub returns-in-Some : goal.returns-in-Some
returns-in-Some c = λ cells w. breaks-kept cells (clock_pid cells) c.in-Some.span (c.in-Some.ensures cells w)

pub returns-in-None : goal.returns-in-None
returns-in-None c = λ cells w. breaks-nowhere cells (clock_pid cells) (c.in-None.ensures cells w)
