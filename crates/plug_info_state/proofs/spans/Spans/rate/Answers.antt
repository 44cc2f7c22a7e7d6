use Rattle.std.proofs.Common.{◌∙◌}
use Rattle.plug_info_state.specs.PcrRate.{clock_pid}
use Rattle.plug_info_state.proofs.SpanLemmas.{rate-kept, rate-nowhere}
use Rattle.plug_info_state.proofs.spans.Spans.rate.Goals as goal

pub returns-in-Some : goal.returns-in-Some
returns-in-Some c = λ cells w. c.rate.ensures ∙ rate-kept cells (clock_pid cells) c.in-Some.span (c.in-Some.ensures cells w)

pub returns-in-None : goal.returns-in-None
returns-in-None c = λ cells w. rate-nowhere cells (clock_pid cells) (c.in-None.ensures cells w)
