use Rattle.std.proofs.Common.{sym, ◌∙◌}
use Rattle.plug_info_state.proofs.SpanLemmas.{spans_damaged}
use Rattle.plug_info_state.proofs.spans.Spans.keep.Goals as goal

pub returns-then-error_indicator : goal.returns-then-error_indicator
returns-then-error_indicator c = λ cells w count labels.
    spans_damaged c.args.self.now cells w c.args.packet.now labels (sym c.error_indicator.ensures ∙ c.if-error_indicator.true)
