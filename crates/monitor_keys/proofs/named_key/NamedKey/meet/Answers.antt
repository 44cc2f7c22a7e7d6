use Rattle.std.proofs.Common.{◌++◌, ◌∷◌, [], ℕ, ap, sym, ◌∙◌}
use Rattle.std.proofs.lemmas.Bool.{false≢true}
use Rattle.ts_packet.specs.Cells.{Live}
use Rattle.monitor_keys.specs.declared.span.Span.{Span}
use Rattle.monitor_keys.specs.Keys.{gap_on}
use Rattle.monitor_keys.specs.Named.{begun_at}
use Rattle.monitor_keys.proofs.Naming.{kept_or_begun, named_live, named_still, one_beginning}
use Rattle.monitor_keys.proofs.named_key.NamedKey.meet.Goals as goal

pub returns-then-not-is_named-clause-tells : goal.returns-then-not-is_named-clause-tells
returns-then-not-is_named-clause-tells c = λ rule named history packet labels n w span_is named_is occurs_is due_is began.
    absurd (false≢true (sym c.if-not-is_named.true ∙ (named_is ∙ named_still named (history ++ Live packet labels ∷ []) n began)))

pub returns-clause-stands : goal.returns-clause-stands
returns-clause-stands c = λ rule named history packet labels w span_is named_is occurs_is due_is.
    let kept =
    kept_or_begun rule named c.args.self.now history (Live packet labels) c.args.span.now.at w (ap (λ (s : Span). s.at) span_is)
    (sym named_is ∙ c.if-not-is_named.false) c.key_from-key.result c.key_from-key.ensures in
    named_live rule named c.args.self.now history (history ++ Live packet labels ∷ []) c.key_from-key.result c.meet-gap.new.self w kept.1
    (c.meet-gap.ensures.stands (begun_at rule c.key_from-key.result.from) history packet labels kept.0 span_is occurs_is due_is)

pub returns-clause-tells : goal.returns-clause-tells
returns-clause-tells c = λ rule named history packet labels n w span_is named_is occurs_is due_is began.
    let kept =
    kept_or_begun rule named c.args.self.now history (Live packet labels) c.args.span.now.at w (ap (λ (s : Span). s.at) span_is)
    (sym named_is ∙ c.if-not-is_named.false) c.key_from-key.result c.key_from-key.ensures in
    c.meet-gap.ensures.tells (begun_at rule c.key_from-key.result.from) history packet kept.0 span_is occurs_is due_is
    ∙ ap (λ (m : ℕ). gap_on (begun_at rule m) history packet)
    (one_beginning named (history ++ Live packet labels ∷ []) c.key_from-key.result.from n kept.1 began)
