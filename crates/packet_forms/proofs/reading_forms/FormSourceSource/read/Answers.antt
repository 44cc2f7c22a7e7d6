use Rattle.std.proofs.Common.{[], ◌≡◌, sym, subst}
use Rattle.std.specs.Option.{IfSome}
use Rattle.ts_outside.specs.Source.{SourceView}
use Rattle.packet_forms.proofs.Through.{end-through}
use Rattle.packet_forms.proofs.reading_forms.FormSourceSource.read.Goals as goal

pub returns-then-brought-eq0-clause-end : goal.returns-then-brought-eq0-clause-end
returns-then-brought-eq0-clause-end g c = λ is.
    subst (λ (s : SourceView). IfSome s.left (λ l. l ≡ [])) (sym c.loop-brought.invariant)
    (end-through c.loop-brought.self.form c.loop-brought.self.at (g.S.Source.seen c.loop-brought.self.source).left (c.in_ok-brought.ensures.3 c.if-brought-eq0.true))
