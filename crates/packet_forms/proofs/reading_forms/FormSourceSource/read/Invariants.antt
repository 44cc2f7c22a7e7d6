use Rattle.std.proofs.Common.{◌≡◌}
use Rattle.packet_forms.specs.Stripped.{to_packet}
use Rattle.packet_forms.specs.FormView.{form_view}
use Rattle.packet_forms.proofs.reading_forms.FormSourceSource.read.Given as goal

abbrev pub invariant-loop-brought : goal.invariant-loop-brought
invariant-loop-brought g l =
    form_view l.fn.self.form l.fn.self.at (g.S.Source.seen l.fn.self.first.value) (g.S.Source.seen l.fn.self.source)
    ≡ form_view l.self.form l.self.at (g.S.Source.seen l.self.first.value) (g.S.Source.seen l.self.source)

abbrev pub decreases-loop-brought : goal.decreases-loop-brought
decreases-loop-brought g l = to_packet l.self.form l.self.at
