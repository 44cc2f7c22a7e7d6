use Rattle.std.proofs.Common.{◌≡◌, [], ◌∷◌, Bool, true, false, refl, sym, arith, length-append}
use Rattle.ts_packet.specs.Cells.{Live}
use Rattle.plug_analyze.specs.AnalyzeStands.{has_failed}
use Rattle.plug_analyze.proofs.analyze.AnalyzePlugin.step.Goals as goal

not_true : (b : Bool) → (b ≡ true → false ≡ true) → b ≡ false
not_true true h = sym (h refl)
not_true false h = refl

pub returns-in-Ok-clause-meets : goal.returns-in-Ok-clause-meets
returns-in-Ok-clause-meets c = λ history mark s count. (
  λ _. c.in-Ok.ensures.met history mark (s.0 (not_true (has_failed c.args.self.now) (λ e. c.in-Ok.ensures.stays_spent e))) count c.args._labels.now,
  omega (arith, s.1, length-append history (Live c.args.packet.now c.args._labels.now ∷ [])),
)
