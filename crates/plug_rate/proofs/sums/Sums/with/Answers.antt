use Rattle.std.proofs.Common.{ℕ, Option, Some, ap, refl}
use Rattle.plug_rate.proofs.Adding.{summed_with}
use Rattle.plug_rate.proofs.sums.Sums.with.Goals as goal

pub returns : goal.returns
returns c = λ measures summed.
    summed_with c.args.self.now _ measures c.args.judged.now summed refl
    (ap (λ (n : ℕ). let o : Option ℕ = Some n in o) c.least_with.ensures) (ap (λ (n : ℕ). let o : Option ℕ = Some n in o) c.greatest_with.ensures)
    c.has_fault_with.ensures
