use Rattle.std.proofs.Common.{ℕ, ◌∙◌, subst, ap}
use Rattle.ts_land.specs.Opening.{AreRows, rows_of}
use Rattle.in_place.proofs.writing.write_in_place.Goals as goal

pub returns-clause-packets : goal.returns-clause-packets
returns-clause-packets g c =
    let o = c.open-opened in
    subst AreRows (ap (λ w. w.cells) c.shut.ensures.shut ∙ ap (λ (n : ℕ). rows_of n o.result.bytes) (ap (λ w. w.slots) o.ensures.lent) ∙ o.ensures.packets) c.shut.ensures.packets
