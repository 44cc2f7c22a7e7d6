use Rattle.std.proofs.Common.{ℕ, ◌+◌, ◌*◌, ◌/◌, ap, ◌∙◌, arith}
use Rattle.plug_restuff.proofs.ClockLemmas.{split-units}
use Rattle.plug_restuff.proofs.moved_clock.units_of.Goals as goal

pub returns-clause-is : goal.returns-clause-is
returns-clause-is c =
    let least = c.requires.least in
    split-units c.args.parts c.args.divisor c.from-units.result c.args.more (omega (arith, least))
    ∙ ap (λ (units : ℕ). (c.args.parts * units + c.args.more) / c.args.divisor) c.from-units.ensures
