use Rattle.std.proofs.Common.{refl}
use Rattle.monitor_rows.proofs.Rowing.{ascending, begins, goes_on}
use Rattle.monitor_rows.proofs.key_row.KeyRow.key_of.Goals as goal

pub returns-in-None-clause-stands : goal.returns-in-None-clause-stands
returns-in-None-clause-stands c = λ rule history packet labels has here less is.
    begins rule c.args.self.now history packet labels c.args.number c.args.at c.args.self.now.limit c.from.result has refl here less
    (c.in-None.ensures.none (ascending rule c.args.self.now history history has)) is c.from.ensures.is
