use Rattle.std.proofs.Common.{refl}
use Rattle.monitor_rows.proofs.Rowing.{kept_names, renamed}
use Rattle.monitor_rows.proofs.key_row.KeyRow.rename.Goals as goal

pub returns-then-has_numbers : goal.returns-then-has_numbers
returns-then-has_numbers c = λ rule history packet labels has here are.
    kept_names rule c.args.self.now history packet labels c.args.numbers.now has are (c.has_numbers.ensures c.if-has_numbers.true)

pub returns : goal.returns
returns c = λ rule history packet labels has here are.
    renamed rule c.args.self.now _ history packet labels c.args.numbers.now has refl are c.in_ok-self.ensures.numbers
    (c.in_ok-self.ensures.each rule history packet labels has here are)
