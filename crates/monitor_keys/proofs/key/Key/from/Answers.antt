use Rattle.std.proofs.Common.{sym, ◌∙◌}
use Rattle.monitor_keys.proofs.Keeping.{key_begun}
use Rattle.monitor_keys.proofs.key.Key.from.Goals as goal

pub returns-clause-stands : goal.returns-clause-stands
returns-clause-stands c = λ rule history from limit here. key_begun rule history c.args.at c.args.limit from limit (here ∙ sym from)
