use Rattle.std.proofs.Common.{◌≤◌, drop, ap, ◌∙◌, arith}
use Rattle.ts_os.proofs.Waiting.{after_taken}
use Rattle.ts_os.proofs.read_ahead.ReadAhead.take.Goals as goal

pub returns-clause-rest : goal.returns-clause-rest
returns-clause-rest c =
    let count = c.min-count.result in
    let few : count ≤ c.self.inside.have = omega (arith, c.min-count.ensures) in
    after_taken c.self.inside.from c.self.inside.have count c.self.inside.room.items few ∙ ap (drop count) c.self.view_is
