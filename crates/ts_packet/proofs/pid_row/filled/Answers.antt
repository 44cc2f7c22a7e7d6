use Rattle.std.proofs.Common.{◌≡◌, ◌∙◌, ap, replicate, arith}
use Rattle.ts_packet.specs.declared.numbers.TheConstants.{PID_COUNT}
use Rattle.ts_packet.proofs.pid_row.filled.Goals as goal

pub returns : goal.returns
returns g c = let all : c.loop.counter ≡ PID_COUNT = omega arith in c.loop.invariant ∙ ap (λ n. replicate n c.args.value) all
