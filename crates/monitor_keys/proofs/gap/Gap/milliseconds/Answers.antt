use Rattle.std.proofs.Common.{sym, arith}
use Rattle.std.proofs.Math.Nat.{mul-div-mul_right}
use Rattle.monitor_keys.proofs.gap.Gap.milliseconds.Goals as goal

pub returns : goal.returns
returns c = sym (mul-div-mul_right {m = 1000} c.args.self.now.units 27000 (omega arith))
