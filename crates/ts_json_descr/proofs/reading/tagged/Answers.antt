use Rattle.std.proofs.Common.{arith}
use Rattle.std.proofs.lemmas.Grind.{common_steps}
use Rattle.ts_json_descr.proofs.reading.tagged.Goals as goal

pub unreachable-unreachable : goal.unreachable-unreachable
unreachable-unreachable c = grind (arith, common_steps)

pub overflow_cast-tag : goal.overflow_cast-tag
overflow_cast-tag c = grind (arith, common_steps)
