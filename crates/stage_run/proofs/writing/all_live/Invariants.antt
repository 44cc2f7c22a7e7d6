use Rattle.std.proofs.Common.{take}
use Rattle.stage_run.specs.Writing.{AreLive}
use Rattle.stage_run.proofs.writing.all_live.Given as goal

abbrev pub invariant-loop-i : goal.invariant-loop-i
invariant-loop-i l = AreLive (take l.i l.marks)
