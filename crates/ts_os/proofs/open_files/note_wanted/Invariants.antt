use Rattle.std.proofs.Common.{◌≡◌, ◌++◌, take, drop}
use Rattle.ts_os.specs.OpenFiles.{asked_for}
use Rattle.ts_os.proofs.open_files.note_wanted.Given as goal

-- what has been passed is noted, and what is to come is as it was
abbrev pub invariant-loop-output : goal.invariant-loop-output
invariant-loop-output l = l.outputs ≡ asked_for l.asked (take l.output-index l.initial.outputs) ++ drop l.output-index l.initial.outputs
