-- The close of a run: the cut and its cause, from the stages' ends and the limit. This project's own rule.
use Rattle.std.specs.Prelude.{ℕ, zero, suc, min, List, [], ◌∷◌, ◌++◌, Option, None, Some, unwrap_or}
use Rattle.std.specs.Option.{option_and_then}
use Rattle.chain_model.specs.declared.cause.Cause.{Cause}
use Rattle.chain_model.specs.declared.cause.Cause.TheVariants as cause
use Rattle.chain_model.specs.Cut.{Ending, cause_among}
use Rattle.chain_core.specs.declared.closed.Closed.{Closed}
use Rattle.chain_core.specs.declared.core_plan.CorePlan.{CorePlan}
use Rattle.chain_core.specs.declared.progress.Progress.{Progress}
use Rattle.chain_core.specs.declared.stage_end.StageEnd.{StageEnd}
use Rattle.chain_core.specs.declared.stage_end.StageEnd.TheVariants.{Input, Last, Stop, Refuse, WriteFault, NoMemory, Followed}
use Rattle.chain_core.specs.Numbers.{StagesProgress, limit_of}

-- the cause that stage `k` gives by ending so: none where it only followed
abbrev pub cause_of_stage : ℕ → StageEnd → Option Cause
cause_of_stage k (Input how) = Some (cause.Input how)
cause_of_stage k Last = Some (cause.Until k)
cause_of_stage k Stop = Some (cause.Stop k)
cause_of_stage k (Refuse reason) = Some (cause.Refuse k reason)
cause_of_stage k WriteFault = Some cause.WriteFault
cause_of_stage k NoMemory = Some (cause.NoMemory k)
cause_of_stage k Followed = None

-- an ending at this number of cells, where there is a cause
abbrev pub ending_with : ℕ → Option Cause → List Ending
ending_with at None = []
ending_with at (Some why) = record { at = at; cause = why } ∷ []

-- the ending of stage `k`, where it ended by itself
abbrev pub ending_of_progress : ℕ → Progress → List Ending
ending_of_progress k progress = ending_with progress.given (option_and_then (cause_of_stage k) progress.ended)

-- the endings of the stages up to `j`
abbrev pub told_endings : StagesProgress → ℕ → List Ending
told_endings progress zero = ending_of_progress zero (progress zero)
told_endings progress (suc j) = told_endings progress j ++ ending_of_progress (suc j) (progress (suc j))

-- the lesser of a number, if it is known, and another number
abbrev pub lesser_if : Option ℕ → ℕ → ℕ
lesser_if None n = n
lesser_if (Some m) n = min m n

-- the least of a number, if it is known, and the places of the endings
abbrev pub least_among : Option ℕ → List Ending → Option ℕ
least_among least [] = least
least_among least (ending ∷ rest) = least_among (Some (lesser_if least ending.at)) rest

-- the cut: the least of the limit and of what the stages that ended by themselves gave
abbrev pub cut_at_close : CorePlan → StagesProgress → ℕ
cut_at_close plan progress =
    unwrap_or (least_among (limit_of plan progress) (told_endings progress (suc plan.plugins))) 0

-- why the chain was cut there
abbrev pub cause_at_close : CorePlan → StagesProgress → Cause
cause_at_close plan progress =
    cause_among (cut_at_close plan progress) (limit_of plan progress) (told_endings progress (suc plan.plugins))

-- the result of a run whose stages have all ended
abbrev pub closed_of : CorePlan → StagesProgress → Closed
closed_of plan progress = record { cut = cut_at_close plan progress; cause = cause_at_close plan progress }
