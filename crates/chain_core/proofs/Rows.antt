-- Worked rows of the machine, computed on the definitions: two plugins between the input and the output.
use Rattle.std.proofs.Common.{◌≡◌, ℕ, List, [], ◌∷◌, ◌++◌, false, Some, None, replicate, refl}
use Rattle.std.specs.Prelude.{reverse}
use Rattle.ts_packet.specs.Cells.{Dropped}
use Rattle.chain_model.specs.declared.cause.Cause.TheVariants as cause
use Rattle.chain_core.specs.declared.core_plan.CorePlan.{CorePlan}
use Rattle.chain_core.specs.declared.stage_end.StageEnd.{StageEnd}
use Rattle.chain_core.specs.declared.stage_end.StageEnd.TheVariants.{Stop, WriteFault, NoMemory, Followed}
use Rattle.chain_core.specs.Stages.{has_stage, stages_below, stages_of}
use Rattle.chain_core.specs.Numbers.{limit_of, news_of}
use Rattle.chain_core.specs.Machine.{Visit, progress_of_stages, with_stage, noted, served, visited}
use Rattle.chain_core.specs.ChainRun.{state_after}
use Rattle.chain_core.specs.Close.{closed_of}

-- plugins 1 and 2 use joint termination where `bits` is 6, and none where it is 0
abbrev plan_with : ℕ → CorePlan
plan_with bits = record { plugins = 2; buffer = 8; most = 8; users = record { bits = bits } }

abbrev gives : ℕ → ℕ → Visit
gives k n = record { stage = k; cells = replicate n Dropped; word = record { agreed = None; ended = None } }

abbrev agrees : ℕ → ℕ → ℕ → Visit
agrees k n at = record { stage = k; cells = replicate n Dropped; word = record { agreed = Some at; ended = None } }

abbrev ends : ℕ → ℕ → StageEnd → Visit
ends k n end = record { stage = k; cells = replicate n Dropped; word = record { agreed = None; ended = Some end } }

-- eight cells are on their way; the plugins agree at 5 and at 3
abbrev agreeing : List Visit
agreeing = gives 0 0 ∷ gives 0 8 ∷ gives 1 0 ∷ agrees 1 6 5 ∷ gives 2 0 ∷ agrees 2 6 3 ∷ gives 3 0 ∷ []

abbrev followed : List Visit
followed = ends 3 5 Followed ∷ ends 2 0 Followed ∷ ends 1 0 Followed ∷ ends 0 0 Followed ∷ []

users-are : stages_of (record { bits = 6 }) ≡ 1 ∷ 2 ∷ []
unfolding stages_of stages_below has_stage
users-are = refl

-- the limit is known once both have reported, and the output receives it
joint-news : news_of (plan_with 6) (progress_of_stages (state_after (plan_with 6) (reverse agreeing))) 3 ≡ record { taken = 6; limit = Some 5; written = 0; before_over = false; after_over = false }
unfolding state_after visited served noted with_stage stages_of stages_below has_stage
joint-news = refl

joint-close : closed_of (plan_with 6) (progress_of_stages (state_after (plan_with 6) (reverse (agreeing ++ followed)))) ≡ record { cut = 5; cause = cause.Joint }
unfolding state_after visited served noted with_stage stages_of stages_below has_stage
joint-close = refl

-- ignored: there is no limit
ignored-limit : limit_of (plan_with 0) (progress_of_stages (state_after (plan_with 0) (reverse agreeing))) ≡ None
unfolding state_after visited served noted with_stage stages_of stages_below has_stage
ignored-limit = refl

-- a fault of the output before the limit, then the greatest of two stages that ended at one place
fault-close : closed_of (plan_with 6) (progress_of_stages (state_after (plan_with 6) (reverse (agreeing ++ ends 3 4 WriteFault ∷ ends 2 0 Followed ∷ ends 1 0 Followed ∷ ends 0 0 Followed ∷ [])))) ≡ record { cut = 4; cause = cause.WriteFault }
unfolding state_after visited served noted with_stage stages_of stages_below has_stage
fault-close = refl

tie-close : closed_of (plan_with 0) (progress_of_stages (state_after (plan_with 0) (reverse (agreeing ++ ends 1 0 Stop ∷ ends 2 0 NoMemory ∷ ends 3 6 Followed ∷ ends 0 0 Followed ∷ [])))) ≡ record { cut = 6; cause = cause.NoMemory 2 }
unfolding state_after visited served noted with_stage stages_of stages_below has_stage
tie-close = refl
