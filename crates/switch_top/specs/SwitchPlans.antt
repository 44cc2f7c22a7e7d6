-- The plan of settings. This project's own rule.
use Rattle.std.specs.Prelude.{◌≡◌, ◌≤◌, ℕ, List, Option, None, Some, unwrap_or}
use Rattle.switch_args.specs.SwitchWords.{Given}
use Rattle.switch_args.specs.Readings.{output_of}
use Rattle.switch_top.specs.declared.plan.SwitchPlan.{SwitchPlan}
use Rattle.switch_top.specs.PlayNames.{PlayName, rows_of}

-- the packets of a ring: those that the words give, else the program's own choice, at most 89,240
abbrev pub IsBuffer : Option ℕ → ℕ → Type 0
IsBuffer (Some given) size = size ≡ given
IsBuffer None size = (1 ≤ size) × (size ≤ 89240)

-- the plays of settings: the whole row of inputs so often, and once where the words do not say it
abbrev pub plays_of : Given → List PlayName
plays_of given = rows_of (unwrap_or given.cycle 1) given.inputs

-- the plan is that of settings
pub record IsPlanOf (given : Given) (plan : SwitchPlan) : Type 0 where
  pub cycle : plan.cycle ≡ unwrap_or given.cycle 1
  pub buffer : IsBuffer given.buffer plan.buffer
  pub resync : plan.resync ≡ given.resync
  pub inputs : plan.inputs.items ≡ given.inputs
  pub output : output_of plan.output ≡ given.output
