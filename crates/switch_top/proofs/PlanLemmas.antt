-- From words to a plan.
use Rattle.std.proofs.Common.{◌≡◌, ℕ, List, Some, subst}
use Rattle.std.specs.Prelude.{unwrap_or}
use Rattle.ts_outside.specs.Desk.{DeskView}
use Rattle.switch_args.specs.SwitchWords.{Given, read_of}
use Rattle.switch_args.specs.Readings.{output_of}
use Rattle.switch_top.specs.declared.plan.SwitchPlan.{SwitchPlan}
use Rattle.switch_top.specs.declared.status.SwitchStatus.{SwitchStatus}
use Rattle.switch_top.specs.PlayNames.{rows_of}
use Rattle.switch_top.specs.SwitchEnds.{SwitchesPlan, output_name}
use Rattle.switch_top.specs.SwitchPlans.{IsPlanOf, plays_of}
use Rattle.switch_top.specs.SwitchCall.{CallsSwitch, at_plan}

pub planned : (words : List (List ℕ)) (given : Given) (plan : SwitchPlan) (old new : DeskView) (answer : SwitchStatus)
    → read_of words ≡ Some given → IsPlanOf given plan
    → SwitchesPlan plan.resync plan.buffer (rows_of plan.cycle plan.inputs.items) (output_name (output_of plan.output)) old new answer → CallsSwitch words old new answer
planned words given plan old new answer read is switches =
    at_plan given read plan.buffer is.buffer
    (subst (λ o. SwitchesPlan given.resync plan.buffer (plays_of given) (output_name o) old new answer) is.output
    (subst (λ l. SwitchesPlan given.resync plan.buffer (rows_of (unwrap_or given.cycle 1) l) (output_name (output_of plan.output)) old new answer) is.inputs
    (subst (λ n. SwitchesPlan given.resync plan.buffer (rows_of n plan.inputs.items) (output_name (output_of plan.output)) old new answer) is.cycle
    (subst (λ b. SwitchesPlan b plan.buffer (rows_of plan.cycle plan.inputs.items) (output_name (output_of plan.output)) old new answer) is.resync switches))))
