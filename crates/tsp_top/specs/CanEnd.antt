-- The ends that a plan can have: none of a stage or a stream that it does not have. This project's own rule.
use Rattle.std.specs.Prelude.{zero, suc, IsSome}
use Rattle.chain_model.specs.declared.input_end.InputEnd.TheVariants.{ReadFault}
use Rattle.chain_model.specs.declared.cause.Cause.{Cause}
use Rattle.chain_model.specs.declared.cause.Cause.TheVariants.{Input, WriteFault, NoMemory}
use Rattle.chain_args.specs.declared.plan_type.Plan.{Plan}
use Rattle.tsp_top.specs.CallOutcome.{CallOutcome, no_input, no_output, ran, unreported, out_of_memory}
use Rattle.tsp_top.specs.MemoryFirst.{TakesLater}
use Rattle.tsp_top.specs.PlannedChain.{input_name, output_name}

-- a read fails only of an input with a name, a write only of an output with one, and only a plugin that does not take its
-- room before the run runs out of memory in it: that of stage `k` comes after `k - 1` others
abbrev pub CanEndBy : Plan → Cause → Type 0
CanEndBy plan (Input ReadFault) = IsSome (input_name plan.input)
CanEndBy plan WriteFault = IsSome (output_name plan.output)
CanEndBy plan (NoMemory zero) = ⊥
CanEndBy plan (NoMemory (suc j)) = TakesLater plan.plugins j
CanEndBy plan _ = Unit {0}

-- what has no name is not opened, so that does not fail
abbrev pub CanEnd : Plan → CallOutcome → Type 0
CanEnd plan no_input = IsSome (input_name plan.input)
CanEnd plan no_output = IsSome (output_name plan.output)
CanEnd plan (ran cut why late) = CanEndBy plan why
CanEnd plan (unreported cut why) = CanEndBy plan why
CanEnd plan out_of_memory = Unit {0}
