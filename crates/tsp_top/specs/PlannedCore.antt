-- The numbers of a chain's core that a plan asks for. This project's own rule.
use Rattle.std.specs.Prelude.{◌≡◌, length}
use Rattle.chain_args.specs.declared.plan_type.Plan.{Plan}
use Rattle.chain_core.specs.declared.core_plan.CorePlan.{CorePlan}
use Rattle.chain_core.specs.CoreNumbers as core
use Rattle.chain_core.specs.Stages.{stages_of}
use Rattle.tsp_top.specs.PlannedChain.{users_of}
use Rattle.tsp_top.specs.Sizes.{default_buffer, default_batch, IsSize, lesser_batch}

-- the numbers of a chain's core are the plan's
pub record IsPlannedCore (plan : Plan) (numbers : CorePlan) : Type 0 where
  pub valid : core.IsValidPlan numbers
  pub plugins : numbers.plugins ≡ length plan.plugins
  pub buffer : IsSize plan.general.buffer_packets default_buffer numbers.buffer
  pub most : IsSize (lesser_batch plan.general.max_input_packets plan.general.max_flushed_packets)
      default_batch numbers.most
  pub users : stages_of numbers.users ≡ users_of plan
