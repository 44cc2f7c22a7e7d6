use Rattle.std.proofs.Common.{subst, sym}
use Rattle.plug_times.specs.ClockSteps.{HasStepRoom, no_steps}
use Rattle.plug_times.proofs.Rowing.{has_room}
use Rattle.plug_times.proofs.step_row.StepRow.add.Goals as goal

pub with-steps-requires : goal.with-steps-requires
with-steps-requires c =
    subst HasStepRoom (sym (c.get.ensures no_steps)) (has_room c.args.self.now c.args.stamp.now.pid c.requires.room c.requires.on_pid)
