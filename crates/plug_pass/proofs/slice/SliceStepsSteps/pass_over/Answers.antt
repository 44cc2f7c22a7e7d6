use Rattle.std.proofs.Common.{[], ◌∷◌, arith, length-append}
use Rattle.ts_packet.specs.Cells.{Dropped}
use Rattle.plug_pass.proofs.Slicing.{sliced_dropped}
use Rattle.plug_pass.proofs.slice.SliceStepsSteps.pass_over.Goals as goal

pub returns-clause-meets : goal.returns-clause-meets
returns-clause-meets c = λ history mark w count.
    (sliced_dropped c.args.self.now history w.0, omega (arith, w.1, length-append history (Dropped ∷ [])))
