use Rattle.std.proofs.Common.{inl, inr}
use Rattle.ts_outside.specs.Preallocated.{preallocated_desk}
use Rattle.tsp_top.proofs.PreallocatedLemmas.{preallocated-fails_not, preallocated-tells, preallocated-tells_tables}
use Rattle.tsp_top.proofs.preallocated.preallocated_call.Goals as goal

pub returns : goal.returns
returns c = λ plan tables is are.
    elim (c.headline.ensures.told _ plan tables c.args.desk.now.files (preallocated_desk c.args.desk.now) (preallocated_desk c.serial_call.new.desk) c.serial_call.result
    is (preallocated-tells plan.input c.args.desk.now) (preallocated-tells_tables plan.plugins c.args.desk.now) are c.serial_call.ensures (preallocated-fails_not c.args.desk.now c.serial_call.new.desk)) [
      | inl wants ↦ inl wants
      | inr pure ↦ inr pure.answered
    ]
