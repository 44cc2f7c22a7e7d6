use Rattle.std.proofs.Common.{◌≡◌, ◌≤◌, length, ap, arith}
use Rattle.std.proofs.lemmas.Grind.{common_steps}
use Rattle.ts_outside.proofs.Moves.{moved-is}
use Rattle.ts_outside.specs.Preallocated.{preallocated_source}
use Rattle.ts_outside.proofs.preallocated_source.PreallocatedSourceSource.read.Goals as goal

pub returns-clause-moved : goal.returns-clause-moved
returns-clause-moved c =
    let few : c.min-count.result ≤ length c.args.into.now = grind (arith, common_steps) in
    let long : length c.copy_from_slice.new.self ≡ c.min-count.result = grind (arith, common_steps) in
    rw (← c.self.view_is)
    (ap preallocated_source (moved-is _ _ _ _ _ _ c.deref.ensures.value c.copy_from_slice.ensures.after long))
