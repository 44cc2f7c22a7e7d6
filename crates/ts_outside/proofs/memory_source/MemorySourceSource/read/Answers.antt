use Rattle.std.proofs.Common.{◌≡◌, ◌≤◌, length, List, ℕ, Some, ap, arith}
use Rattle.std.proofs.lemmas.Grind.{common_steps}
use Rattle.ts_outside.proofs.Moves.{moved-is}
use Rattle.ts_outside.specs.Source.{SourceView, own_bytes}
use Rattle.ts_outside.proofs.memory_source.MemorySourceSource.read.Goals as goal

pub returns-clause-moved : goal.returns-clause-moved
returns-clause-moved c =
    let few : c.min-count.result ≤ length c.args.into.now = grind (arith, common_steps) in
    let long : length c.copy_from_slice.new.self ≡ c.min-count.result = grind (arith, common_steps) in
    rw (← c.self.view_is)
    (ap (λ (l : List ℕ). let s : SourceView = record { left = Some l; faults = c.self.inside.faults; origin = own_bytes } in s)
    (moved-is _ _ _ _ _ _ c.deref.ensures.value c.copy_from_slice.ensures.after long))

pub slice_bounds-rest-count : goal.slice_bounds-rest-count
slice_bounds-rest-count c = grind (arith, common_steps)

pub slice_bounds-rest-start : goal.slice_bounds-rest-start
slice_bounds-rest-start c = grind (arith, common_steps)

pub slice_bounds-rest-end : goal.slice_bounds-rest-end
slice_bounds-rest-end c = grind (arith, common_steps)

pub slice_bounds-copy_from_slice-end : goal.slice_bounds-copy_from_slice-end
slice_bounds-copy_from_slice-end c = grind (arith, common_steps)

pub slice_bounds-copy_from_slice-end-2 : goal.slice_bounds-copy_from_slice-end-2
slice_bounds-copy_from_slice-end-2 c = grind (arith, common_steps)

pub slice_bounds-copy_from_slice-end-3 : goal.slice_bounds-copy_from_slice-end-3
slice_bounds-copy_from_slice-end-3 c = grind (arith, common_steps)

pub copy_from_slice-requires : goal.copy_from_slice-requires
copy_from_slice-requires c = grind (arith, common_steps)

pub overflow_add-self : goal.overflow_add-self
overflow_add-self c = grind (arith, common_steps)

pub invariant_of-self-2 : goal.invariant_of-self-2
invariant_of-self-2 c = grind (arith, common_steps)

pub returns-clause-within : goal.returns-clause-within
returns-clause-within c = grind (arith, common_steps)

pub returns-clause-count : goal.returns-clause-count
returns-clause-count c = grind (arith, common_steps)

pub returns-clause-end : goal.returns-clause-end
returns-clause-end c = grind (arith, common_steps)

pub returns-clause-read : goal.returns-clause-read
returns-clause-read c = grind (arith, common_steps)
