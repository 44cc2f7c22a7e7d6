use Rattle.std.proofs.Common.{◌≡◌, ◌++◌, drop, filter}
use Rattle.plug_inject.specs.Contents.{packed_each}
use Rattle.plug_inject.specs.GroupsMade.{named_or_not}
use Rattle.plug_inject.proofs.group.packed.Given as goal

-- what is packed, and what is to be made of the sections that are left
abbrev pub invariant-loop-section : goal.invariant-loop-section
invariant-loop-section l =
    l.list.items ++ packed_each l.pid (filter (named_or_not l.pairs l.named) (drop l.section-index l.sections))
    ≡ packed_each l.pid (filter (named_or_not l.pairs l.named) l.sections)
