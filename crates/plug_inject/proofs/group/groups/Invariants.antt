use Rattle.std.proofs.Common.{◌≡◌, ◌++◌, drop}
use Rattle.plug_inject.specs.Contents.{groups_of_pairs}
use Rattle.plug_inject.proofs.group.groups.Given as goal

-- the groups that are made, and those of the pairs that are left
abbrev pub invariant-loop-pair : goal.invariant-loop-pair
invariant-loop-pair l =
    l.list.items ++ groups_of_pairs l.pid l.sections (drop l.pair-index l.pairs) ≡ groups_of_pairs l.pid l.sections l.pairs
