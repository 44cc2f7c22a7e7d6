use Rattle.std.proofs.Common.{◌≡◌, ◌++◌, [], drop}
use Rattle.plug_inject.specs.Schedule.{turns_from}
use Rattle.plug_inject.proofs.schedule.first_turns.Given as goal

-- the turns that are made, and those of the groups that are left
abbrev pub invariant-loop-group : goal.invariant-loop-group
invariant-loop-group l =
    l.turns.items ++ turns_from l.group-index (drop l.group-index l.groups) [] ≡ turns_from 0 l.groups []
