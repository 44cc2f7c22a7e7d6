use Rattle.std.proofs.Common.{◌≡◌, ◌++◌, drop}
use Rattle.monitor_services.specs.GapErrors.{gap_errors}
use Rattle.monitor_services.proofs.row_kind.add_gaps.Given as goal

-- the errors so far and those of the gaps that are left
abbrev pub invariant-loop-gap : goal.invariant-loop-gap
invariant-loop-gap l =
    l.errors.items ++ gap_errors l.kind l.known (drop l.gap-index l.gaps) ≡ l.initial.errors.items ++ gap_errors l.kind l.known l.gaps
