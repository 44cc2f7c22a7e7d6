use Rattle.std.proofs.Common.{◌≡◌, drop}
use Rattle.monitor_services.specs.Components.{may_pause}
use Rattle.monitor_services.proofs.component_pids.may_pause.Given as goal

-- it is said by those that are left
abbrev pub invariant-loop-descriptor : goal.invariant-loop-descriptor
invariant-loop-descriptor l = may_pause (drop l.descriptor-index l.descriptors) ≡ may_pause l.descriptors
