use Rattle.std.proofs.Common.{◌≡◌, ◌++◌, drop}
use Rattle.plug_psi.specs.ServicePids.{ca_pids}
use Rattle.plug_psi.proofs.pids_of_pmt.add_ca_pids.Given as goal

-- the PIDs so far and those of the descriptors that are left
abbrev pub invariant-loop-descriptor : goal.invariant-loop-descriptor
invariant-loop-descriptor l =
    l.pids.items ++ ca_pids (drop l.descriptor-index l.descriptors) ≡ l.initial.pids.items ++ ca_pids l.descriptors
