use Rattle.std.proofs.Common.{◌≡◌, ◌++◌, drop}
use Rattle.plug_info.specs.CaSystems.{systems_of}
use Rattle.plug_info.proofs.ca_system.add_systems.Given as goal

-- the systems so far and those of the descriptors that are left
abbrev pub invariant-loop-descriptor : goal.invariant-loop-descriptor
invariant-loop-descriptor l =
    l.systems.items ++ systems_of (drop l.descriptor-index l.descriptors) ≡ l.initial.systems.items ++ systems_of l.descriptors
