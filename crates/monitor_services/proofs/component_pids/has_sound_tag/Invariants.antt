use Rattle.std.proofs.Common.{◌≡◌, drop}
use Rattle.monitor_services.specs.Components.{has_sound_tag}
use Rattle.monitor_services.proofs.component_pids.has_sound_tag.Given as goal

-- it is said by those that are left
abbrev pub invariant-loop-descriptor : goal.invariant-loop-descriptor
invariant-loop-descriptor l = has_sound_tag (drop l.descriptor-index l.descriptors) ≡ has_sound_tag l.descriptors
