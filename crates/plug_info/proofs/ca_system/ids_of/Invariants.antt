use Rattle.std.proofs.Common.{◌≡◌, [], drop}
use Rattle.std.specs.Prelude.{fold}
use Rattle.plug_info.specs.CaSystems.{with_id}
use Rattle.plug_info.proofs.ca_system.ids_of.Given as goal

-- the systems that are left make of the ids so far the same as all make of none
abbrev pub invariant-loop-system : goal.invariant-loop-system
invariant-loop-system l =
    fold (λ ids system. with_id ids system.id) l.ids.items (drop l.system-index l.systems) ≡ fold (λ ids system. with_id ids system.id) [] l.systems
