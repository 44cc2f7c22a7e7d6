use Rattle.std.proofs.Common.{◌≡◌, ◌==◌, drop}
use Rattle.std.specs.List.{list_any}
use Rattle.plug_info.proofs.ca_system.has_id.Given as goal

-- the result follows from the remaining ones
abbrev pub invariant-loop-held : goal.invariant-loop-held
invariant-loop-held l = list_any (λ held. held == l.id) (drop l.held-index l.ids) ≡ list_any (λ held. held == l.id) l.ids
