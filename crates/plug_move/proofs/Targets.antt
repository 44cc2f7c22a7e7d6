-- Where pairs of PIDs lead.
use Rattle.std.proofs.Common.{ℕ, List, [], ◌∷◌, Bool, true, false, ◌==◌, if◌then◌else◌, Some}
use Rattle.std.specs.List.{All}
use Rattle.std.proofs.lemmas.List.Elements.{All-head, All-tail}
use Rattle.plug_move.specs.RemapSettings.{IsPidPair}
use Rattle.plug_move.specs.Targets.{target_of}
use Rattle.plug_move.specs.MoveTables.{move_by, LeadsToPid}

-- pairs of PIDs lead to PIDs
pub leads_to_pid : (pairs : List (ℕ × ℕ)) (refused : Bool) (pid : ℕ) → All IsPidPair pairs → LeadsToPid (move_by (target_of pairs pid) refused)
leads_to_pid [] true pid all = tt
leads_to_pid [] false pid all = tt
leads_to_pid (pair ∷ pairs) refused pid all =
    elim (pair.0 == pid) as (λ b. LeadsToPid (move_by (if b then Some pair.1 else target_of pairs pid) refused)) [
      | true ↦ (All-head IsPidPair pair pairs all).1
      | false ↦ leads_to_pid pairs refused pid (All-tail IsPidPair pair pairs all)
    ]
