-- The services in force at each position that may be the cut. This project's own rule.
use Rattle.std.specs.Prelude.{◌≡◌, ℕ, ◌<◌, ◌≤◌, List, [], ◌∷◌, length, take, nat_lt, if◌then◌else◌}
use Rattle.std.specs.List.{All}
use Rattle.ts_packet.specs.declared.cell.Cell.{Cell}
use Rattle.ts_packet.specs.Cells.{live_packets}
use Rattle.plug_analyze.specs.AnalyzeRule.{services_in_force}
use Rattle.plug_analyze.specs.declared.change.Change.{Change}
use Rattle.plug_analyze.specs.declared.service_count.ServiceCount.{ServiceCount}

-- the services in force after so many cells of a history
abbrev pub services_at : ℕ → List Cell → List ServiceCount
services_at k history = services_in_force (live_packets (take k history))

-- the services of the last change below a position, else those before all changes
abbrev pub services_below : ℕ → List ServiceCount → List Change → List ServiceCount
services_below k services [] = services
services_below k services (change ∷ changes) =
    if nat_lt change.at k then services_below k change.services.items changes else services

-- the changes without those below a position
abbrev pub changes_from : ℕ → List Change → List Change
changes_from k [] = []
changes_from k (change ∷ changes) = if nat_lt change.at k then changes_from k changes else change ∷ changes

-- the position of a change
abbrev pub place_of_change : Change → ℕ
place_of_change change = change.at

-- the services are those in force at the mark, and the changes have those at each position from it on
pub record KeepsServices (services : List ServiceCount) (changes : List Change) (history : List Cell) (mark : ℕ) : Type 0 where
  pub marked : mark ≤ length history
  pub now : services ≡ services_at mark history
  pub early : All (λ change. change.at < length history) changes
  pub each : (k : ℕ) → mark ≤ k → k ≤ length history → services_below k services changes ≡ services_at k history

-- the changes below a position were removed from the front
pub record DropsChanges (mark : ℕ) (services services_new : List ServiceCount) (changes changes_new : List Change) : Type 0 where
  pub services_are : services_new ≡ services_below mark services changes
  pub changes_are : changes_new ≡ changes_from mark changes
