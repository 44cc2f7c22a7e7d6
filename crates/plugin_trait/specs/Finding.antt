-- Where a plugin found something to do. This project's own rule.
use Rattle.std.specs.Prelude.{◌≡◌, ◌≤◌, ◌<◌, ℕ, List, [], ◌∷◌, ◌++◌, length, take, Bool, true, false, not, ◌||◌, Option, None, Some, IfSome, nat_le, if◌then◌else◌}
use Rattle.ts_packet.specs.declared.cell.Cell.{Cell}
use Rattle.ts_packet.specs.Cells.{Live, Dropped}
use Rattle.plugin_trait.specs.declared.first_find.FirstFind.{FirstFind}

-- whether the test holds at one of the live cells after a history, given what was met before it, its packet and labels
unfoldable pub finds_after : (List Cell → List ℕ → ℕ → Bool) → List Cell → List Cell → Bool
finds_after test history [] = false
finds_after test history (Live packet labels ∷ cells) =
    test history packet labels || finds_after test (history ++ Live packet labels ∷ []) cells
finds_after test history (Dropped ∷ cells) = finds_after test (history ++ Dropped ∷ []) cells

-- it holds at none of these cells
abbrev pub finds_none : (List Cell → List ℕ → ℕ → Bool) → List Cell → Bool
finds_none test cells = not (finds_after test [] cells)

-- the first position, where something was found before, or is found at this one
abbrev pub first_of : Option ℕ → ℕ → Bool → Option ℕ
first_of None at finds = if finds then Some at else None
first_of (Some first) at finds = Some first

-- nothing was found at the positions below the cut
abbrev pub none_below : Option ℕ → ℕ → Bool
none_below None cut = true
none_below (Some first) cut = nat_le cut first

-- it is the first of the positions that were met at which the test holds, so it tells of each cut whether there is none
-- before it
pub record IsFirstFind (test : List Cell → List ℕ → ℕ → Bool) (history : List Cell) (found : FirstFind) : Type 0 where
  pub met : IfSome found.at (λ first. first < length history)
  pub tells : (cut : ℕ) → cut ≤ length history → finds_none test (take cut history) ≡ none_below found.at cut
