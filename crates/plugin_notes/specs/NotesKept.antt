-- Notes that are kept from the greatest mark on, and counted below it. This project's own rule.
use Rattle.std.specs.Prelude.{◌≡◌, ◌<◌, ◌≤◌, ◌+◌, ◌^◌, ℕ, List, [], ◌∷◌, ◌++◌, length, take, drop, nat_lt, true}
use Rattle.std.specs.List.{All, list_all}
use Rattle.ts_packet.specs.declared.cell.Cell.{Cell}
use Rattle.ts_packet.specs.declared.numbers.TheConstants.{PID_COUNT}
use Rattle.plugin_notes.specs.Notes.{notes_after}

-- the notes on the cells before a position
abbrev pub notes_below : {N : Type 0} → (List Cell → List ℕ → List N) → ℕ → List Cell → List N
notes_below note mark history = notes_after note [] (take mark history)

-- the kept notes are those on the cells from the mark on
pub record KeepsNotes {N : Type 0} (note : List Cell → List ℕ → List N) (notes : List N) (history : List Cell) (mark : ℕ) : Type 0 where
  pub kept : notes ≡ notes_after note (take mark history) (drop mark history)
  pub marked : mark ≤ length history

-- the first note, if there is one, is not below the position
abbrev pub StartsFrom : {N : Type 0} → (N → ℕ) → ℕ → List N → Type 0
StartsFrom at mark [] = Unit {0}
StartsFrom at mark (note ∷ notes) = mark ≤ at note

-- the notes below a position were removed from the front
pub record TakesBelow {N : Type 0} (at : N → ℕ) (mark : ℕ) (old new : List N) : Type 0 where
  pub taken : List N
  pub split : old ≡ taken ++ new
  pub below : list_all (λ note. nat_lt (at note) mark) taken ≡ true
  pub left : StartsFrom at mark new

-- and they were counted: if sums were those of some notes, they are now those of these notes followed by the removed
-- ones
pub record Folds {N S : Type 0} (at : N → ℕ) (Counted : S → List N → Type 0) (mark : ℕ) (old new : List N)
    (sums sums_new : S) : Type 0 where
  pub takes : TakesBelow at mark old new
  pub counted : (before : List N) → Counted sums before → Counted sums_new (before ++ takes.taken)

-- the notes can be counted after those counted before: all are on PIDs, and the sums stay in range
pub record CanFold {N S : Type 0} (pid : N → ℕ) (Counted : S → List N → Type 0) (notes : List N) (sums : S) : Type 0 where
  pub before : List N
  pub counted : Counted sums before
  pub few : length before + length notes < 2 ^ 63
  pub on_pids : All (λ note. pid note < PID_COUNT) notes
