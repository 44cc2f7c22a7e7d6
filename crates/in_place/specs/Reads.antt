-- What a read in place moves. This project's own rule.
use Rattle.std.specs.Prelude.{◌≡◌, ℕ, List, [], ◌++◌, length, Result, Ok, Err, IfSome}
use Rattle.ts_outside.specs.Source.{SourceView, unread, read_failed}
use Rattle.ts_outside.specs.declared.faults.Failed.{Failed}

-- these bytes were read
pub record Moves (old new : SourceView) (bytes : List ℕ) (count : ℕ) : Type 0 where
  pub length_is : length bytes ≡ count
  pub source : old ≡ unread bytes new
  pub at_end : count ≡ 0 → IfSome old.left (λ left. left ≡ [])

-- the bytes in hand with those that were read are the packets' bytes with those that are then in hand
pub record ReadsOn (old new : SourceView) (before packets after : List ℕ) (count : ℕ) : Type 0 where
  pub bytes : List ℕ
  pub moves : Moves old new bytes count
  pub all : before ++ bytes ≡ packets ++ after

abbrev pub ReadsInto : SourceView → SourceView → List ℕ → List ℕ → List ℕ → Result ℕ Failed → Type 0
ReadsInto old new before packets after (Ok count) = ReadsOn old new before packets after count
ReadsInto old new before packets after (Err fault) = (new ≡ read_failed old) × (packets ≡ []) × (after ≡ before)
