-- What a run read of its source. This project's own rule.
use Rattle.std.specs.Prelude.{◌≡◌, ◌⊎◌, ◌≤◌, ℕ, List, [], length, IfSome}
use Rattle.ts_outside.specs.Source.{SourceView, unread, read_failed}
use Rattle.chain_model.specs.declared.input_end.InputEnd.TheVariants.{ReadFault}
use Rattle.chain_model.specs.declared.cause.Cause.{Cause}
use Rattle.chain_model.specs.declared.cause.Cause.TheVariants.{Input}
use Rattle.chain_model.specs.InputRead.{MayRead, list_at_fault, IsInSyncSoFar}
use Rattle.chain_model.specs.Stuffed.{Stuffing}

-- after a failed read the cut is where the list up to the fault ends
pub record CutsAtFault (stuffing : Stuffing) (old new : SourceView) (read : List ℕ) (cut : ℕ) : Type 0 where
  pub failed : read_failed old ≡ unread read new
  pub in_sync : IsInSyncSoFar read
  pub cut_is : cut ≡ length (list_at_fault stuffing read).cells

-- what a run read of its source
pub record ReadsSource (stuffing : Stuffing) (buffer : ℕ) (old new : SourceView) (cut : ℕ) (cause : Cause) : Type 0 where
  pub read : List ℕ
  -- these bytes were read of it, and at most one call failed, the last one
  pub source : (old ≡ unread read new) ⊎ (read_failed old ≡ unread read new)
  pub within : MayRead buffer cut (length read)
  -- the whole packets among them give all cells before the cut, or nothing is left of the source, where that is known
  pub reach : IfSome new.left (λ left. left ≡ []) ⊎ (cut ≤ length (list_at_fault stuffing read).cells)
  pub at_fault : cause ≡ Input ReadFault → CutsAtFault stuffing old new read cut
