-- What was reported at a desk. This project's own rule.
use Rattle.std.specs.Prelude.{◌≡◌, ◌⊎◌, ℕ, ◌<◌, List, length, take, Bool, true, false}
use Rattle.ts_outside.specs.Count.{HasCause}
use Rattle.ts_outside.specs.Told.{grown}
use Rattle.ts_outside.specs.Desk.{DeskView, reports, report_failed}

-- all of the text was reported, or a report failed after a first part of it
abbrev pub Says : DeskView → DeskView → List ℕ → Bool → Type 0
Says old new text false = new ≡ reports old text
Says old new text true = (n : ℕ) × (n < length text) × (new ≡ report_failed (reports old (take n text)))

-- a text was reported: whole, or a first part of it where a report failed
abbrev pub ReportsText : DeskView → DeskView → List ℕ → Type 0
ReportsText old new text =
    ((new.reported ≡ grown old.reported text) × (new.report_faults ≡ old.report_faults))
    ⊎ ((n : ℕ) × (n < length text) × (new.reported ≡ grown old.reported (take n text))
    × HasCause old.report_faults new.report_faults)

-- nothing was reported, and no report failed
abbrev pub ReportsNothing : DeskView → DeskView → Type 0
ReportsNothing old new = (new.reported ≡ old.reported) × (new.report_faults ≡ old.report_faults)
