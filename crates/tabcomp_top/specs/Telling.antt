-- The desk after a line was reported. This project's own rule.
use Rattle.std.specs.Prelude.{◌≡◌, ◌⊎◌, ℕ, ◌<◌, List, length, take}
use Rattle.ts_outside.specs.Desk.{DeskView, reports, report_failed}

-- all of the text was reported, or a report failed after a first part of it
abbrev pub Tells : DeskView → DeskView → List ℕ → Type 0
Tells old new text =
    (new ≡ reports old text)
    ⊎ ((n : ℕ) × (n < length text) × (new ≡ report_failed (reports old (take n text))))
