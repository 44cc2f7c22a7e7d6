-- How the lines of a chain are printed while it runs. This project's own rule.
use Rattle.std.specs.Prelude.{◌≡◌, ◌⊎◌, ℕ, Bool, true, false, List}
use Rattle.ts_outside.specs.Desk.{DeskView}
use Rattle.ts_outside.specs.Saying.{Says}
use Rattle.chain_rounds.specs.declared.told_line.ToldLine.{ToldLine}
use Rattle.chain_tells.specs.declared.printing.Printing.{Printing}

-- one more text is printed: all of it, or a first part where a report fails; nothing is printed after that, nor once there was no
-- memory for a text
abbrev pub PrintsOn : Bool → Bool → Bool → Bool → DeskView → DeskView → List ℕ → Type 0
PrintsOn true failed wants fails old new text = (wants ≡ true) × (fails ≡ failed) × (new ≡ old)
PrintsOn false true wants fails old new text = (wants ≡ false) × (fails ≡ true) × (new ≡ old)
PrintsOn false false wants fails old new text =
    ((wants ≡ true) × (fails ≡ false) × (new ≡ old))
    ⊎ ((wants ≡ false) × Says old new text fails)

-- the same of lines, which have this text
abbrev pub PrintsLines : {D : Type 0} → (D → DeskView) → (List ToldLine → List ℕ) → Printing × D → Printing × D → List ToldLine → Type 0
PrintsLines seen text old new lines =
    PrintsOn old.0.wants old.0.failed new.0.wants new.0.failed (seen old.1) (seen new.1) (text lines)
