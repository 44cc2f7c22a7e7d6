-- How the rounds of a chain are printed while it runs. This project's own rule.
use Rattle.std.specs.Prelude.{◌≡◌, ◌⊎◌, ℕ, Bool, true, false, List}
use Rattle.ts_outside.specs.Desk.{DeskView}
use Rattle.ts_outside.specs.Saying.{Says}
use Rattle.chain_tells.specs.Rounds.{Round}
use Rattle.chain_tells.specs.declared.printing.Printing.{Printing}

-- a text that is one of these is printed: all of it, or a first part where a report fails; nothing is printed after that, nor once
-- there was no memory for a text
abbrev pub PrintsOne : Bool → Bool → Bool → Bool → DeskView → DeskView → (List ℕ → Type 0) → Type 0
PrintsOne true failed wants fails old new IsText = (wants ≡ true) × (fails ≡ failed) × (new ≡ old)
PrintsOne false true wants fails old new IsText = (wants ≡ false) × (fails ≡ true) × (new ≡ old)
PrintsOne false false wants fails old new IsText =
    ((wants ≡ true) × (fails ≡ false) × (new ≡ old))
    ⊎ ((wants ≡ false) × ((text : List ℕ) × IsText text × Says old new text fails))

-- the same of a round: `writes` says which text it has, and what becomes of the writer
abbrev pub PrintsRound : {S T D : Type 0} → (D → DeskView) → (T → T → Round S → List ℕ → Type 0)
    → T × Printing × D → T × Printing × D → Round S → Type 0
PrintsRound seen writes old new round =
    PrintsOne old.1.wants old.1.failed new.1.wants new.1.failed (seen old.2) (seen new.2) (writes old.0 new.0 round)
