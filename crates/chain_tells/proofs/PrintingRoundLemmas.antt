-- One round that is printed, or not.
use Rattle.std.proofs.Common.{◌≡◌, inl, inr, ℕ, Bool, true, false, ◌||◌, List, refl}
use Rattle.ts_outside.specs.Desk.{DeskView}
use Rattle.ts_outside.specs.Saying.{Says}
use Rattle.chain_tells.specs.PrintingRounds.{PrintsOne}

-- printing was over
pub one-over : (wants failed : Bool) (desk : DeskView) (IsText : List ℕ → Type 0) → (wants || failed) ≡ true → PrintsOne wants failed wants failed desk desk IsText
one-over true failed desk IsText over = (refl, refl, refl)
one-over false true desk IsText over = (refl, refl, refl)
one-over false false desk IsText over = absurd cc

-- the text was said
pub one-said : (wants failed fails : Bool) (old new : DeskView) (text : List ℕ) (IsText : List ℕ → Type 0) → (wants || failed) ≡ false → IsText text → Says old new text fails
    → PrintsOne wants failed wants fails old new IsText
one-said true failed fails old new text IsText on is said = absurd cc
one-said false true fails old new text IsText on is said = absurd cc
one-said false false fails old new text IsText on is said = inr (refl, (text, is, said))

-- there was no memory for it
pub one-wanting : (wants failed : Bool) (desk : DeskView) (IsText : List ℕ → Type 0) → (wants || failed) ≡ false → PrintsOne wants failed true failed desk desk IsText
one-wanting true failed desk IsText on = absurd cc
one-wanting false true desk IsText on = absurd cc
one-wanting false false desk IsText on = inl (refl, refl, refl)
