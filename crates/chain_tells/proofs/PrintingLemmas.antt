-- One text that is printed, or not.
use Rattle.std.proofs.Common.{◌≡◌, inl, inr, ℕ, Bool, true, false, ◌||◌, List, refl}
use Rattle.ts_outside.specs.Desk.{DeskView}
use Rattle.ts_outside.specs.Saying.{Says}
use Rattle.chain_tells.specs.Printing.{PrintsOn}

-- printing was over
pub prints-over : (wants failed : Bool) (desk : DeskView) (text : List ℕ) → (wants || failed) ≡ true → PrintsOn wants failed wants failed desk desk text
prints-over true failed desk text over = (refl, refl, refl)
prints-over false true desk text over = (refl, refl, refl)
prints-over false false desk text over = absurd cc

-- the text was said
pub prints-said : (wants failed fails : Bool) (old new : DeskView) (text : List ℕ) → (wants || failed) ≡ false → Says old new text fails → PrintsOn wants failed wants fails old new text
prints-said true failed fails old new text on said = absurd cc
prints-said false true fails old new text on said = absurd cc
prints-said false false fails old new text on said = inr (refl, said)

-- there was no memory for it
pub prints-wanting : (wants failed : Bool) (desk : DeskView) (text : List ℕ) → (wants || failed) ≡ false → PrintsOn wants failed true failed desk desk text
prints-wanting true failed desk text on = absurd cc
prints-wanting false true desk text on = absurd cc
prints-wanting false false desk text on = inl (refl, refl, refl)
