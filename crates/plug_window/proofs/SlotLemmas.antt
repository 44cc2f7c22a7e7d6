-- Lemmas on the cells that a plugin has processed, after a step after which the list goes on.
use Rattle.std.proofs.Common.{◌≡◌, ℕ, ◌+◌, ◌≤◌, List, [], ◌∷◌, ◌++◌, length, refl, ap, ◌∙◌, arith, length-append}
use Rattle.std.proofs.lemmas.Grind.{flat_map-append}
use Rattle.ts_packet.specs.declared.cell.Cell.{Cell}
use Rattle.ts_packet.specs.Cells.{Live, Dropped}
use Rattle.plugin_trait.specs.declared.outcome.Outcome.{Outcome}
use Rattle.plugin_trait.specs.Steps.{met_after}
use Rattle.ts_packet.specs.LiveRows.{labelled, row_in, live_rows}
use Rattle.plug_window.specs.Slots.{outcome_word}

goes_on-met : (left : Cell) (history : List Cell) (cell : Cell) → met_after (outcome_word left) history cell ≡ history ++ cell ∷ []
goes_on-met (Live packet labels) history cell = refl
goes_on-met Dropped history cell = refl

-- the step has processed its cell
pub met-always : (result : Outcome) (left : Cell) (history : List Cell) (cell : Cell) → result ≡ outcome_word left → met_after result history cell ≡ history ++ cell ∷ []
met-always result left history cell told = ap (λ (word : Outcome). met_after word history cell) told ∙ goes_on-met left history cell

-- a live cell adds one row
pub rows-more : (history : List Cell) (packet : List ℕ) (labels : ℕ) → live_rows (history ++ Live packet labels ∷ []) ≡ live_rows history ++ labelled packet labels ∷ []
rows-more history packet labels = flat_map-append row_in history (Live packet labels ∷ [])

pub marks-more : (history : List Cell) (cell : Cell) (mark : ℕ) → mark ≤ length history → mark ≤ length (history ++ cell ∷ [])
marks-more history cell mark le = let h : length (history ++ cell ∷ []) ≡ length history + 1 = length-append history (cell ∷ []) in omega arith
