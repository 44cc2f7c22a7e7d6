-- The packets that a plugin met: without their labels, with one cell more, and without their positions.
use Rattle.std.proofs.Common.{◌≡◌, ℕ, ◌+◌, List, [], ◌∷◌, ◌++◌, length, map, refl, ap, ◌∙◌, arith}
use Rattle.ts_packet.specs.declared.cell.Cell.{Cell}
use Rattle.ts_packet.specs.declared.labelled.Labelled.{Labelled}
use Rattle.ts_packet.specs.Cells.{Live, Dropped, live_packets}
use Rattle.ts_packet.specs.LiveRows.{labelled, live_rows, packets_in}
use Rattle.ts_packet.specs.MetRows.{Met, met_from, met_rows}

pub rows-packets : (cells : List Cell) → live_packets cells ≡ packets_in (live_rows cells)
rows-packets [] = refl
rows-packets (Live packet labels ∷ cells) = ap (λ (packets : List (List ℕ)). packet ∷ packets) (rows-packets cells)
rows-packets (Dropped ∷ cells) = rows-packets cells

met-behind : (start : ℕ) (cells more : List Cell) → met_from start (cells ++ more) ≡ met_from start cells ++ met_from (start + length cells) more
met-behind start [] more = ap (λ (k : ℕ). met_from k more) (omega arith)
met-behind start (Live packet labels ∷ cells) more =
    ap (λ (rows : List Met). let row : Met = record { at = start; packet = packet; labels = labels } in row ∷ rows)
    (met-behind (start + 1) cells more ∙ ap (λ (k : ℕ). met_from (start + 1) cells ++ met_from k more) (omega arith))
met-behind start (Dropped ∷ cells) more =
    met-behind (start + 1) cells more ∙ ap (λ (k : ℕ). met_from (start + 1) cells ++ met_from k more) (omega arith)

pub met-more : (cells : List Cell) (cell : Cell) → met_rows (cells ++ cell ∷ []) ≡ met_rows cells ++ met_from (length cells) (cell ∷ [])
met-more cells cell = met-behind 0 cells (cell ∷ []) ∙ ap (λ (k : ℕ). met_rows cells ++ met_from k (cell ∷ [])) (omega arith)

met-labelled : (start : ℕ) (cells : List Cell) → map (λ (row : Met). labelled row.packet row.labels) (met_from start cells) ≡ live_rows cells
met-labelled start [] = refl
met-labelled start (Live packet labels ∷ cells) = ap (λ (rows : List Labelled). labelled packet labels ∷ rows) (met-labelled (start + 1) cells)
met-labelled start (Dropped ∷ cells) = met-labelled (start + 1) cells

pub met-rows : (cells : List Cell) → map (λ (row : Met). labelled row.packet row.labels) (met_rows cells) ≡ live_rows cells
met-rows cells = met-labelled 0 cells
