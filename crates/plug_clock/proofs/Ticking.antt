-- Lemmas on the clock after one cell more.
use Rattle.std.proofs.Common.{◌≡◌, ℕ, List, [], ◌∷◌, ◌++◌, length, Option, ap, ◌∙◌, refl}
use Rattle.ts_packet.specs.declared.cell.Cell.{Cell}
use Rattle.ts_packet.specs.Cells.{Live, Dropped}
use Rattle.ts_packet.specs.MetRows.{Met, met_from, met_rows}
use Rattle.ts_packet.proofs.RowLemmas.{met-more}
use Rattle.plug_clock.specs.StreamClock.{clock_after, clock_met, clock_start, clock_through}
use Rattle.plug_clock.specs.declared.stream_clock.StreamClock.{StreamClock}

through-more : (clock : StreamClock) (rows more : List Met) → clock_through clock (rows ++ more) ≡ clock_through (clock_through clock rows) more
through-more clock [] more = refl
through-more clock (row ∷ rows) more = through-more (clock_met clock row.at row.packet) rows more

-- the clock after the cells, and after one more
after-cell : (pid : Option ℕ) (history : List Cell) (cell : Cell)
    → clock_after pid (history ++ cell ∷ []) ≡ clock_through (clock_after pid history) (met_from (length history) (cell ∷ []))
unfolding clock_after
after-cell pid history cell =
    ap (clock_through (clock_start pid)) (met-more history cell) ∙ through-more (clock_start pid) (met_rows history) (met_from (length history) (cell ∷ []))

-- a packet
pub clock-live : (pid : Option ℕ) (history : List Cell) (packet : List ℕ) (labels : ℕ)
    → clock_after pid (history ++ Live packet labels ∷ []) ≡ clock_met (clock_after pid history) (length history) packet
clock-live pid history packet labels = after-cell pid history (Live packet labels)

-- a dropped cell
pub clock-dropped : (pid : Option ℕ) (history : List Cell) → clock_after pid (history ++ Dropped ∷ []) ≡ clock_after pid history
clock-dropped pid history = after-cell pid history Dropped
