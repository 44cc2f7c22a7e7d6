-- Lemmas on how far packets reach, cell by cell.
use Rattle.std.proofs.Common.{◌≡◌, ℕ, ◌+◌, ◌-◌, List, [], ◌∷◌, ◌++◌, length, ap, sym, ◌∙◌, refl, append-nil, Some}
use Rattle.ts_packet.specs.declared.cell.Cell.{Cell}
use Rattle.ts_packet.specs.Cells.{Live, Dropped}
use Rattle.ts_packet.specs.MetRows.{Met, met_rows}
use Rattle.ts_packet.proofs.RowLemmas.{met-more}
use Rattle.plug_info_state.specs.ExtentKept.{extent_with, kept_extent}
use Rattle.plug_info_state.specs.PacketExtent.{last_after}
use Rattle.plug_info_state.specs.declared.extent.Extent.{Extent}

pub last-more : (first : Met) (rows : List Met) (x : Met) → last_after first (rows ++ x ∷ []) ≡ x
last-more first [] x = refl
last-more first (row ∷ rows) x = last-more row rows x

-- what is kept with one more packet
kept-more : (rows : List Met) (row : Met) → kept_extent (rows ++ row ∷ []) ≡ extent_with (kept_extent rows) row.at
kept-more [] row = refl
kept-more (first ∷ rows) row =
    ap (λ (last : Met). let e : Extent = record { start = Some first.at; positions = last.at + 1 - first.at } in e) (last-more first rows row)

-- a dropped cell changes nothing
pub extent_dropped : (cells : List Cell) → kept_extent (met_rows (cells ++ Dropped ∷ [])) ≡ kept_extent (met_rows cells)
extent_dropped cells = ap kept_extent (met-more cells Dropped ∙ append-nil (met_rows cells))

-- a packet
pub extent_live : (cells : List Cell) (packet : List ℕ) (labels at : ℕ) (kept kept_new : Extent) → kept ≡ kept_extent (met_rows cells) → length cells ≡ at
    → kept_new ≡ extent_with kept at → kept_new ≡ kept_extent (met_rows (cells ++ Live packet labels ∷ []))
extent_live cells packet labels at kept kept_new is count new_is =
    let row : Met = record { at = length cells; packet = packet; labels = labels } in
    new_is
    ∙ (ap (extent_with kept) (sym count)
    ∙ (ap (λ (e : Extent). extent_with e (length cells)) is
    ∙ (sym (kept-more (met_rows cells) row) ∙ ap kept_extent (sym (met-more cells (Live packet labels))))))
