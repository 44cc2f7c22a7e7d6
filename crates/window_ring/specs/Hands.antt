-- Cells at successive positions. This project's own rule.
use Rattle.std.specs.Prelude.{◌≡◌, ◌⊎◌, refl, ℕ, ◌+◌, ◌%◌, ◌<◌, ◌≤◌, List, [], ◌++◌, length, Option, None, Some}
use Rattle.std.specs.Coded.{Coded, code_by, coded×, coded_list, coded_ℕ}
use denote.RawPtr.{Ptr, coded_ptr}
use Rattle.cell_land.specs.declared.cell_window.Bases.{Bases}
use Rattle.ts_packet.specs.declared.cell.Cell.{Cell}
use Rattle.ts_packet.specs.contracts.cell.Cell as cell
use Rattle.cell_land.specs.Cells.{CellPiece, CellLand as Land, no_bases}

-- the position of the first cell, the block, and the cells
pub record Row : Type 0 where
  pub at : ℕ
  pub land : Land
  pub cells : List Cell

-- the mark of a block of so many slots
abbrev pub land_at : Bases → ℕ → Land
land_at base count = record { base = base; count = count }

-- cells at a position of a block
abbrev pub row_of : ℕ → Land → List Cell → Row
row_of at land cells = record { at = at; land = land; cells = cells }

-- they are stored as the tuple of the fields
abbrev pub row_code : Coded Row
row_code = code_by (ℕ × (((Ptr × Ptr) × ℕ) × List Cell))
    (coded× coded_ℕ (coded× (coded× (coded× coded_ptr coded_ptr) coded_ℕ) (coded_list cell.the_row.coded)))
    (λ r. (r.at, (((r.land.base.packets, r.land.base.marks), r.land.count), r.cells)))
    (λ p. row_of p.0 (land_at (record { packets = p.1.0.0.0; marks = p.1.0.0.1 }) p.1.0.1) p.1.1) (λ _. refl)

-- the cells of a window, if there is one
abbrev pub piece : Option CellPiece → List Cell
piece None = []
piece (Some w) = w.cells

-- and of two
abbrev pub pieces : Option CellPiece → Option CellPiece → List Cell
pieces first second = piece first ++ piece second

-- a window of this block that is not empty and begins in this slot
pub record Begins (base : Bases) (count slot : ℕ) (w : CellPiece) : Type 0 where
  pub land : w.land ≡ land_at base count
  pub start : w.start ≡ slot
  pub some : 0 < length w.cells
  pub inside : w.start + length w.cells ≤ count

-- the cell at a position lies in the slot of that number modulo the number of slots
abbrev pub IsHand : ℕ → Bases → ℕ → Option CellPiece → Option CellPiece → Type 0
IsHand at base count None None = 0 < count
IsHand at base count None (Some u) = ⊥
IsHand at base count (Some w) None = (0 < count) × Begins base count (at % count) w
IsHand at base count (Some w) (Some u) =
    (0 < count) × Begins base count (at % count) w × Begins base count 0 u
    × (w.start + length w.cells ≡ count)

-- where there is none
abbrev pub no_row : Row
no_row = row_of 0 (land_at no_bases 0) []

-- a window before these cells, at this position: it ends where the block ends, or no cells come
-- after it
pub record IsFront (at : ℕ) (rest : Row) (w : CellPiece) : Type 0 where
  pub land : w.land ≡ rest.land
  pub start : w.start ≡ at % rest.land.count
  pub some : 0 < length w.cells
  pub inside : w.start + length w.cells ≤ rest.land.count
  pub ends : (rest.cells ≡ []) ⊎ (w.start + length w.cells ≡ rest.land.count)
  pub next : rest.at ≡ at + length w.cells
  pub fits : length w.cells + length rest.cells ≤ rest.land.count

-- of the old cells, the first ones were lifted out in a window
pub record LiftsFront (old new : Row) (w : CellPiece) : Type 0 where
  pub is_front : length old.cells ≤ old.land.count → IsFront old.at new w
  pub cells : old.cells ≡ w.cells ++ new.cells
  pub same : new.land ≡ old.land
