-- Windows of cells: of packets that lie side by side, with those of their marks. This project's own rule.
use Rattle.std.specs.Prelude.{◌≡◌, refl, ℕ, List, length}
use Rattle.std.specs.Coded.{Coded, code_by, coded×, coded_list, coded_ℕ}
use denote.RawPtr.{Ptr, null_ptr, coded_ptr}
use Rattle.ts_packet.specs.Cells.{CellValue}
use Rattle.ts_packet.specs.contracts.cell.Cell as cell
use Rattle.cell_land.specs.declared.cell_window.Bases.{Bases}
use Rattle.ts_land.specs.Pieces.{Land}

-- the identity of the blocks: where they begin, and how many slots each has
pub record CellLand : Type 0 where
  pub base : Bases
  pub count : ℕ

-- a window of the blocks: its cells, the first of which is in the slot `start`
pub record CellPiece : Type 0 where
  pub land : CellLand
  pub start : ℕ
  pub cells : List CellValue

abbrev pub cell_piece : CellLand → ℕ → List CellValue → CellPiece
cell_piece land start cells = record { land = land; start = start; cells = cells }

-- a window of the same slots
abbrev pub SameSlots : CellPiece → CellPiece → Type 0
SameSlots old new = (new.land ≡ old.land) × (new.start ≡ old.start) × (length new.cells ≡ length old.cells)

-- the block of the packets
abbrev pub packets_land : CellLand → Land
packets_land land = record { base = land.base.packets; count = land.count }

-- the block of the marks
abbrev pub marks_land : CellLand → Land
marks_land land = record { base = land.base.marks; count = land.count }

-- it is stored as the tuple of its fields
abbrev pub cell_piece_code : Coded CellPiece
cell_piece_code =
    code_by (((Ptr × Ptr) × ℕ) × (ℕ × List CellValue)) (coded× (coded× (coded× coded_ptr coded_ptr) coded_ℕ) (coded× coded_ℕ (coded_list cell.the_row.coded)))
    (λ w. (((w.land.base.packets, w.land.base.marks), w.land.count), (w.start, w.cells)))
    (λ p. cell_piece (record { base = record { packets = p.0.0.0; marks = p.0.0.1 }; count = p.0.1 }) p.1.0 p.1.1) (λ _. refl)

-- where there are none
abbrev pub no_bases : Bases
no_bases = record { packets = null_ptr; marks = null_ptr }
