-- Windows of packets and of their marks as windows of cells.
use Rattle.std.proofs.Common.{◌≡◌, ℕ, List, [], ◌∷◌, ◌++◌, length, take, drop, refl, ap, ◌∙◌, arith}
use Rattle.ts_packet.specs.Cells.{CellValue}
use Rattle.cell_rows.specs.declared.mark.Mark.{Mark}
use Rattle.cell_rows.specs.Cells.{cells_of}
use Rattle.cell_rows.proofs.CellLemmas.{cells_long}
use Rattle.cell_land.specs.Cells.{cell_piece, CellLand, CellPiece, SameSlots, packets_land, marks_land}
use Rattle.ts_land.specs.Pieces.{Piece, with_cells}

-- a window of packets and one of marks are the cells of the slots in which both lie
pub as_piece : (p : Piece (List ℕ)) (m : Piece Mark) (land : CellLand) (start : ℕ) (cells : List CellValue) → p.land ≡ packets_land land → m.land ≡ marks_land land → p.start ≡ start → cells_of p.cells m.cells ≡ cells
    → cell_piece (record { base = record { packets = p.land.base; marks = m.land.base }; count = p.land.count }) p.start (cells_of p.cells m.cells) ≡ cell_piece land start cells
as_piece p m land start cells hp hm hs hc k =
    cell_piece (record { base = record { packets = (hp k).base; marks = (hm k).base }; count = (hp k).count }) (hs k) (hc k)

-- a row that was written to as a whole
pub written_over : {T : Type 0} (xs old : List T) → length xs ≡ length old → take (length old) (xs ++ drop (length xs) old) ≡ xs
written_over [] [] e = refl
written_over [] (y ∷ ys) e = absurd (omega (arith, e))
written_over (x ∷ xs) [] e = absurd (omega (arith, e))
written_over (x ∷ xs) (y ∷ ys) e = ap (λ (l : List _). x ∷ l) (written_over xs ys (omega (arith, e)))

-- both windows were written to as a whole
pub as_written : (p : Piece (List ℕ)) (m : Piece Mark) (land : CellLand) (start : ℕ) (ps : List (List ℕ)) (ms : List Mark)
    → p.land ≡ packets_land land → m.land ≡ marks_land land → p.start ≡ start → length ps ≡ length p.cells → length ms ≡ length m.cells
    → cell_piece (record { base = record { packets = p.land.base; marks = m.land.base }; count = p.land.count }) p.start (cells_of (with_cells p ps).cells (with_cells m ms).cells) ≡ cell_piece land start (cells_of ps ms)
as_written p m land start ps ms hp hm hs lp lm =
    as_piece (with_cells p ps) (with_cells m ms) land start (cells_of ps ms) hp hm hs
    (λ k. cells_of (written_over ps p.cells lp k) (written_over ms m.cells lm k))

-- it is of the same slots
pub same_slots : (w r : CellPiece) (ps : List (List ℕ)) (ms : List Mark) → r ≡ cell_piece w.land w.start (cells_of ps ms) → length ms ≡ length ps → length ps ≡ length w.cells → SameSlots w r
same_slots w r ps ms e lm lp = (ap (λ (x : CellPiece). x.land) e, ap (λ (x : CellPiece). x.start) e, ap (λ (x : CellPiece). length x.cells) e ∙ cells_long ps ms lm ∙ lp)
