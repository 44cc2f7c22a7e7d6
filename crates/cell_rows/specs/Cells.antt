-- Cells as two rows: packets that lie side by side, and their marks. This project's own rule.
use Rattle.std.specs.Prelude.{ℕ, List, [], ◌∷◌, if◌then◌else◌}
use Rattle.ts_packet.specs.Cells.{CellValue, Live, Dropped}
use Rattle.cell_rows.specs.declared.mark.Mark.{Mark}

-- the cell of a packet and its mark
abbrev pub cell_of : List ℕ → Mark → CellValue
cell_of packet mark = if mark.is_live then Live packet mark.labels else Dropped

-- the cells of packets and their marks, in order
abbrev pub cells_of : List (List ℕ) → List Mark → List CellValue
cells_of [] marks = []
cells_of (packet ∷ packets) [] = []
cells_of (packet ∷ packets) (mark ∷ marks) = cell_of packet mark ∷ cells_of packets marks
