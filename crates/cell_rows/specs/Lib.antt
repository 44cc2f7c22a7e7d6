-- The definitions of `cell_rows`: cells as packets and marks.
pub mod Cells
