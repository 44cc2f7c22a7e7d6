use Rattle.std.proofs.Common.{◌≡◌, ◌+◌, ◌<◌, length, take, drop}
use Rattle.chain_model.specs.Written.{written}
use Rattle.cell_rows.specs.Cells.{cells_of}
use Rattle.stage_run.proofs.writing.cell_of_byte.Given as goal

abbrev pub invariant-loop-place : goal.invariant-loop-place
invariant-loop-place l = record {
  before : l.byte ≡ length (written (take l.place (cells_of l.packets l.marks))) + l.left;
  within : l.left < length (written (drop l.place (cells_of l.packets l.marks)));
}
