use Rattle.std.proofs.Common.{◌≡◌, ◌≤◌, ◌*◌, length, take}
use Rattle.chain_model.specs.Written.{written}
use Rattle.cell_rows.specs.Cells.{cells_of}
use Rattle.stage_run.proofs.writing.gather.Given as goal

abbrev pub invariant-loop-i : goal.invariant-loop-i
invariant-loop-i l = record {
  long : length l.room ≡ length l.fn.room;
  fits : l.bytes ≤ length l.room;
  few : l.bytes ≤ 188 * l.i;
  gathered : take l.bytes l.room ≡ written (take l.i (cells_of l.packets l.marks));
}
