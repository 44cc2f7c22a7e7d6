use Rattle.std.proofs.Common.{◌≡◌, ◌≤◌, ◌-◌, length, take}
use Rattle.cell_rows.specs.Cells.{cells_of}
use Rattle.ts_outside.specs.Sink.{took}
use Rattle.chain_model.specs.Written.{written}
use Rattle.stage_run.proofs.writing.write_cells.Given as goal

abbrev pub invariant-loop-done : goal.invariant-loop-done
invariant-loop-done g l = record {
  within : l.done ≤ length l.packets;
  size : length l.room ≡ length l.fn.room;
  taken : g.K.Sink.seen l.sink ≡ took (g.K.Sink.seen l.fn.sink) (written (take l.done (cells_of l.packets l.marks)));
}

abbrev pub decreases-loop-done : goal.decreases-loop-done
decreases-loop-done g l = length l.packets - l.done
