use Rattle.std.proofs.Common.{◌≡◌, ℕ, List, length, take}
use Rattle.cell_rows.specs.Cells.{cells_of}
use Rattle.stage_run.specs.Feeds.{live_cells}
use Rattle.stage_run.proofs.input_stage.mark_live.Given as goal

abbrev pub invariant-loop-slot : goal.invariant-loop-slot
invariant-loop-slot l = (packets : List (List ℕ)) → length packets ≡ length l.fn.marks
    → take l.slot (cells_of packets l.marks) ≡ live_cells (take l.slot packets)
