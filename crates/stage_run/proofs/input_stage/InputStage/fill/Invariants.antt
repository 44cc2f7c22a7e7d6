use Rattle.std.proofs.Common.{◌≡◌, ◌+◌, ◌-◌, ◌≤◌, length, take}
use Rattle.cell_rows.specs.Cells.{cells_of}
use Rattle.stage_run.specs.PartLists.{PartLists}
use Rattle.stage_run.specs.Feeds.{packets_put}
use Rattle.stage_run.specs.InputStands.{IsOpen, InputHolds}
use Rattle.stage_run.specs.InputSteps.{InputFits, InputGoes}
use Rattle.stage_run.proofs.input_stage.InputStage.fill.Given as goal

abbrev pub invariant-loop-done : goal.invariant-loop-done
invariant-loop-done g l = record {
  fits : InputFits l.self;
  within : l.done ≤ length l.fn.packets;
  size : length l.packets ≡ length l.fn.packets;
  marks : length l.marks ≡ length l.fn.packets;
  packets : packets_put l.self.feed ≤ packets_put l.fn.self.feed + l.done;
  goes : (lists : PartLists) → InputHolds g.S.Source.seen l.fn.self lists
      → InputGoes g.S.Source.seen l.fn.self l.self lists (length l.fn.packets) (take l.done (cells_of l.packets l.marks));
  stays_open : IsOpen l.fn.self.ended → IsOpen l.self.ended;
  same_stuffing : l.self.stuffing ≡ l.fn.self.stuffing;
}

abbrev pub decreases-loop-done : goal.decreases-loop-done
decreases-loop-done g l = length l.fn.packets - l.done
