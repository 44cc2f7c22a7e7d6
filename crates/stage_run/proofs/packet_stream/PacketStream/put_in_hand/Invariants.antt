use Rattle.std.proofs.Common.{◌≡◌, ◌+◌, ℕ, List, take, None}
use Rattle.cell_rows.specs.Cells.{cells_of}
use Rattle.ts_outside.specs.Source.{SourceView}
use Rattle.stage_run.specs.Feeds.{HasRoom, StreamStands, StreamPutsAll}
use Rattle.stage_run.proofs.packet_stream.PacketStream.put_in_hand.Given as goal

abbrev pub invariant-loop-done : goal.invariant-loop-done
invariant-loop-done g l = record {
  room : HasRoom l.self;
  packets : l.self.packets ≡ l.fn.self.packets + l.done;
  puts : (first : SourceView) (read : List ℕ) (rows : List (List ℕ)) → StreamStands g.S.Source.seen l.fn.self first read rows None
      → StreamPutsAll g.S.Source.seen l.self first read rows (take l.done (cells_of l.packets l.marks));
}
