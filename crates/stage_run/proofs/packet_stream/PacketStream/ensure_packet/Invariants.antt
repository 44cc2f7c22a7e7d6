use Rattle.std.proofs.Common.{◌≡◌, ℕ, ◌-◌, List, None}
use Rattle.ts_outside.specs.Source.{SourceView}
use Rattle.stage_run.specs.Feeds.{HasRoom, StreamStands, StreamLooks}
use Rattle.stage_run.proofs.packet_stream.PacketStream.ensure_packet.Given as goal

abbrev pub invariant-loop-wanted : goal.invariant-loop-wanted
invariant-loop-wanted g l = record {
  room : HasRoom l.self;
  packets : l.self.packets ≡ l.fn.self.packets;
  looks : (first : SourceView) (read : List ℕ) (rows : List (List ℕ)) → StreamStands g.S.Source.seen l.fn.self first read rows None
      → StreamLooks g.S.Source.seen l.self l.wanted first read rows None;
}

abbrev pub decreases-loop-wanted : goal.decreases-loop-wanted
decreases-loop-wanted g l = 188 - l.self.have
