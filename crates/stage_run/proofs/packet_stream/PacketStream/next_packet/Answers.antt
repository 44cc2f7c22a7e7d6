use Rattle.std.proofs.Common.{ℕ, ◌≤◌, List, take, drop, ap, refl, subst, ◌∙◌, arith, length-take}
use Rattle.ts_packet.specs.Packet.{IsPacket}
use Rattle.ts_packet.specs.Cells.{Live}
use Rattle.ts_packet.specs.Labels.{no_labels}
use Rattle.stage_run.proofs.StreamLemmas.{StreamStands-put}
use Rattle.stage_run.proofs.packet_stream.PacketStream.next_packet.Goals as goal

pub returns-clause-puts : goal.returns-clause-puts
returns-clause-puts g c = λ first read rows stands.
    let stream = c.args.self.now in
    let whole : 188 ≤ stream.have = omega (arith, length-take stream.have (drop stream.from stream.room.bytes.items)) in
    let row : List ℕ = take 188 (drop stream.from stream.room.bytes.items) in
    record {
      row = row;
      is_put = c.put_packet.ensures.put ∙ ap (λ (l : List ℕ). Live (take 188 (drop stream.from l)) no_labels) c.deref.ensures.value;
      stands = StreamStands-put g.S.Source.seen stream first read rows row stands whole
          (subst (λ (l : List ℕ). IsPacket (take 188 (drop stream.from l))) c.deref.ensures.value c.put_packet.ensures.packet) refl;
    }
