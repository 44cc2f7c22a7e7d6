use Rattle.std.proofs.Common.{ℕ, ◌<◌, ◌∙◌, refl, subst, arith}
use Rattle.stage_run.specs.Feeds.{ReadsMore}
use Rattle.stage_run.proofs.StreamLemmas.{StreamLooks-more, StreamLooks-lost, StreamLooks-end, StreamLooks-failed}
use Rattle.stage_run.proofs.packet_stream.PacketStream.ensure_packet.Goals as goal

pub returns-then-is_lost-clause-looks : goal.returns-then-is_lost-clause-looks
returns-then-is_lost-clause-looks g c = λ first read rows stands.
    StreamLooks-lost g.S.Source.seen c.loop-wanted.self c.args.wanted first read rows
    (c.loop-wanted.invariant.looks first read rows stands) (c.if-is_lost.ensures.lost refl)

pub returns-in-Ok-eq0-clause-looks : goal.returns-in-Ok-eq0-clause-looks
returns-in-Ok-eq0-clause-looks g c = λ first read rows stands.
    let few : c.loop-wanted.self.have < 188 = omega arith in
    let more : ReadsMore g.S.Source.seen c.loop-wanted.self c.read_more.new.self 0 =
    subst (λ (n : ℕ). ReadsMore g.S.Source.seen c.loop-wanted.self c.read_more.new.self n) c.in-Ok-eq0.field-0-test c.in-Ok-eq0.ensures.read in
    StreamLooks-end g.S.Source.seen c.loop-wanted.self c.read_more.new.self c.args.wanted first read rows
    (c.loop-wanted.invariant.looks first read rows stands) more c.read_more.ensures.room c.read_more.ensures.packets (c.if-is_lost.ensures.kept refl) few

pub loop-wanted-preserved : goal.loop-wanted-preserved
loop-wanted-preserved g c = record {
  room = c.read_more.ensures.room;
  packets = c.read_more.ensures.packets ∙ c.loop-wanted.invariant.packets;
  looks = λ first read rows stands.
      StreamLooks-more g.S.Source.seen c.loop-wanted.self c.read_more.new.self c.args.wanted c.in-Ok.field-0 first read rows
      (c.loop-wanted.invariant.looks first read rows stands) c.in-Ok.ensures.read c.read_more.ensures.room c.read_more.ensures.packets c.read_more.ensures.asked;
}

pub returns-in-Err-clause-looks : goal.returns-in-Err-clause-looks
returns-in-Err-clause-looks g c = λ first read rows stands.
    let few : c.loop-wanted.self.have < 188 = omega arith in
    StreamLooks-failed g.S.Source.seen c.loop-wanted.self c.read_more.new.self c.args.wanted first read rows
    (c.loop-wanted.invariant.looks first read rows stands) c.in-Err.ensures.read c.read_more.ensures.room c.read_more.ensures.packets (c.if-is_lost.ensures.kept refl) few
