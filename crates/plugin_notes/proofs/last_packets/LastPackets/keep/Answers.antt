use Rattle.std.proofs.Common.{◌<◌, ℕ, None, Some, Option, get_or, set, ap, subst, ◌∙◌, arith}
use Rattle.ts_packet.specs.Header.{pid_of}
use Rattle.plugin_notes.specs.declared.last_packet.LastPacket.{LastPacket}
use Rattle.plugin_notes.proofs.Remembering.{remembers_live, right_is}
use Rattle.plugin_notes.proofs.last_packets.LastPackets.keep.Goals as goal

pub returns-clause-right : goal.returns-clause-right
returns-clause-right c = λ conf history r watched.
    ap (λ (s : LastPacket). s.right) c.seen_with-next.ensures.with
    ∙ right_is conf _ history r c.args.packet.now c.on.result (omega (arith, c.pid-pid.ensures.range, c.pid-pid.ensures.field)) watched
    (c.on.ensures.is ∙ ap (λ (q : ℕ). get_or c.args.self.now.seen q None) c.pid-pid.ensures.field) c.seen_with-next.ensures.counter

pub returns-clause-kept : goal.returns-clause-kept
returns-clause-kept c = λ conf history r watched labels.
    remembers_live conf _ history r c.args.packet.now c.on.result (omega (arith, c.pid-pid.ensures.range, c.pid-pid.ensures.field)) watched
    (c.on.ensures.is ∙ ap (λ (q : ℕ). get_or c.args.self.now.seen q None) c.pid-pid.ensures.field) labels _
    c.seen_with-next.ensures.counter (subst (λ (s : LastPacket). s.right < 16) c.seen_with-next.ensures.with c.seen_with-next.ensures.range)
    (c.set.ensures.values ∙ (ap (λ (q : ℕ). set c.args.self.now.seen q (Some c.seen_with-next.result)) c.pid-pid.ensures.field
    ∙ ap (λ (s : LastPacket). let t : Option LastPacket = Some s in set c.args.self.now.seen (pid_of c.args.packet.now) t) c.seen_with-next.ensures.with))
    c.set.ensures.whole
