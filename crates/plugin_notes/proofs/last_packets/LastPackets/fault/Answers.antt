use Rattle.std.proofs.Common.{ℕ, None, get_or, ap, ◌∙◌, arith}
use Rattle.plugin_notes.proofs.Remembering.{fault_is}
use Rattle.plugin_notes.proofs.last_packets.LastPackets.fault.Goals as goal

pub returns : goal.returns
returns c = λ conf history r watched count.
    c.fault_behind.ensures
    ∙ fault_is conf _ history r c.args.packet.now c.on.result (omega (arith, c.pid.ensures.range, c.pid.ensures.field)) watched
    (c.on.ensures.is ∙ ap (λ (q : ℕ). get_or c.args.self.now.seen q None) c.pid.ensures.field) c.args.at count
