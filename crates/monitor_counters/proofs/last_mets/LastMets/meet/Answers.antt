use Rattle.std.proofs.Common.{◌≡◌, ◌∙◌, arith}
use Rattle.ts_packet.specs.declared.numbers.TheConstants.{NULL_PID}
use Rattle.ts_packet.specs.Header.{pid_of}
use Rattle.monitor_counters.proofs.KeptPackets.{remembers_live, set_with}
use Rattle.monitor_counters.proofs.last_mets.LastMets.meet.Goals as goal

pub returns-then-error_indicator-clause-stands : goal.returns-then-error_indicator-clause-stands
returns-then-error_indicator-clause-stands c = λ history labels r.
    remembers_live c.args.self.now history r c.args.packet.now labels (omega (arith, c.pid-pid.ensures.range, c.pid-pid.ensures.field))
    (λ (null : pid_of c.args.packet.now ≡ NULL_PID). c.if-pid-eq-NULL_PID.false (c.pid-pid.ensures.field ∙ null)) _
    (set_with c.args.self.now.packets c.set.new.self c.args.packet.now c.pid-pid.result c.on-before.result c.met_with.result
    c.set.ensures.values c.met_with.ensures c.on-before.ensures c.pid-pid.ensures.field)
    c.set.ensures.whole

pub returns-clause-stands : goal.returns-clause-stands
returns-clause-stands c = λ history labels r.
    remembers_live c.args.self.now history r c.args.packet.now labels (omega (arith, c.pid-pid.ensures.range, c.pid-pid.ensures.field))
    (λ (null : pid_of c.args.packet.now ≡ NULL_PID). c.if-pid-eq-NULL_PID.false (c.pid-pid.ensures.field ∙ null)) _
    (set_with c.args.self.now.packets c.set.new.self c.args.packet.now c.pid-pid.result c.on-before.result c.met_with.result
    c.set.ensures.values c.met_with.ensures c.on-before.ensures c.pid-pid.ensures.field)
    c.set.ensures.whole
