use Rattle.std.proofs.Common.{◌≡◌, ◌<◌, ℕ, Bool, true, ◌&&◌, None, get_or, option_to_list, ap, ap₂, ◌∙◌, arith}
use Rattle.ts_packet.specs.Header.{pid_of}
use Rattle.ts_packet.specs.declared.numbers.TheConstants.{PID_COUNT}
use Rattle.plug_pcr.specs.ClockFaults.{is_clocked}
use Rattle.plug_pcr.specs.LastClocks.{kept_on}
use Rattle.plug_pcr.specs.PcrverifyConfOf.{conf_of}
use Rattle.plug_pcr.proofs.Faulting.{fault_is, pcr_reads}
use Rattle.plug_pcr.proofs.LastKept.{remembers_live, set_at_packet}
use Rattle.plug_pcr.proofs.Verifying.{verifies_live}
use Rattle.plug_pcr.proofs.pcrverify.Pcrverify.meet.Goals as goal

pub returns-clause-met : goal.returns-clause-met
returns-clause-met c = λ history mark w count labels.
    let conf = conf_of c.args.self.now in
    let packet = c.args.packet.now in
    let reads = pcr_reads packet c.args.clock c.requires.clocked in
    let is_one : is_clocked conf packet ≡ true = ap₂ (λ (a b : Bool). a && b) c.requires.selected reads.0 in
    let below : pid_of packet < PID_COUNT = omega (arith, c.pid-pid.ensures.range, c.pid-pid.ensures.field) in
    let kept_is : c.on-last.result ≡ kept_on (pid_of packet) history =
    c.on-last.ensures
    ∙ (ap (λ (q : ℕ). get_or c.args.self.now.last.clocks q None) c.pid-pid.ensures.field
    ∙ w.remembers.each (pid_of packet) below c.requires.selected) in
    let set_is = set_at_packet c.args.self.now.last.clocks c.keep.new.self.clocks packet history c.pid-pid.result c.args.at c.args.clock
    c.keep.ensures.kept c.pid-pid.ensures.field count reads.1 in
    verifies_live conf _ _ _ _ _ history mark w packet labels (omega (arith, count, c.requires.in_range)) c.keep.new.self _ _
    (option_to_list c.fault_behind-fault.result) c.args.at is_one
    (remembers_live conf c.args.self.now.last history w.remembers packet labels c.keep.new.self reads.0 below set_is c.keep.ensures.whole)
    count c.in_ok-push.ensures.met c.in_ok-push.ensures.faults
    (c.fault_behind-fault.ensures ∙ fault_is conf history packet c.on-last.result c.args.clock c.args.at is_one kept_is reads.1 count)
