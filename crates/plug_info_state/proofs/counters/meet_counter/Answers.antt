use Rattle.std.proofs.Common.{eq-eqb, sym, ◌∙◌}
use Rattle.std.proofs.lemmas.Bool.{ne_eqb}
use Rattle.ts_packet.specs.Header.{pid_of}
use Rattle.ts_packet.specs.declared.numbers.TheConstants.{NULL_PID}
use Rattle.plugin_notes.proofs.Remembering.{remembers_other}
use Rattle.plug_analyze.specs.AnalyzeRule.{all_pids}
use Rattle.plug_analyze.proofs.CountersLemmas.{any_is, no_fault, unwatched, watched}
use Rattle.plug_info_state.proofs.counters.meet_counter.Goals as goal

pub returns-then-pid-eq-NULL_PID-clause-fault : goal.returns-then-pid-eq-NULL_PID-clause-fault
returns-then-pid-eq-NULL_PID-clause-fault c = λ history r count.
    no_fault history c.args.packet.now (eq-eqb (pid_of c.args.packet.now) NULL_PID (sym c.pid.ensures.field ∙ c.if-pid-eq-NULL_PID.true))

pub returns-then-pid-eq-NULL_PID-clause-met : goal.returns-then-pid-eq-NULL_PID-clause-met
returns-then-pid-eq-NULL_PID-clause-met c = λ history r labels.
    remembers_other all_pids _ history r c.args.packet.now labels
    (unwatched (pid_of c.args.packet.now) (eq-eqb (pid_of c.args.packet.now) NULL_PID (sym c.pid.ensures.field ∙ c.if-pid-eq-NULL_PID.true)))

pub returns-clause-fault : goal.returns-clause-fault
returns-clause-fault c = λ history r count.
    c.is_some.ensures
    ∙ any_is c.fault-fault.result _
    (c.fault-fault.ensures all_pids history r
    (watched (pid_of c.args.packet.now) (ne_eqb (pid_of c.args.packet.now) NULL_PID (λ same. c.if-pid-eq-NULL_PID.false (c.pid.ensures.field ∙ same)))) count)

pub returns-clause-met : goal.returns-clause-met
returns-clause-met c = λ history r labels.
    c.keep.ensures.kept all_pids history r
    (watched (pid_of c.args.packet.now) (ne_eqb (pid_of c.args.packet.now) NULL_PID (λ same. c.if-pid-eq-NULL_PID.false (c.pid.ensures.field ∙ same)))) labels
