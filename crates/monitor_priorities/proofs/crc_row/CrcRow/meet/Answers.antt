use Rattle.std.proofs.Common.{ap, sym, subst, ◌∙◌, ℕ, [], ◌∷◌, ◌++◌}
use Rattle.std.proofs.lemmas.Bool.{eq-eqb}
use Rattle.plug_psi.specs.ByPid.{AllStand}
use Rattle.ts_packet.specs.Cells.{live_packets}
use Rattle.ts_packet.specs.Header.{pid_of}
use Rattle.ts_packet.specs.declared.numbers.TheConstants.{NULL_PID}
use Rattle.monitor_services.proofs.Naming.{live-more}
use Rattle.monitor_priorities.specs.WrongTables.{HasTold, is_read}
use Rattle.monitor_priorities.proofs.Giving.{none-told, null-unread, some-told}
use Rattle.monitor_priorities.proofs.crc_row.CrcRow.meet.Goals as goal

pub returns-then-pid-eq-NULL_PID-clause-stands : goal.returns-then-pid-eq-NULL_PID-clause-stands
returns-then-pid-eq-NULL_PID-clause-stands c = λ history labels has forced.
    subst (AllStand HasTold c.args.self.now.readers is_read) (sym (live-more history c.args.packet.now labels))
    (c.unfollowed_packets_change_nothing.ensures tt c.args.self.now.readers is_read (live_packets history) c.args.packet.now has
    (null-unread (live_packets history ++ c.args.packet.now ∷ []) (pid_of c.args.packet.now)
    (eq-eqb (pid_of c.args.packet.now) NULL_PID (sym c.pid-pid.ensures.field ∙ c.if-pid-eq-NULL_PID.true))))

pub returns-then-pid-eq-NULL_PID-clause-tells : goal.returns-then-pid-eq-NULL_PID-clause-tells
returns-then-pid-eq-NULL_PID-clause-tells c = λ history has forced here.
    none-told history c.args.packet.now c.args.errors.now.items
    (null-unread (live_packets history ++ c.args.packet.now ∷ []) (pid_of c.args.packet.now)
    (eq-eqb (pid_of c.args.packet.now) NULL_PID (sym c.pid-pid.ensures.field ∙ c.if-pid-eq-NULL_PID.true)))

pub returns-then-not-is_read-clause-stands : goal.returns-then-not-is_read-clause-stands
returns-then-not-is_read-clause-stands c = λ history labels has forced.
    subst (AllStand HasTold c.args.self.now.readers is_read) (sym (live-more history c.args.packet.now labels))
    (c.unfollowed_packets_change_nothing.ensures tt c.args.self.now.readers is_read (live_packets history) c.args.packet.now has
    (ap (λ (pid : ℕ). is_read pid (live_packets history ++ c.args.packet.now ∷ [])) (sym c.pid-pid.ensures.field) ∙ (sym (c.is_read.ensures _ forced) ∙ c.if-not-is_read.true)))

pub returns-then-not-is_read-clause-tells : goal.returns-then-not-is_read-clause-tells
returns-then-not-is_read-clause-tells c = λ history has forced here.
    none-told history c.args.packet.now c.args.errors.now.items
    (ap (λ (pid : ℕ). is_read pid (live_packets history ++ c.args.packet.now ∷ [])) (sym c.pid-pid.ensures.field) ∙ (sym (c.is_read.ensures _ forced) ∙ c.if-not-is_read.true))

pub returns-clause-stands : goal.returns-clause-stands
returns-clause-stands c = λ history labels has forced.
    subst (AllStand HasTold c.take.new.self is_read) (sym (live-more history c.args.packet.now labels))
    (c.in_ok-tables.ensures.stands is_read (live_packets history) has
    (ap (λ (pid : ℕ). is_read pid (live_packets history ++ c.args.packet.now ∷ [])) (sym c.pid-pid.ensures.field) ∙ (sym (c.is_read.ensures _ forced) ∙ c.if-not-is_read.false)) tt)

pub returns-clause-tells : goal.returns-clause-tells
returns-clause-tells c = λ history has forced here.
    some-told history c.args.packet.now c.args.errors.now.items _ c.args.at c.pid-pid.result _ here c.pid-pid.ensures.field
    (ap (λ (pid : ℕ). is_read pid (live_packets history ++ c.args.packet.now ∷ [])) (sym c.pid-pid.ensures.field) ∙ (sym (c.is_read.ensures _ forced) ∙ c.if-not-is_read.false))
    (c.deref.ensures.value ∙ c.in_ok-tables.ensures.tells is_read (live_packets history) has tt)
    c.in_ok-tell_wrong.ensures
