use Rattle.std.proofs.Common.{ap₂, sym, ◌∙◌, ℕ, List, ◌&&◌, not}
use Rattle.ts_packet.specs.Cells.{live_packets}
use Rattle.ts_packet.specs.Header.{pid_of}
use Rattle.monitor_rows.specs.KeyRows.{has_number}
use Rattle.monitor_services.specs.StampErrors.{has_stamp}
use Rattle.monitor_services.proofs.Starting.{components-stay, stays-named}
use Rattle.monitor_services.proofs.stamp_row.StampRow.rename.Goals as goal

pub returns-then-may_bring_tables : goal.returns-then-may_bring_tables
returns-then-may_bring_tables c = λ pcr_pid history labels has here forced.
    c.in_ok-start.ensures pcr_pid history labels has.keys_are here has.started.started_are (c.in_ok-self.ensures _ forced)

pub returns-in_ok-start-2 : goal.returns-in_ok-start-2
returns-in_ok-start-2 c = λ pcr_pid history labels has here forced.
    c.in_ok-start-2.ensures pcr_pid history labels has.keys_are here has.started.started_are
    (components-stay (live_packets history) c.args.packet.now _ (c.may_bring_tables.ensures.same c.if-may_bring_tables.false _ forced) has.started.components_are)

pub returns-else-is_first : goal.returns-else-is_first
returns-else-is_first c = λ pcr_pid history labels has here forced.
    stays-named pcr_pid c.args.self.now history c.args.packet.now labels has (c.may_bring_tables.ensures.same c.if-may_bring_tables.false _ forced)
    (ap₂ (λ (ms ns : List ℕ). has_stamp c.args.packet.now && (has_number ms (pid_of c.args.packet.now) && not (has_number ns (pid_of c.args.packet.now))))
    (sym c.deref.ensures.value) (sym c.deref-2.ensures.value)
    ∙ (sym c.is_first.ensures ∙ c.if-is_first.false))
