use Rattle.std.proofs.Common.{ap, sym, subst, length, ◌≡◌, ◌∙◌, ◌++◌, ◌∷◌, [], Bool}
use Rattle.ts_packet.specs.Cells.{Live, live_packets}
use Rattle.monitor_keys.specs.Looks.{is_look}
use Rattle.monitor_rows.specs.KeyRows.{has_number, row_gaps}
use Rattle.monitor_rows.specs.RowStands.{IsRow}
use Rattle.monitor_services.specs.GapErrors.{gap_errors}
use Rattle.monitor_services.specs.declared.row_kind.RowKind.{RowKind}
use Rattle.monitor_services.specs.PidErrors.{is_one, pid_errors, pid_if, pid_rule, row_kind}
use Rattle.monitor_services.specs.declared.pid_kind.PidKind.{PidKind}
use Rattle.monitor_services.proofs.Naming.{none-told, place-of, quiet-pids, told-of}
use Rattle.monitor_services.proofs.pid_row.PidRow.meet.Goals as goal

pub returns-then-is_idle-clause-stands : goal.returns-then-is_idle-clause-stands
returns-then-is_idle-clause-stands c = λ kind units pcr_pid history labels has span_is forced. record {
  kind_is = has.kind_is;
  keys_are = quiet-pids history c.args.packet.now labels (c.is_idle.ensures.same c.if-is_idle.true (live_packets history) forced)
      c.a_packet_without_news_leaves_the_row.ensures.stands kind units pcr_pid c.args.self.now.keys has.keys_are
      (sym (ap is_look span_is) ∙ c.is_idle.ensures.no_look c.if-is_idle.true)
      (sym (ap (λ (k : PidKind). is_one k c.args.packet.now) has.kind_is) ∙ (sym c.is_one-occurs.ensures ∙ c.is_idle.ensures.none c.if-is_idle.true));
}

pub returns-then-is_idle-clause-tells : goal.returns-then-is_idle-clause-tells
returns-then-is_idle-clause-tells c = λ kind units pcr_pid history has span_is forced.
    none-told (row_kind kind) (length history) (row_gaps (pid_rule kind units pcr_pid) history c.args.packet.now) c.args.errors.now.items
    (c.a_packet_without_news_leaves_the_row.ensures.tells (pid_rule kind units pcr_pid) history c.args.packet.now
    (sym (ap is_look span_is) ∙ c.is_idle.ensures.no_look c.if-is_idle.true))

pub returns-clause-stands : goal.returns-clause-stands
returns-clause-stands c = λ kind units pcr_pid history labels has span_is forced.
    let here = place-of c.args.span.now pcr_pid history c.args.packet.now span_is in
    record {
      kind_is = has.kind_is;
      keys_are = subst (λ (k : PidKind). IsRow (pid_rule k units pcr_pid) c.meet_if.new.keys (history ++ Live c.args.packet.now labels ∷ [])) has.kind_is
          (c.in_ok-gaps.ensures.stands (pid_rule c.args.self.now.kind units pcr_pid) history labels
          (c.in_ok-rename.ensures units pcr_pid history labels
          (subst (λ (k : PidKind). IsRow (pid_rule k units pcr_pid) c.args.self.now.keys history) (sym has.kind_is) has.keys_are) here forced)
          span_is (λ n. ap (λ (b : Bool). has_number (pid_if b c.args.packet.now) n) c.is_one-occurs.ensures));
    }

pub returns-clause-tells : goal.returns-clause-tells
returns-clause-tells c = λ kind units pcr_pid history has span_is forced.
    let here = place-of c.args.span.now pcr_pid history c.args.packet.now span_is in
    subst (λ (k : PidKind). c.add_gaps.new.errors.items ≡ c.args.errors.now.items ++ pid_errors k units pcr_pid history c.args.packet.now) has.kind_is
    (told-of (row_kind c.args.self.now.kind) c.args.span.now.at c.deref.result.now (row_gaps (pid_rule c.args.self.now.kind units pcr_pid) history c.args.packet.now)
    history c.args.errors.now.items c.add_gaps.new.errors.items here
    (c.deref.ensures.value
    ∙ c.in_ok-gaps.ensures.tells (pid_rule c.args.self.now.kind units pcr_pid) history 0
    (c.in_ok-rename.ensures units pcr_pid history 0
    (subst (λ (k : PidKind). IsRow (pid_rule k units pcr_pid) c.args.self.now.keys history) (sym has.kind_is) has.keys_are) here forced)
    span_is (λ n. ap (λ (b : Bool). has_number (pid_if b c.args.packet.now) n) c.is_one-occurs.ensures))
    (c.in_ok-add_gaps.ensures ∙ ap (λ (k : RowKind). c.args.errors.now.items ++ gap_errors k c.args.span.now.at c.deref.result.now) c.kind_of_row.ensures))
