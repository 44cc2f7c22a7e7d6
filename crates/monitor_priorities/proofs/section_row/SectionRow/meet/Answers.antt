use Rattle.std.proofs.Common.{◌≡◌, ◌==◌, false, ap, ap₂, sym, subst, ℕ, [], ◌∷◌, ◌++◌, ◌∙◌}
use Rattle.std.proofs.lemmas.Bool.{ne_eqb}
use Rattle.ts_packet.specs.Cells.{live_packets}
use Rattle.monitor_lines.specs.declared.indicator.Indicator.{Indicator}
use Rattle.monitor_services.proofs.Naming.{live-more}
use Rattle.monitor_tables.specs.ReaderStands.{HasRead}
use Rattle.monitor_tables.specs.TableIds.{sections_with, strangers_in, strangers_on}
use Rattle.monitor_priorities.specs.RowErrors.{table_error, stranger_errors}
use Rattle.monitor_priorities.proofs.Chaining.{told-at}
use Rattle.monitor_priorities.proofs.Passing.{gives_none, no_strangers, reads_on}
use Rattle.monitor_priorities.proofs.section_row.SectionRow.meet.Goals as goal

pub returns-then-pid-self-clause-stands : goal.returns-then-pid-self-clause-stands
returns-then-pid-self-clause-stands c =
    let away : (c.pid.result == c.args.self.now.pid) ≡ false = ne_eqb c.pid.result c.args.self.now.pid c.if-pid-self.true in
    λ pid indicator history labels w. record {
      pid_is = w.pid_is;
      indicator_is = w.indicator_is;
      has_read = subst (HasRead c.args.self.now.reader pid) (sym (live-more history c.args.packet.now labels))
          (reads_on c.args.self.now.reader pid (live_packets history) c.args.packet.now w.has_read
          (ap (λ n. n == pid) (sym c.pid.ensures.field) ∙ (ap (λ n. c.pid.result == n) (sym w.pid_is) ∙ away)) c.other_packets_change_nothing.ensures);
    }

pub returns-then-pid-self-clause-tells : goal.returns-then-pid-self-clause-tells
returns-then-pid-self-clause-tells c =
    let away : (c.pid.result == c.args.self.now.pid) ≡ false = ne_eqb c.pid.result c.args.self.now.pid c.if-pid-self.true in
    λ pid indicator history w here.
    no_strangers indicator pid history c.args.packet.now c.args.errors.now.items
    (gives_none c.args.self.now.reader pid (live_packets history) c.args.packet.now w.has_read
    (ap (λ n. n == pid) (sym c.pid.ensures.field) ∙ (ap (λ n. c.pid.result == n) (sym w.pid_is) ∙ away)) c.other_packets_change_nothing.ensures)

pub returns-clause-stands : goal.returns-clause-stands
returns-clause-stands c = λ pid indicator history labels w. record {
  pid_is = w.pid_is;
  indicator_is = w.indicator_is;
  has_read = subst (HasRead c.read.new.self pid) (sym (live-more history c.args.packet.now labels))
      (c.in_ok-sections.ensures.stands pid (live_packets history) w.has_read);
}

pub returns-clause-tells : goal.returns-clause-tells
returns-clause-tells c = λ pid indicator history w here.
    let sections = c.deref.ensures.value ∙ c.in_ok-sections.ensures.gives pid (live_packets history) w.has_read in
    told-at (table_error c.args.self.now.indicator) c.args.errors.now.items _ c.args.at _ _ (strangers_on pid (live_packets history) c.args.packet.now) (sym here)
    (c.deref-2.ensures.value ∙ (c.in_ok-others.ensures ∙ ap₂ strangers_in w.pid_is sections))
    c.in_ok-tell_tables.ensures
    ∙ ap (λ (i : Indicator). c.args.errors.now.items ++ stranger_errors i pid history c.args.packet.now) w.indicator_is
