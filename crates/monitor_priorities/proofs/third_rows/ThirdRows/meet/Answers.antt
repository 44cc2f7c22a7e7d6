use Rattle.std.proofs.Common.{sym, refl, ◌∙◌}
use Rattle.monitor_lines.specs.declared.indicator.Indicator.TheVariants.{Rst}
use Rattle.monitor_services.proofs.Naming.{place-of}
use Rattle.monitor_tables.specs.TableKeys.{nit_key, sdt_key, tdt_key}
use Rattle.monitor_priorities.specs.PriorityErrors.{nit_kind, sdt_kind, tdt_kind}
use Rattle.monitor_priorities.specs.RowErrors.{orphan_error}
use Rattle.monitor_priorities.proofs.Chaining.{told-at, told-kind, told-six}
use Rattle.monitor_priorities.proofs.third_rows.ThirdRows.meet.Goals as goal

pub returns-clause-stands : goal.returns-clause-stands
returns-clause-stands c = λ pcr_pid history labels has span_is referred. record {
  tables = record {
    nit = record { kind_is = c.meet.ensures.kind ∙ has.tables.nit.kind_is; row_is = c.in_ok-meet.ensures.stands (nit_key pcr_pid) history labels has.tables.nit.row_is span_is refl };
    sdt = record { kind_is = c.meet-3.ensures.kind ∙ has.tables.sdt.kind_is; row_is = c.in_ok-meet-2.ensures.stands (sdt_key pcr_pid) history labels has.tables.sdt.row_is span_is refl };
    tdt = record { kind_is = c.meet-6.ensures.kind ∙ has.tables.tdt.kind_is; row_is = c.in_ok-meet-5.ensures.stands (tdt_key pcr_pid) history labels has.tables.tdt.row_is span_is refl };
  };
  orphans = c.in_ok-orphans.ensures.stands pcr_pid history labels has.orphans span_is referred;
  eits = c.in_ok-meet-3.ensures.stands pcr_pid history labels has.eits span_is;
  rst = c.in_ok-meet-4.ensures.stands 19 Rst history labels has.rst;
}

pub returns-clause-tells : goal.returns-clause-tells
returns-clause-tells c = λ pcr_pid history has span_is referred.
    let here = place-of c.args.span.now pcr_pid history c.args.packet.now span_is in
    told-six c.args.errors.now.items _ _ _ _ _ _ _ _ _ _ _ _
    (told-kind (nit_key pcr_pid) history c.args.packet.now _ _ _ nit_kind has.tables.nit.kind_is (c.in_ok-meet.ensures.tells (nit_key pcr_pid) history has.tables.nit.row_is span_is refl))
    (told-at orphan_error _ _ _ _ _ _ here (c.deref.ensures.value ∙ c.in_ok-orphans.ensures.tells pcr_pid history has.orphans span_is referred) c.in_ok-tell_orphans.ensures)
    (told-kind (sdt_key pcr_pid) history c.args.packet.now _ _ _ sdt_kind has.tables.sdt.kind_is (c.in_ok-meet-2.ensures.tells (sdt_key pcr_pid) history has.tables.sdt.row_is span_is refl))
    (c.in_ok-meet-3.ensures.tells pcr_pid history has.eits span_is)
    (c.in_ok-meet-4.ensures.tells 19 Rst history has.rst (sym here))
    (told-kind (tdt_key pcr_pid) history c.args.packet.now _ _ _ tdt_kind has.tables.tdt.kind_is (c.in_ok-meet-5.ensures.tells (tdt_key pcr_pid) history has.tables.tdt.row_is span_is refl))
