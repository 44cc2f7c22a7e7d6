use Rattle.std.proofs.Common.{map, ap, ◌∙◌}
use Rattle.ts_psi.specs.PatTables.{service_item}
use Rattle.plug_edit.specs.PatEdit.{with_services, without_services}
use Rattle.plug_edit.proofs.PatLemmas.{pat_edited}
use Rattle.plug_edit.proofs.pat_edit.edit_pat.Goals as goal

pub returns : goal.returns
returns c =
    pat_edited c.args.conf.now c.args.pat _ _ _ _ c.version_after.ensures.version c.number_or.ensures c.pid_or_held.ensures.pid
    (ap (map service_item) c.of.ensures ∙ c.in_ok-add_services.ensures ∙ ap (λ l. with_services l c.as_slice.result.now) (c.remove_services.ensures ∙ ap (λ l. without_services c.args.conf.now.remove_service (map service_item l)) c.into_vec-services.ensures)
    ∙ ap (with_services (without_services c.args.conf.now.remove_service (map service_item c.args.pat.services))) c.as_slice.ensures)
