use Rattle.std.proofs.Common.{ap, ◌∙◌}
use Rattle.plug_edit.specs.declared.pmt_place.PmtPlace.TheVariants.{OnPid, OfService}
use Rattle.plug_edit.proofs.PmtPlaceLemmas.{rule_named, silenced}
use Rattle.plug_edit.proofs.pmt_plugin.new_ways.Goals as goal

pub returns-in_ok-on_pid-in-OnPid-clause-rule : goal.returns-in_ok-on_pid-in-OnPid-clause-rule
returns-in_ok-on_pid-in-OnPid-clause-rule c =
    let conf = c.args.conf.now in
    ap silenced c.in_ok-on_pid-in-OnPid.ensures.rule
    ∙ rule_named conf c.in_ok-edit.edit.current.edit.conf (OnPid c.in-OnPid.pid) c.in_ok-dropped.dropped c.in_ok-edit.ensures c.in-OnPid.is c.in_ok-dropped.ensures

pub returns-in_ok-of_service-in-OfService-clause-rule : goal.returns-in_ok-of_service-in-OfService-clause-rule
returns-in_ok-of_service-in-OfService-clause-rule c =
    let conf = c.args.conf.now in
    ap silenced c.in_ok-of_service-in-OfService.ensures.rule
    ∙ rule_named conf c.in_ok-edit.edit.current.edit.conf (OfService c.in-OfService.service) c.in_ok-dropped.dropped c.in_ok-edit.ensures c.in-OfService.is c.in_ok-dropped.ensures
