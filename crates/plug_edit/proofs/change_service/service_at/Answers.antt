use Rattle.std.proofs.Common.{ap, sym, ◌∙◌, Some}
use Rattle.plug_edit.specs.ServiceChange.{is_service_descriptor, values_in}
use Rattle.plug_edit.proofs.ChangingLemmas.{found_at, none_at}
use Rattle.plug_edit.proofs.change_service.service_at.Goals as goal

pub returns-in_ok-service-in-Some : goal.returns-in_ok-service-in-Some
returns-in_ok-service-in-Some c = λ told.
    c.in_ok-service-in-Some.ensures ∙ ap values_in (ap Some c.index-descriptors-place.is ∙ sym (found_at is_service_descriptor c.args.descriptors.now c.in-Some.place c.index-descriptors-place.result (sym c.in-Some.is ∙ told)))

pub returns-in-None : goal.returns-in-None
returns-in-None c = λ told. c.new_service_descriptor.ensures ∙ ap values_in (sym (none_at is_service_descriptor c.args.descriptors.now (sym c.in-None.is ∙ told)))
