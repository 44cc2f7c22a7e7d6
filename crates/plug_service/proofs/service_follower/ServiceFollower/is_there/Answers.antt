use Rattle.std.proofs.Common.{◌∙◌, ap}
use Rattle.plug_psi.specs.InForce.{pat_of, pmt_of}
use Rattle.plug_service.specs.Presence.{is_any_there}
use Rattle.plug_service.specs.declared.present.Present.{Present}
use Rattle.plug_service.proofs.service_follower.ServiceFollower.is_there.Goals as goal

pub returns : goal.returns
returns c = λ way words met h.
    c.is_any_there.ensures way words met h
    ∙ ap (λ l. is_any_there way l (pat_of met) (λ service. pmt_of service met)) (c.as_slice.ensures ∙ ap (λ (p : Present). p.services) h.present)
