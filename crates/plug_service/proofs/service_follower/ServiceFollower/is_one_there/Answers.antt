use Rattle.std.proofs.Common.{sym, ◌∙◌, ap}
use Rattle.std.specs.Prelude.{is_some}
use Rattle.ts_psi.specs.PsiTables.{pmt_held}
use Rattle.plug_psi.specs.InForce.{pat_of, pid_for, pmt_of}
use Rattle.plug_service.specs.Presence.{is_there}
use Rattle.plug_service.specs.declared.present.Present.{Present}
use Rattle.plug_service.proofs.StepLemmas.{held-some, not-there, there-kept}
use Rattle.plug_service.proofs.service_follower.ServiceFollower.is_one_there.Goals as goal

pub returns-in_default : goal.returns-in_default
returns-in_default c = λ way services met h.
    not-there way c.args.service (pat_of met) (pmt_of c.args.service met)
    (ap (λ pat. pid_for pat c.args.service) (sym (c.pat.ensures met h.forced)) ∙ (sym c.pid_of_service.ensures ∙ c.in_default.is))

pub returns-in-Keep : goal.returns-in-Keep
returns-in-Keep c = λ way services met h.
    let in_pat = ap is_some (ap (λ pat. pid_for pat c.args.service) (sym (c.pat.ensures met h.forced)) ∙ (sym c.pid_of_service.ensures ∙ c.in-Some.is)) in
    c.is_some.ensures
    ∙ held-some pmt_held c.pmt.result
    ∙ ap is_some (c.pmt.ensures met h.forced)
    ∙ there-kept c.in-Keep.field-0 c.args.service (pat_of met) (pmt_of c.args.service met) in_pat
    ∙ ap (λ w. is_there w c.args.service (pat_of met) (pmt_of c.args.service met)) (sym c.in-Keep.is ∙ ap (λ (p : Present). p.way) h.present)

pub returns-in-Remove : goal.returns-in-Remove
returns-in-Remove c = λ way services met h.
    let in_pat = ap is_some (ap (λ pat. pid_for pat c.args.service) (sym (c.pat.ensures met h.forced)) ∙ (sym c.pid_of_service.ensures ∙ c.in-Some.is)) in
    sym in_pat
    ∙ ap (λ w. is_there w c.args.service (pat_of met) (pmt_of c.args.service met)) (sym c.in-Remove.is ∙ ap (λ (p : Present). p.way) h.present)
