use Rattle.std.proofs.Common.{◌≡◌, false, ap, ap₂, filter, get_or, rules, subst, ◌∙◌}
use Rattle.plug_psi.specs.InForce.{pat_of, pmt_of}
use Rattle.plug_psi.specs.ServicePids.{has_pid}
use Rattle.plug_service.specs.Actions.{IsEditable, action_by, more_entries, own_pids, pmt_pids, shared_pids}
use Rattle.plug_service.specs.declared.action.Action.TheVariants.{Drop}
use Rattle.plug_service.proofs.FlagLemmas.{told-all, told-by}
use Rattle.plug_service.proofs.action_row.action_row.Goals as goal

pub returns-clause-editable : goal.returns-clause-editable
returns-clause-editable c = λ pid below is.
    let told : IsEditable (get_or c.in_ok-row.row pid Drop) pid = (let call = c.in_ok-row.ensures pid Drop below in search rules) in
    subst (λ a. IsEditable a pid) is told

pub returns-clause-stands : goal.returns-clause-stands
returns-clause-stands c = λ fed f pid below.
    let services = c.args.present.now.services in
    let pat = pat_of fed in
    let told : get_or c.in_ok-row.row pid Drop ≡ action_by c.args.present.now.way (get_or c.in_ok-of_pmts.of_pmts pid false)
    (get_or c.in_ok-shared-2.shared pid false) (get_or c.in_ok-flags.flags pid false) pid =
    (let call = c.in_ok-row.ensures pid Drop below in search rules) in
    let firsts = c.in_ok-firsts.ensures ∙ ap₂ pmt_pids c.as_slice-2.ensures (c.pat.ensures fed f) in
    let shared = c.in_ok-shared.ensures ∙ ap₂ (λ l p. filter (more_entries l p) l) (c.deref.ensures.value ∙ firsts) (c.pat-2.ensures fed f) in
    let of_pmt = c.in_ok-of_pmts.ensures pid below ∙ told-all c.deref-4.result.now (pmt_pids services pat) (c.deref-4.ensures.value ∙ firsts) pid in
    let is_shared = c.in_ok-shared-2.ensures pid below ∙ told-all c.deref-5.result.now (shared_pids services pat) (c.deref-5.ensures.value ∙ shared) pid in
    let flag = c.in_ok-flags.ensures pid below ∙ told-by c.args.present.now.way services pat (λ other. pmt_of other fed) c.deref-2.result.now c.deref-3.result.now
    (c.deref-2.ensures.value ∙ (c.in_ok-own.ensures fed f ∙ ap (λ l. own_pids l (λ other. pmt_of other fed)) c.as_slice.ensures))
    (c.deref-3.ensures.value ∙ c.in_ok-others.ensures fed f) pid in
    told
    ∙ (ap₂ (λ a s. action_by c.args.present.now.way a s (get_or c.in_ok-flags.flags pid false) pid) of_pmt is_shared
    ∙ ap (λ b. action_by c.args.present.now.way (has_pid (pmt_pids services pat) pid) (has_pid (shared_pids services pat) pid) b pid) flag)
