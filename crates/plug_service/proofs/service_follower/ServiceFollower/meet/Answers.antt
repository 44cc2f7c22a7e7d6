use Rattle.std.proofs.Common.{◌≡◌, false, ◌++◌, ◌∷◌, [], ap, sym, ◌∙◌}
use Rattle.ts_packet.specs.Header.{pid_of}
use Rattle.plug_psi.specs.InForce.{pat_of, pmt_of}
use Rattle.plug_psi.specs.SameForce.{SameInForce}
use Rattle.named_services.specs.NamedServices.{services_after}
use Rattle.plug_service.specs.Actions.{action_of}
use Rattle.plug_service.specs.declared.present.Present.{Present}
use Rattle.plug_service.proofs.ActionLemmas.{action-after, neither, unread-plain}
use Rattle.plug_service.proofs.StepLemmas.{same-there}
use Rattle.plug_service.proofs.service_follower.ServiceFollower.meet.Goals as goal

pub returns-clause-stands : goal.returns-clause-stands
returns-clause-stands c = λ way words met h.
    let forced = c.in_ok-came.ensures.stands met h.forced in
    let same : c.in_ok-came.came ≡ false → SameInForce met c.args.packet.now = λ none. c.in_ok-came.ensures.same none met h.forced in
    let named = c.in_ok-other.ensures.stands words met h.named forced same in
    let next = c.in_ok-renew_where.ensures.stands way words met c.args.packet.now forced named
    (λ none. let both = neither c.in_ok-came.came c.in_ok-other.other (sym c.either-changed.ensures ∙ none) in
    (same both.0, c.in_ok-other.ensures.same both.1 words met h.named forced same)) h.present h.fated in
    record { present = next.0; named = named; forced = forced; fated = next.1 }

pub returns-clause-tells : goal.returns-clause-tells
returns-clause-tells c = λ way words met h.
    let after = met ++ c.args.packet.now ∷ [] in
    let forced = c.in_ok-came.ensures.stands met h.forced in
    let same : c.in_ok-came.came ≡ false → SameInForce met c.args.packet.now = λ none. c.in_ok-came.ensures.same none met h.forced in
    let named = c.in_ok-other.ensures.stands words met h.named forced same in
    let next = c.in_ok-renew_where.ensures.stands way words met c.args.packet.now forced named
    (λ none. let both = neither c.in_ok-came.came c.in_ok-other.other (sym c.either-changed.ensures ∙ none) in
    (same both.0, c.in_ok-other.ensures.same both.1 words met h.named forced same)) h.present h.fated in
    c.action.ensures.tells c.renew_where.new.present (pat_of after) (λ other. pmt_of other after) next.1
    ∙ ap (λ (p : Present). action_of p.way p.services (pat_of after) (λ other. pmt_of other after) c.pid.result) next.0
    ∙ ap (λ n. action_of way (services_after words after) (pat_of after) (λ other. pmt_of other after) n) c.pid.ensures.field
    ∙ action-after way words after (pid_of c.args.packet.now)

pub returns-clause-same : goal.returns-clause-same
returns-clause-same c = λ none way words met h.
    let forced = c.in_ok-came.ensures.stands met h.forced in
    let same : c.in_ok-came.came ≡ false → SameInForce met c.args.packet.now = λ n. c.in_ok-came.ensures.same n met h.forced in
    let both = neither c.in_ok-came.came c.in_ok-other.other (sym c.either-changed.ensures ∙ none) in
    same-there way words met c.args.packet.now (same both.0) (c.in_ok-other.ensures.same both.1 words met h.named forced same)

pub returns-clause-unread : goal.returns-clause-unread
returns-clause-unread c = λ way words met h unread.
    let after = met ++ c.args.packet.now ∷ [] in
    let forced = c.in_ok-came.ensures.stands met h.forced in
    let same : c.in_ok-came.came ≡ false → SameInForce met c.args.packet.now = λ none. c.in_ok-came.ensures.same none met h.forced in
    let named = c.in_ok-other.ensures.stands words met h.named forced same in
    let next = c.in_ok-renew_where.ensures.stands way words met c.args.packet.now forced named
    (λ none. let both = neither c.in_ok-came.came c.in_ok-other.other (sym c.either-changed.ensures ∙ none) in
    (same both.0, c.in_ok-other.ensures.same both.1 words met h.named forced same)) h.present h.fated in
    unread-plain way words met c.args.packet.now c.action.result
    (c.action.ensures.tells c.renew_where.new.present (pat_of after) (λ other. pmt_of other after) next.1
    ∙ ap (λ (p : Present). action_of p.way p.services (pat_of after) (λ other. pmt_of other after) c.pid.result) next.0
    ∙ ap (λ n. action_of way (services_after words after) (pat_of after) (λ other. pmt_of other after) n) c.pid.ensures.field
    ∙ action-after way words after (pid_of c.args.packet.now)) unread
