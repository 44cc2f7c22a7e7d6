use Rattle.std.proofs.Common.{[], ◌∷◌, ◌++◌, ◌∙◌, ap}
use Rattle.plug_service.specs.Presence.{is_there_after}
use Rattle.plug_service.specs.ServiceRule.{made_by}
use Rattle.plug_service.proofs.StepLemmas.{noted-after}
use Rattle.plug_service.proofs.service_steps.ServiceSteps.advance.Goals as goal

pub returns-clause-made : goal.returns-clause-made
returns-clause-made c = λ way words met h.
    c.in_ok-passes.ensures.made way words met h.edited (c.in_ok-action.ensures.tells way words met h.followed)
    (c.in_ok-action.ensures.stands way words met h.followed).present
    ∙ ap (λ f. made_by way words f met c.args.packet.now) (c.in_ok-action.ensures.tells way words met h.followed)

pub returns-clause-stands : goal.returns-clause-stands
returns-clause-stands c = λ way words met h.
    let packet = c.args.packet.now in
    let after = met ++ packet ∷ [] in
    let followed = c.in_ok-action.ensures.stands way words met h.followed in
    record {
      followed = followed;
      edited = c.in_ok-passes.ensures.stands way words met h.edited (c.in_ok-action.ensures.tells way words met h.followed) followed.present;
      noted = noted-after c.args.self.now.found c.note_where.new.found c.args.at (is_there_after way words after)
          (c.note_where.ensures way words met after followed (λ none. c.in_ok-action.ensures.same none way words met h.followed) h.noted);
    }

pub returns-clause-found : goal.returns-clause-found
returns-clause-found c = λ way words met h.
    c.note_where.ensures way words met (met ++ c.args.packet.now ∷ []) (c.in_ok-action.ensures.stands way words met h.followed)
    (λ none. c.in_ok-action.ensures.same none way words met h.followed) h.noted
