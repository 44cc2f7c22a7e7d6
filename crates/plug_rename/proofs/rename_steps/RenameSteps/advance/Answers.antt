use Rattle.std.proofs.Common.{[], ◌∷◌, ◌++◌, ◌∙◌, ap, ap₂, refl, sym}
use Rattle.std.specs.Prelude.{is_some}
use Rattle.plugin_trait.specs.Finding.{first_of}
use Rattle.plug_rename.specs.RenameActions.{action_by}
use Rattle.plug_rename.specs.RenameRule.{made_by}
use Rattle.plug_rename.proofs.rename_steps.RenameSteps.advance.Goals as goal

pub returns-then-place-clause-tells : goal.returns-then-place-clause-tells
returns-then-place-clause-tells c = λ met h.
    let p = c.args.packet.now in
    let forced = c.in_ok-came.ensures.stands met h.forced in
    let placed = c.place_where-self.ensures met (met ++ p ∷ []) forced (λ none. (c.in_ok-came.ensures.same none met h.forced).pat) h.placed in
    (sym placed.taken ∙ c.if-place.true, refl)

pub returns-clause-tells : goal.returns-clause-tells
returns-clause-tells c = λ met h.
    let conf = c.args.self.now.conf in
    let p = c.args.packet.now in
    let forced = c.in_ok-came.ensures.stands met h.forced in
    let placed = c.place_where-self.ensures met (met ++ p ∷ []) forced (λ none. (c.in_ok-came.ensures.same none met h.forced).pat) h.placed in
    let e = c.action_on-action.ensures.tells ∙ ap₂ (action_by conf) placed.at c.pid.ensures.field in (
      sym placed.taken ∙ c.if-place.false,
      c.in_ok-edit.ensures.made conf met h.edited e forced (c.in_ok-came.ensures.pats met h.forced) ∙ ap (λ action. made_by conf action met p) e,
    )

pub returns-clause-stands : goal.returns-clause-stands
returns-clause-stands c = λ passes met h.
    let conf = c.args.self.now.conf in
    let p = c.args.packet.now in
    let forced = c.in_ok-came.ensures.stands met h.forced in
    let placed = c.place_where-self.ensures met (met ++ p ∷ []) forced (λ none. (c.in_ok-came.ensures.same none met h.forced).pat) h.placed in
    let e = c.action_on-action.ensures.tells ∙ ap₂ (action_by conf) placed.at c.pid.ensures.field in
    record {
      forced = c.in_ok-edit.ensures.force _ forced;
      placed = placed;
      edited = c.in_ok-edit.ensures.stands conf met h.edited e forced (c.in_ok-came.ensures.pats met h.forced);
    }

pub returns-clause-found : goal.returns-clause-found
returns-clause-found c = λ met h.
    let p = c.args.packet.now in
    let forced = c.in_ok-came.ensures.stands met h.forced in
    let placed = c.place_where-self.ensures met (met ++ p ∷ []) forced (λ none. (c.in_ok-came.ensures.same none met h.forced).pat) h.placed in
    c.meet.ensures ∙ ap (first_of c.args.self.now.found.at c.args.at) (c.is_some.ensures ∙ ap is_some placed.at)
