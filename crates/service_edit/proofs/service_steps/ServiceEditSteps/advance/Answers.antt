use Rattle.std.proofs.Common.{[], ◌∷◌, ◌++◌, ap, sym, ◌∙◌}
use Rattle.plugin_options.specs.NumberSet.{has_number}
use Rattle.plugin_trait.specs.Finding.{first_of}
use Rattle.service_edit.specs.ServiceRule.{is_edited}
use Rattle.service_edit.proofs.StepLemmas.{finding, none-found, not-finding, touched, untouched}
use Rattle.service_edit.proofs.service_steps.ServiceEditSteps.advance.Goals as goal

pub returns-then-not-is_edited-clause-made : goal.returns-then-not-is_edited-clause-made
returns-then-not-is_edited-clause-made g c = λ met h.
    let old = c.args.self.now in
    let after = met ++ c.args.packet.now ∷ [] in
    untouched old.service (g.E.TableEdit.change old.edit) old.dropped met c.args.packet.now c.has.result
    (ap (λ n. is_edited old.service n after) (sym c.pid-pid.ensures.field) ∙ sym (c.is_edited.ensures.tells after (c.in_ok-feed.ensures.stands met h.forced)) ∙ c.if-not-is_edited.true)
    (c.has.ensures ∙ ap (has_number old.dropped) c.pid-pid.ensures.field)

pub returns-then-not-is_edited-clause-stands : goal.returns-then-not-is_edited-clause-stands
returns-then-not-is_edited-clause-stands g c = λ met h.
    let old = c.args.self.now in
    let after = met ++ c.args.packet.now ∷ [] in
    record {
      forced = c.in_ok-feed.ensures.stands met h.forced;
      edited = c.unfollowed_packets_change_nothing.ensures old.edit old.editors (is_edited old.service) met c.args.packet.now h.edited
          (ap (λ n. is_edited old.service n after) (sym c.pid-pid.ensures.field) ∙ sym (c.is_edited.ensures.tells after (c.in_ok-feed.ensures.stands met h.forced)) ∙ c.if-not-is_edited.true);
    }

pub returns-then-not-is_edited-clause-found : goal.returns-then-not-is_edited-clause-found
returns-then-not-is_edited-clause-found g c = λ met h.
    let old = c.args.self.now in
    let after = met ++ c.args.packet.now ∷ [] in
    none-found old.found.at c.args.at _
    (not-finding old.service (g.E.TableEdit.change old.edit) met c.args.packet.now
    (ap (λ n. is_edited old.service n after) (sym c.pid-pid.ensures.field) ∙ sym (c.is_edited.ensures.tells after (c.in_ok-feed.ensures.stands met h.forced)) ∙ c.if-not-is_edited.true))

pub returns-clause-made : goal.returns-clause-made
returns-clause-made g c = λ met h.
    let old = c.args.self.now in
    let after = met ++ c.args.packet.now ∷ [] in
    touched old.service (g.E.TableEdit.change old.edit) old.dropped met c.args.packet.now _
    (ap (λ n. is_edited old.service n after) (sym c.pid-pid.ensures.field) ∙ sym (c.is_edited.ensures.tells after (c.in_ok-feed.ensures.stands met h.forced)) ∙ c.if-not-is_edited.false)
    (c.in_ok-edited.ensures.tells (is_edited old.service) met h.edited tt).made

pub returns-clause-stands : goal.returns-clause-stands
returns-clause-stands g c = λ met h.
    let old = c.args.self.now in
    let after = met ++ c.args.packet.now ∷ [] in
    record {
      forced = c.in_ok-feed.ensures.stands met h.forced;
      edited = c.in_ok-edited.ensures.stands (is_edited old.service) met h.edited
          (ap (λ n. is_edited old.service n after) (sym c.pid-pid.ensures.field) ∙ sym (c.is_edited.ensures.tells after (c.in_ok-feed.ensures.stands met h.forced)) ∙ c.if-not-is_edited.false)
          tt;
    }

pub returns-clause-found : goal.returns-clause-found
returns-clause-found g c = λ met h.
    let old = c.args.self.now in
    let after = met ++ c.args.packet.now ∷ [] in
    c.meet.ensures
    ∙ ap (first_of old.found.at c.args.at) (finding old.service (g.E.TableEdit.change old.edit) met c.args.packet.now _
    (ap (λ n. is_edited old.service n after) (sym c.pid-pid.ensures.field) ∙ sym (c.is_edited.ensures.tells after (c.in_ok-feed.ensures.stands met h.forced)) ∙ c.if-not-is_edited.false)
    (c.in_ok-edited.ensures.tells (is_edited old.service) met h.edited tt).altered)
