use Rattle.std.proofs.Common.{◌%◌, ap, length, sym, ◌∙◌, Some}
use Rattle.plug_edit.specs.PmtChanges.{body_of, is_language, language_with}
use Rattle.plug_edit.proofs.ChangingLemmas.{found_at, found_passes, none_at}
use Rattle.plug_edit.proofs.LanguageLemmas.{items_whole}
use Rattle.plug_edit.proofs.language.language_at.Goals as goal

pub spoken_in-requires-clause-items : goal.spoken_in-requires-clause-items
spoken_in-requires-clause-items c =
    ap (λ body. length body % 4) c.body.ensures.body
    ∙ items_whole c.index-descriptors-place.result (found_passes is_language c.args.descriptors.now c.index-descriptors-place.result
    (found_at is_language c.args.descriptors.now c.in-Some.place c.index-descriptors-place.result (sym c.in-Some.is ∙ c.requires.place) ∙ ap Some (sym c.index-descriptors-place.is)))

pub returns-in_ok-changed-in-Some : goal.returns-in_ok-changed-in-Some
returns-in_ok-changed-in-Some c =
    c.in_ok-changed-in-Some.ensures
    ∙ ap (language_with c.args.code.now) c.body.ensures.body
    ∙ ap (λ found. language_with c.args.code.now (body_of found)) (ap Some c.index-descriptors-place.is ∙ sym (found_at is_language c.args.descriptors.now c.in-Some.place c.index-descriptors-place.result (sym c.in-Some.is ∙ c.requires.place)))

pub returns-in_ok-fresh-in-None : goal.returns-in_ok-fresh-in-None
returns-in_ok-fresh-in-None c =
    c.in_ok-fresh-in-None.ensures
    ∙ ap (λ found. language_with c.args.code.now (body_of found)) (sym (none_at is_language c.args.descriptors.now (sym c.in-None.is ∙ c.requires.place)))
