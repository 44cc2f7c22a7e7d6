use Rattle.std.proofs.Common.{◌++◌, List, ℕ, ap, ◌∙◌, map}
use Rattle.std.specs.List.{flat_map}
use Rattle.plug_info_texts.specs.InfoJson.{after_comma, language_json}
use Rattle.plug_info_texts.proofs.json_marks.languages_json.Goals as goal

pub returns : goal.returns
returns c =
    let texts : List (List ℕ) = map language_json (map (λ t. t.now) c.args.languages.now) in
    c.in_ok-text.ensures texts
    (c.deref.ensures ∙ (c.in_ok-push_languages.ensures ∙ ap (λ (z : List ℕ). z ++ flat_map after_comma texts) c.new-items.ensures.bytes))
