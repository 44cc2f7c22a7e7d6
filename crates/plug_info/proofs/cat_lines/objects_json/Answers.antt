use Rattle.std.proofs.Common.{◌++◌, List, ℕ, ap, ◌∙◌, map}
use Rattle.std.specs.List.{flat_map}
use Rattle.plug_info_texts.specs.InfoJson.{after_comma}
use Rattle.plug_info.specs.InfoRule.{system_object}
use Rattle.plug_info.proofs.cat_lines.objects_json.Goals as goal

pub returns : goal.returns
returns c =
    let texts : List (List ℕ) = map system_object c.args.systems.now in
    c.in_ok-text.ensures texts
    (c.deref.ensures ∙ (c.in_ok-push_objects.ensures ∙ ap (λ (z : List ℕ). z ++ flat_map after_comma texts) c.new-items.ensures.bytes))
