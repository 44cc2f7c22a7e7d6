use Rattle.std.proofs.Common.{ℕ, List, ◌++◌, ap, sym, codes, ◌∙◌}
use Rattle.std.specs.Fmt.{decimal}
use Rattle.plug_info_texts.specs.InfoJson.{name_or_null, type_json}
use Rattle.plug_info_texts.proofs.json_texts.type_json.Goals as goal

pub returns : goal.returns
returns c =
    c.in_ok-text.ensures.ok
    ∙ (ap (λ (name : List ℕ). decimal c.in-Some.kind ++ (codes ",\"type_name\":" ++ name)) (c.in_ok-name.ensures ∙ ap name_or_null c.service_type_name.ensures)
    ∙ ap type_json (sym c.in-Some.is))
