use Rattle.std.proofs.Common.{List, ℕ, ◌++◌, ap, codes, ◌∙◌}
use Rattle.plug_info_texts.proofs.json_parts.array.Goals as goal

pub returns : goal.returns
returns c = λ texts is.
    c.in_ok-text.ensures.ok ∙ ap (λ (inner : List ℕ). codes "[" ++ (inner ++ codes "]")) (c.without_comma-inner.ensures texts is)
