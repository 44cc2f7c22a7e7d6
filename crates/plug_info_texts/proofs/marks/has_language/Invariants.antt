use Rattle.std.proofs.Common.{◌≡◌, drop, map}
use Rattle.plug_info_texts.specs.Marks.{has_text}
use Rattle.plug_info_texts.proofs.marks.has_language.Given as goal

-- the result follows from the remaining ones
abbrev pub invariant-loop-held : goal.invariant-loop-held
invariant-loop-held l = has_text (map (λ t. t.now) (drop l.held-index l.languages)) l.language ≡ has_text (map (λ t. t.now) l.languages) l.language
