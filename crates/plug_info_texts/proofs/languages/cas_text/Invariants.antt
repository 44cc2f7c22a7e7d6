use Rattle.std.proofs.Common.{◌≡◌, ◌++◌, drop}
use Rattle.std.specs.List.{flat_map}
use Rattle.std.specs.String.{string_bytes}
use Rattle.plug_info_texts.specs.InfoTexts.{ca_text}
use Rattle.plug_info_texts.proofs.languages.cas_text.Given as goal

-- the text so far, with the ids that are left
abbrev pub invariant-loop-id : goal.invariant-loop-id
invariant-loop-id l = string_bytes l.text ++ flat_map ca_text (drop l.id-index l.ids) ≡ flat_map ca_text l.ids
