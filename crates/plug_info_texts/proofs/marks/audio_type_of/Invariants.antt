use Rattle.std.proofs.Common.{◌≡◌, None, drop}
use Rattle.std.specs.Prelude.{fold}
use Rattle.std.specs.Option.{option_or}
use Rattle.plug_info_texts.specs.Marks.{audio_type_by}
use Rattle.plug_info_texts.proofs.marks.audio_type_of.Given as goal

-- the descriptors that are left make of what was found the same as all make of nothing
abbrev pub invariant-loop-descriptor : goal.invariant-loop-descriptor
invariant-loop-descriptor l =
    fold (λ found d. option_or found (audio_type_by d.tag d.body)) l.found (drop l.descriptor-index l.descriptors)
    ≡ fold (λ found d. option_or found (audio_type_by d.tag d.body)) None l.descriptors
