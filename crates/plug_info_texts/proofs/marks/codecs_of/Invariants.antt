use Rattle.std.proofs.Common.{◌≡◌, [], drop, map}
use Rattle.std.specs.Prelude.{fold}
use Rattle.std.specs.List.{flat_map}
use Rattle.plug_info_texts.specs.Marks.{codec_in, with_new}
use Rattle.plug_info_texts.proofs.marks.codecs_of.Given as goal

-- the descriptors that are left make of the codecs so far the same as all make of none
abbrev pub invariant-loop-descriptor : goal.invariant-loop-descriptor
invariant-loop-descriptor l =
    fold with_new (map (λ t. t.now) l.codecs.items) (flat_map codec_in (drop l.descriptor-index l.descriptors))
    ≡ fold with_new [] (flat_map codec_in l.descriptors)
