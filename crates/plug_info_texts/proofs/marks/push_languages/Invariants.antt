use Rattle.std.proofs.Common.{◌≡◌, map}
use Rattle.std.specs.Prelude.{fold}
use Rattle.std.specs.List.{flat_map}
use Rattle.plugin_notes.specs.PidPackets.{numbers_below}
use Rattle.plug_info_texts.specs.Marks.{language_at, with_new}
use Rattle.plug_info_texts.proofs.marks.push_languages.Given as goal

-- the languages are those of before with those of the offsets so far
abbrev pub invariant-loop-place : goal.invariant-loop-place
invariant-loop-place l =
    map (λ t. t.now) l.languages.items ≡ fold with_new (map (λ t. t.now) l.fn.languages.items) (flat_map (language_at l.step l.body) (numbers_below l.place))
