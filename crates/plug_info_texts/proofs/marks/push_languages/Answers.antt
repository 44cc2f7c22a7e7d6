use Rattle.std.proofs.Common.{refl}
use Rattle.plugin_notes.specs.PidPackets.{numbers_below}
use Rattle.plug_info_texts.specs.Marks.{language_at}
use Rattle.plug_info_texts.proofs.LineLemmas.{new_more}
use Rattle.plug_info_texts.proofs.marks.push_languages.Goals as goal

pub loop-place-init : goal.loop-place-init
unfolding numbers_below
loop-place-init c = refl

pub loop-place-preserved : goal.loop-place-preserved
loop-place-preserved c =
    new_more (language_at c.args.step c.args.body.now) c.loop-place.place _ _ _ c.loop-place.invariant c.in_ok-push_language.ensures
