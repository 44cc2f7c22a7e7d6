use Rattle.std.proofs.Common.{map}
use Rattle.ts_fields.specs.Bodies.{page}
use Rattle.ts_fields.specs.Layout.{held}
use Rattle.ts_groups.specs.Groups.{groups_in}
use Rattle.ts_groups.proofs.SoundLemmas.{chosen_each_sound}
use Rattle.ts_groups.proofs.grouped.read_grouped.Goals as goal

pub read_alone-requires-clause-sound : goal.read_alone-requires-clause-sound
read_alone-requires-clause-sound c =
    rw (c.deref-2.ensures.value, c.in_ok-rows.ensures)
    (chosen_each_sound (page c.args.layout.now) (groups_in c.args.groups.now) (map held c.deref.result.now) c.requires.sound)
