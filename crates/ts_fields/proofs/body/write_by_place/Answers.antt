use Rattle.ts_fields.specs.Bodies.{page}
use Rattle.ts_fields.proofs.ReadLemmas.{right_true}
use Rattle.ts_fields.proofs.LoopLemmas.{sound_back}
use Rattle.ts_fields.proofs.body.write_by_place.Goals as goal

pub write_around-requires-clause-back : goal.write_around-requires-clause-back
write_around-requires-clause-back c =
    sound_back (page c.args.layout.now).counted c.in-Some.place (page c.args.layout.now) c.in-Some.is (right_true _ _ c.requires.sound)
