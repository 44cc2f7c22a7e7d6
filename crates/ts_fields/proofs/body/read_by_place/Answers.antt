use Rattle.ts_fields.proofs.ReadLemmas.{left_true, right_true}
use Rattle.ts_fields.proofs.body.read_by_place.Goals as goal

pub read_counted-requires-clause-rows : goal.read_counted-requires-clause-rows
read_counted-requires-clause-rows c = right_true _ _ (left_true _ _ c.requires.sound)
