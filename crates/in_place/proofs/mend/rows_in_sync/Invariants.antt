use Rattle.ts_land.specs.Opening.{AreInSync}
use Rattle.in_place.proofs.mend.rows_in_sync.Given as goal

abbrev pub invariant-loop-row : goal.invariant-loop-row
invariant-loop-row l = AreInSync l.row l.bytes
