use Rattle.std.proofs.Common.{◌≡◌, ◌*◌, take}
use Rattle.ts_land.specs.Opening.{AreInSync}
use Rattle.in_place.proofs.mend.mend.Given as goal

abbrev pub invariant-loop-row : goal.invariant-loop-row
invariant-loop-row l = record {
  sync : AreInSync l.row l.bytes;
  same : take (l.from * 188) l.bytes ≡ take (l.from * 188) l.fn.bytes;
}
