use Rattle.std.proofs.Common.{◌≡◌, take}
use Rattle.ts_testgen.specs.Mixed as mix
use Rattle.ts_testgen.proofs.mixed.mixed_bytes.Given as goal

-- the bytes so far
abbrev pub invariant-loop-k : goal.invariant-loop-k
invariant-loop-k l = take l.k l.byte-items ≡ mix.mixed_bytes l.r l.k
