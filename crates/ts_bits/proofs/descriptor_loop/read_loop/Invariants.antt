use Rattle.std.proofs.Common.{◌≡◌, ◌-◌, ◌≤◌, length, drop}
use Rattle.ts_bits.specs.DescriptorLoop.{descriptors_from, descriptors_of}
use Rattle.ts_bits.proofs.Loops.{with_front}
use Rattle.ts_bits.proofs.descriptor_loop.read_loop.Given as goal

abbrev pub invariant-loop-offset : goal.invariant-loop-offset
invariant-loop-offset l = record {
  within : l.offset ≤ length l.from;
  read : with_front l.descriptors.items (descriptors_from (length (drop l.offset l.from)) l.offset (drop l.offset l.from)) ≡ descriptors_of l.from;
}

abbrev pub decreases-loop-offset : goal.decreases-loop-offset
decreases-loop-offset l = length l.from - l.offset
