use Rattle.std.proofs.Common.{◌≡◌, take}
use Rattle.ts_bits.proofs.descriptor_loop.DescriptorList.copy.Given as goal

abbrev pub invariant-loop-descriptor : goal.invariant-loop-descriptor
invariant-loop-descriptor l = l.descriptors.items ≡ take l.descriptor-index l.held
