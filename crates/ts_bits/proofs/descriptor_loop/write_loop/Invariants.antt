use Rattle.std.proofs.Common.{◌≡◌, take}
use Rattle.std.specs.Prelude.{All}
use Rattle.ts_bits.specs.TaggedBody.{IsDescriptor, loop_bytes}
use Rattle.ts_bits.proofs.descriptor_loop.write_loop.Given as goal

abbrev pub invariant-loop-descriptor : goal.invariant-loop-descriptor
invariant-loop-descriptor l = record {
  written : l.bytes.items ≡ loop_bytes (take l.descriptor-index l.descriptors);
  fit : All (λ d. IsDescriptor d) (take l.descriptor-index l.descriptors);
}
