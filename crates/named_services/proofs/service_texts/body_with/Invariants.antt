use Rattle.std.proofs.Common.{◌≡◌, drop}
use Rattle.named_services.specs.SdtInForce.{body_with}
use Rattle.named_services.proofs.service_texts.body_with.Given as goal

-- the result follows from the remaining descriptors
abbrev pub invariant-loop-descriptor : goal.invariant-loop-descriptor
invariant-loop-descriptor l = body_with l.tag (drop l.descriptor-index l.descriptors) ≡ body_with l.tag l.descriptors
