use Rattle.std.proofs.Common.{◌∙◌}
use Rattle.named_services.proofs.SdtLemmas.{chosen-is}
use Rattle.named_services.proofs.sdt_in_force.SdtInForce.in_force.Goals as goal

pub returns : goal.returns
returns c = λ fed w. c.chosen.ensures ∙ chosen-is c.args.self.now fed c.args.stream_id w
