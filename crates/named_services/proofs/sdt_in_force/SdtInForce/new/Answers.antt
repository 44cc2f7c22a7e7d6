use Rattle.named_services.proofs.SdtLemmas.{sdt-new}
use Rattle.named_services.proofs.sdt_in_force.SdtInForce.new.Goals as goal

pub returns : goal.returns
returns c = sdt-new _ c.in_ok-tables.ensures c.new-2.ensures.each c.new-2.ensures.last
