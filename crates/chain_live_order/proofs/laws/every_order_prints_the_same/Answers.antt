use Rattle.chain_live_order.proofs.OrderLaws.{prints-same}
use Rattle.chain_live_order.proofs.laws.every_order_prints_the_same.Goals as goal

pub returns : goal.returns
returns c plan plugins input users visits w kept given = prints-same plan plugins input users visits kept w given
