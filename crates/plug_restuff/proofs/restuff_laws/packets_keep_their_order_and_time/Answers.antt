use Rattle.plug_restuff.proofs.LawLemmas.{is-restuffed}
use Rattle.plug_restuff.proofs.restuff_laws.packets_keep_their_order_and_time.Goals as goal

pub returns : goal.returns
returns c = is-restuffed
