use Rattle.monitor_keys.proofs.Naming.{one_beginning}
use Rattle.monitor_keys.proofs.key_laws.a_key_has_one_beginning.Goals as goal

pub returns : goal.returns
returns c = λ named cells n m one other. one_beginning named cells n m one other
