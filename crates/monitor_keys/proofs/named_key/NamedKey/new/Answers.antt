use Rattle.std.proofs.Common.{sym}
use Rattle.monitor_keys.proofs.named_key.NamedKey.new.Goals as goal

pub returns : goal.returns
returns c = λ rule named limit none. record { limit_is = sym limit; key_is = none }
