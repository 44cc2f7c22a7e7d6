use Rattle.std.proofs.Common.{ap, ◌∙◌}
use Rattle.std.specs.Prelude.{unwrap_or}
use Rattle.plug_info.specs.PidUses.{named_use}
use Rattle.plug_info.proofs.pid_uses.PidUses.name.Goals as goal

pub returns-in-Some : goal.returns-in-Some
returns-in-Some c = λ fed f u. ap (λ o. unwrap_or o (named_use fed c.args.pid)) c.in-Some.ensures

pub returns-in-None : goal.returns-in-None
returns-in-None c = λ fed f u. c.named_use.ensures fed f u ∙ ap (λ o. unwrap_or o (named_use fed c.args.pid)) c.in-None.ensures
