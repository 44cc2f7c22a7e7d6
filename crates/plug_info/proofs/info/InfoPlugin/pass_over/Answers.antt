use Rattle.std.proofs.Common.{Bool, ap}
use Rattle.plug_info.specs.InfoRule.{info_rule}
use Rattle.plug_info.specs.declared.info_conf.InfoConf.{InfoConf}
use Rattle.plug_info.proofs.info.InfoPlugin.pass_over.Goals as goal

pub returns-clause-same_rule : goal.returns-clause-same_rule
returns-clause-same_rule c = ap (λ (j : Bool). let conf : InfoConf = record { json = j } in info_rule conf) c.meet.ensures.same
