use Rattle.std.proofs.Common.{ap, ◌∙◌}
use Rattle.plug_info.specs.CaSystems.{cat_systems}
use Rattle.plug_info.proofs.pid_uses.PidUses.of.Goals as goal

pub returns : goal.returns
returns c = λ fed f k. record {
  pcr = c.in_ok-pcr.ensures fed f;
  ecm = c.in_ok-ecm.ensures fed f;
  emm = c.in_ok-emm.ensures ∙ ap cat_systems k;
}
