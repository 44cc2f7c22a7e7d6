-- What is kept of the PIDs that the tables in force name. This project's own rule.
use Rattle.std.specs.Prelude.{◌≡◌, ℕ, List}
use Rattle.plug_info.specs.CaSystems.{ecm_systems, emm_systems}
use Rattle.plug_info.specs.PidUses.{pcr_pids}
use Rattle.plug_info.specs.declared.pid_uses.PidUses.{PidUses}

-- they are those after some packets of any PID
pub record AreUses (uses : PidUses) (packets : List (List ℕ)) : Type 0 where
  pub pcr : uses.pcr.items ≡ pcr_pids packets
  pub ecm : uses.ecm.items ≡ ecm_systems packets
  pub emm : uses.emm.items ≡ emm_systems packets
