use Rattle.std.proofs.Common.{refl}
use Rattle.monitor_services.proofs.SdtFeeding.{sdt-new}
use Rattle.monitor_services.proofs.current_sdt.CurrentSdt.new.Goals as goal

pub returns : goal.returns
returns c = sdt-new _ c.in_ok-tables.ensures refl
