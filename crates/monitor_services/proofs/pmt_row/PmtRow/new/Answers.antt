use Rattle.std.proofs.Common.{refl}
use Rattle.plug_psi.specs.InForce.{follows}
use Rattle.monitor_services.specs.PmtErrors.{pmt_rule}
use Rattle.monitor_services.proofs.Naming.{no-pmts-named}
use Rattle.monitor_services.proofs.pmt_row.PmtRow.new.Goals as goal

pub returns : goal.returns
returns c = λ pcr_pid. record {
  keys_are = c.new.ensures (pmt_rule pcr_pid) refl no-pmts-named;
  have_read = c.new-2.ensures tt follows;
}
