-- The errors of a packet, by the settings of `monitor`: ETSI TR 101 290, 5.2.1 to 5.2.3, those that packets tell of. That a priority
-- is asked for is this project's own rule.
use Rattle.std.specs.Prelude.{ℕ, ◌*◌, List, [], nat_le, Bool, if◌then◌else◌, ◌++◌}
use Rattle.ts_packet.specs.declared.cell.Cell.{Cell}
use Rattle.monitor_lines.specs.declared.monitor_error.MonitorError.{MonitorError}
use Rattle.monitor_priorities.specs.PriorityErrors.{first_errors, second_errors, third_errors}
use Rattle.plug_monitor.specs.declared.limits.TheConstants.{MILLISECOND}
use Rattle.plug_monitor.specs.declared.monitor_conf.MonitorConf.{MonitorConf}

-- how long a PID of a service may be without a packet, in units of the 27 MHz clock
abbrev pub gap_units : MonitorConf → ℕ
gap_units conf = conf.pid_gap * MILLISECOND

-- a priority is asked for
abbrev pub is_asked : MonitorConf → ℕ → Bool
is_asked conf priority = nat_le priority conf.priority

-- its errors are told where it is
abbrev pub second_asked : MonitorConf → List Cell → List ℕ → List MonitorError
second_asked conf history packet = if is_asked conf 2 then second_errors conf.bitrate conf.pcr_pid history packet else []

abbrev pub third_asked : MonitorConf → List Cell → List ℕ → List MonitorError
third_asked conf history packet = if is_asked conf 3 then third_errors conf.pcr_pid history packet else []

-- all errors of a packet after the cells met, in the order of the indicators' numbers
unfoldable pub errors_on : MonitorConf → List Cell → List ℕ → List MonitorError
errors_on conf history packet =
    first_errors (gap_units conf) conf.pcr_pid history packet ++ (second_asked conf history packet ++ third_asked conf history packet)
