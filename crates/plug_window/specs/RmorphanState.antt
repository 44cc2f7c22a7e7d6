-- The settings of a value of `rmorphan`, and the cells that it stands for. This project's own rule.
use Rattle.std.specs.Prelude.{◌≡◌, ℕ, Bool, List, false, Option, None}
use Rattle.ts_packet.specs.declared.cell.Cell.{Cell}
use Rattle.ts_packet.specs.LiveRows.{live_rows, packets_in}
use Rattle.plug_psi.specs.Referred.{may_name_pids}
use Rattle.plug_psi.specs.ReferredStands.{has_failed}
use Rattle.plug_window.specs.LateState.{StandsFor}
use Rattle.plug_window.specs.declared.rmorphan.RmorphanSteps.{RmorphanSteps}
use Rattle.plug_window.specs.declared.window_conf.WindowConf.{WindowConf}

-- the settings of the plugin
abbrev pub conf_of : RmorphanSteps → WindowConf
conf_of s = record { window = s.line.late.capacity; stuffing = s.stuffing }

-- it names no number of positions at which it never runs out of memory, since its tables grow
abbrev pub preallocated_of : RmorphanSteps → Option ℕ
preallocated_of s = None

-- its delay line stands for the packets of the cells that it processed, with their labels
abbrev pub Delays : RmorphanSteps → List Cell → Type 0
Delays s history = StandsFor s.line (live_rows history)

-- whether a table that names PIDs may come with a packet on a PID, after these cells
abbrev pub may_name : ℕ → List Cell → Bool
may_name pid history = may_name_pids pid (packets_in (live_rows history))

-- its delay line stands for the packets of the cells that it processed, with their labels, unless it ran out of
-- memory
abbrev pub MeetsHistory : RmorphanSteps → List Cell → Type 0
MeetsHistory s history =
    has_failed s.line.referred ≡ false → Delays s history
