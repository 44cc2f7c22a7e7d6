-- Lemmas on what is kept of all packets.
use Rattle.std.proofs.Common.{◌≡◌, ◌<◌, ◌≤◌, ℕ, arith, List, [], ◌∷◌, ◌++◌, ap, sym, ◌∙◌, Bool, true, false, Option, None, Some, if◌then◌else◌, append-nil}
use Rattle.std.proofs.lemmas.Bool.{le-leb}
use Rattle.ts_packet.specs.declared.cell.Cell.{Cell}
use Rattle.ts_packet.specs.Cells.{Dropped}
use Rattle.monitor_lines.specs.declared.monitor_error.MonitorError.{MonitorError}
use Rattle.monitor_priorities.specs.PriorityErrors.{first_errors, second_errors, third_errors}
use Rattle.monitor_priorities.specs.RowsStand.{HasSecond, HasThird}
use Rattle.monitor_priorities.specs.declared.second_rows.SecondRows.{SecondRows}
use Rattle.monitor_priorities.specs.declared.third_rows.ThirdRows.{ThirdRows}
use Rattle.monitor_services.proofs.Naming.{told-then}
use Rattle.plug_monitor.specs.MonitorErrors.{errors_on, gap_units, is_asked, second_asked, third_asked}
use Rattle.plug_monitor.specs.WatchStands.{HasSecondIf, HasThirdIf, MeetsSecondIf}
use Rattle.monitor_pcrs.specs.LastPcrs.{HasRate}
use Rattle.plugin_options.specs.declared.limits.TheConstants.{LAST_PID}
use Rattle.std.specs.Prelude.{IfSome}
use Rattle.ts_packet.specs.declared.numbers.TheConstants.{PID_COUNT}
use Rattle.plug_monitor.specs.MonitorSettings.{IsWithin}
use Rattle.plug_monitor.specs.declared.limits.TheConstants.{MOST_BITRATE}
use Rattle.plug_monitor.specs.declared.monitor_conf.MonitorConf.{MonitorConf}

-- the errors of all priorities, one after another
pub all-told : (conf : MonitorConf) (history : List Cell) (packet : List ℕ) (e0 e1 e2 e3 : List MonitorError) → e0 ≡ []
    → e1 ≡ e0 ++ first_errors (gap_units conf) conf.pcr_pid history packet → e2 ≡ e1 ++ second_asked conf history packet
    → e3 ≡ e2 ++ third_asked conf history packet → e3 ≡ errors_on conf history packet
unfolding errors_on
all-told conf history packet e0 e1 e2 e3 none one two three =
    told-then e0 (first_errors (gap_units conf) conf.pcr_pid history packet) (second_asked conf history packet ++ third_asked conf history packet) e1 e3 one
    (told-then e1 (second_asked conf history packet) (third_asked conf history packet) e2 e3 two three)
    ∙ ap (λ (es : List MonitorError). es ++ (first_errors (gap_units conf) conf.pcr_pid history packet ++ (second_asked conf history packet ++ third_asked conf history packet))) none

-- those of a priority that is asked for
pub second-told : (conf : MonitorConf) (history : List Cell) (packet : List ℕ) (before after : List MonitorError) → is_asked conf 2 ≡ true
    → after ≡ before ++ second_errors conf.bitrate conf.pcr_pid history packet → after ≡ before ++ second_asked conf history packet
second-told conf history packet before after asked is =
    is ∙ sym (ap (λ (b : Bool). before ++ (if b then second_errors conf.bitrate conf.pcr_pid history packet else [])) asked)

pub third-told : (conf : MonitorConf) (history : List Cell) (packet : List ℕ) (before after : List MonitorError) → is_asked conf 3 ≡ true
    → after ≡ before ++ third_errors conf.pcr_pid history packet → after ≡ before ++ third_asked conf history packet
third-told conf history packet before after asked is =
    is ∙ sym (ap (λ (b : Bool). before ++ (if b then third_errors conf.pcr_pid history packet else [])) asked)

-- and of one that is not
pub second-silent : (conf : MonitorConf) (history : List Cell) (packet : List ℕ) (before : List MonitorError) → is_asked conf 2 ≡ false → before ≡ before ++ second_asked conf history packet
second-silent conf history packet before unasked =
    sym (ap (λ (b : Bool). before ++ (if b then second_errors conf.bitrate conf.pcr_pid history packet else [])) unasked ∙ append-nil before)

pub third-silent : (conf : MonitorConf) (history : List Cell) (packet : List ℕ) (before : List MonitorError) → is_asked conf 3 ≡ false → before ≡ before ++ third_asked conf history packet
third-silent conf history packet before unasked =
    sym (ap (λ (b : Bool). before ++ (if b then third_errors conf.pcr_pid history packet else [])) unasked ∙ append-nil before)

-- a dropped cell leaves the rows of a priority that are kept
pub second-dropped : (conf : MonitorConf) (rows : Option SecondRows) (history : List Cell)
    → ((kept : SecondRows) → HasSecond conf.bitrate conf.pcr_pid kept history → HasSecond conf.bitrate conf.pcr_pid kept (history ++ Dropped ∷ []))
    → HasSecondIf conf rows history → HasSecondIf conf rows (history ++ Dropped ∷ [])
second-dropped conf None history dropped has = has
second-dropped conf (Some rows) history dropped has = (has.0, dropped rows has.1)

pub third-dropped : (conf : MonitorConf) (rows : Option ThirdRows) (history : List Cell)
    → ((kept : ThirdRows) → HasThird conf.pcr_pid kept history → HasThird conf.pcr_pid kept (history ++ Dropped ∷ []))
    → HasThirdIf conf rows history → HasThirdIf conf rows (history ++ Dropped ∷ [])
third-dropped conf None history dropped has = has
third-dropped conf (Some rows) history dropped has = (has.0, dropped rows has.1)

-- rows that are kept can meet a packet
pub meets-some : (conf : MonitorConf) (rows : Option SecondRows) (history : List Cell) → HasSecondIf conf rows history → MeetsSecondIf rows
meets-some conf None history has = tt
meets-some conf (Some rows) history has = has.1.rate

-- a priority is asked for up to that of the settings
pub asked-from : (conf : MonitorConf) (n : ℕ) → n ≤ conf.priority → is_asked conf n ≡ true
asked-from conf n le = le-leb n conf.priority le

-- the settings' bit rate is some, and their PID is one
pub has-rate : (bitrate : Option ℕ) → IsWithin 1 MOST_BITRATE bitrate → HasRate bitrate
has-rate None valid = tt
has-rate (Some rate) valid = valid.0

pub clock-below : (pid : Option ℕ) → IsWithin 0 LAST_PID pid → IfSome pid (λ p. p < PID_COUNT)
clock-below None valid = tt
clock-below (Some p) valid = omega (arith, valid.1)
