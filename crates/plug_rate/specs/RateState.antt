-- What a value of `rate` keeps, and the cells that it stands for. This project's own rule.
use Rattle.std.specs.Prelude.{◌≤◌, ℕ, List, length, Option, None}
use Rattle.ts_packet.specs.declared.cell.Cell.{Cell}
use Rattle.chain_model.specs.declared.positions.TheConstants.{POSITION_LIMIT}
use Rattle.plugin_notes.specs.NotesKept.{KeepsNotes, notes_below}
use Rattle.plug_rate.specs.Measures.{judged_on}
use Rattle.plug_rate.specs.MeterSteps.{IsMeter}
use Rattle.plug_rate.specs.Summing.{IsSummed}
use Rattle.plug_rate.specs.declared.judged.Judged.{Judged}
use Rattle.plug_rate.specs.declared.limits.TheConstants.{MOST_INTERVAL}
use Rattle.plug_rate.specs.declared.meter.Meter.{Meter}
use Rattle.plug_rate.specs.declared.rate.Rate.{Rate}
use Rattle.plug_rate.specs.declared.rate_conf.RateConf.{RateConf}
use Rattle.plug_rate.specs.declared.sums.Sums.{Sums}

-- the interval can be counted in
pub record IsInterval (interval : ℕ) : Type 0 where
  pub some : 1 ≤ interval
  pub most : interval ≤ MOST_INTERVAL

-- measurements before the mark are in the sums, those from the mark on are in the notes, and what is counted since is in the
-- meter
pub record Follows (conf : RateConf) (notes : List Judged) (sums : Sums) (meter : Meter) (history : List Cell) (mark : ℕ) : Type 0 where
  pub interval : IsInterval conf.interval
  pub keeps : KeepsNotes (judged_on conf) notes history mark
  pub summed : IsSummed sums (notes_below (judged_on conf) mark history)
  pub metered : IsMeter conf meter history
  pub short : length history ≤ POSITION_LIMIT

-- the settings of the plugin
abbrev pub conf_of : Rate → RateConf
conf_of s = record { interval = s.interval; pid = s.pids; bounds = s.bounds; pcr_pid = s.pcr_pid }

-- its parts stand for the cells that were processed, and for the greatest mark
abbrev pub StandsFor : Rate → List Cell → ℕ → Type 0
StandsFor s history mark = Follows (conf_of s) s.notes.items s.sums s.meter history mark

-- it names no number of positions at which it never runs out of memory, since its lines need memory at a mark
abbrev pub preallocated_of : Rate → Option ℕ
preallocated_of s = None

-- for how many notes it has room
abbrev pub room_of : Rate → ℕ
room_of s = s.notes.capacity

-- it has no room for one more note
abbrev pub IsFull : Rate → Type 0
IsFull s = room_of s ≤ length s.notes.items

-- one measurement is on no PID
abbrev pub no_pid : Judged → ℕ
no_pid judged = 0
