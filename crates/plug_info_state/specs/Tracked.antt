-- What the tracker keeps of the cells that count. This project's own rule.
use Rattle.std.specs.Prelude.{◌≡◌, ◌<◌, ℕ, List, length}
use Rattle.ts_packet.specs.declared.cell.Cell.{Cell}
use Rattle.ts_packet.specs.Cells.{live_packets}
use Rattle.ts_packet.specs.MetRows.{met_rows}
use Rattle.chain_model.specs.declared.positions.TheConstants.{POSITION_LIMIT}
use Rattle.plugin_notes.specs.LastSeen.{Remembers}
use Rattle.plug_psi.specs.ForceStands as forcing
use Rattle.plug_analyze.specs.AnalyzeRule.{all_pids}
use Rattle.plug_info_state.specs.ClockSpans.{AreSpans}
use Rattle.plug_info_state.specs.ExtentKept.{kept_extent}
use Rattle.plug_info_state.specs.OtherStands.{HasFedOthers}
use Rattle.plug_info_state.specs.SdtStands.{HasFedTables}
use Rattle.plug_info_state.specs.CountsOf.{AreCounted}
use Rattle.plug_info_state.specs.declared.tracker.Tracker.{Tracker}

-- each part stands for these cells
pub record Tracks (tracker : Tracker) (cells : List Cell) : Type 0 where
  pub remembers : Remembers all_pids tracker.last cells
  pub counted : AreCounted tracker.counts cells
  pub spans_are : AreSpans tracker.spans cells
  pub extent_is : tracker.extent ≡ kept_extent (met_rows cells)
  pub has_sdt : HasFedTables tracker.sdt (live_packets cells)
  pub has_others : HasFedOthers tracker.others (live_packets cells)
  pub fed : forcing.StandsFor tracker.force (live_packets cells)

-- the parts stand for some list of exactly `at` cells, and one more cell is allowed
pub record TracksSome (tracker : Tracker) (at : ℕ) : Type 0 where
  pub cells : List Cell
  pub tracks : Tracks tracker cells
  pub count : length cells ≡ at
  pub few : length cells < POSITION_LIMIT
