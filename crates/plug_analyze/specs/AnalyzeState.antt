-- What a value of `analyze` keeps. This project's own rule.
use Rattle.std.specs.Prelude.{◌≡◌, ◌≤◌, ℕ, List, length}
use Rattle.ts_packet.specs.declared.cell.Cell.{Cell}
use Rattle.ts_packet.specs.Cells.{live_packets}
use Rattle.chain_model.specs.declared.positions.TheConstants.{POSITION_LIMIT}
use Rattle.plug_psi.specs.ForceStands as forcing
use Rattle.plugin_notes.specs.LastSeen.{Remembers}
use Rattle.plugin_notes.specs.NotesKept.{KeepsNotes, notes_below}
use Rattle.plugin_notes.specs.declared.last_packets.LastPackets.{LastPackets}
use Rattle.plug_analyze.specs.AnalyzeNotes.{note_on}
use Rattle.plug_analyze.specs.AnalyzeRule.{all_pids}
use Rattle.plug_analyze.specs.ServicesKept.{KeepsServices}
use Rattle.plug_analyze.specs.TotalsOf.{AreTotals}
use Rattle.plug_analyze.specs.declared.noted.Noted.{Noted}
use Rattle.plug_analyze.specs.declared.services.Services.{Services}

-- the tables in force are those of the history, and the services those of each position from the mark on
pub record Serves (services : Services) (history : List Cell) (mark : ℕ) : Type 0 where
  pub fed : forcing.StandsFor services.force (live_packets history)
  pub kept : KeepsServices services.services.items services.changes.items history mark

-- the parts stand for the cells that were processed, and for the greatest mark
pub record Analyzes (last : LastPackets) (noted : Noted) (services : Services) (history : List Cell) (mark : ℕ) : Type 0 where
  pub remembers : Remembers all_pids last history
  pub keeps : KeepsNotes note_on noted.notes.items history mark
  pub totals_are : AreTotals noted.totals (notes_below note_on mark history)
  pub serves : Serves services history mark
  pub short : length history ≤ POSITION_LIMIT

-- they stand for some list of exactly so many cells
pub record AnalyzesSome (last : LastPackets) (noted : Noted) (services : Services) (at : ℕ) : Type 0 where
  pub history : List Cell
  pub mark : ℕ
  pub stands : Analyzes last noted services history mark
  pub count : length history ≡ at
