-- What the counter of slots and the queue of `restuff` stand for. This project's own rule.
use Rattle.std.specs.Prelude.{◌≡◌, ◌*◌, ◌%◌, ◌≤◌, List, length}
use Rattle.ts_packet.specs.declared.cell.Cell.{Cell}
use Rattle.ts_packet.specs.declared.labelled.Labelled.{Labelled}
use Rattle.ts_packet.specs.Cells.{Live, Dropped}
use Rattle.ts_packet.specs.LiveRows.{live_rows}
use Rattle.plugin_trait.specs.declared.outcome.Outcome.{Outcome}
use Rattle.plugin_trait.specs.declared.outcome.Outcome.TheVariants.{Pass, Drop}
use Rattle.plug_restuff.specs.RestuffRule.{waits_after}
use Rattle.plug_restuff.specs.Slots.{slots_before}
use Rattle.plug_restuff.specs.declared.limits.TheConstants.{LEAST_RATE, MOST_RATE}
use Rattle.plug_restuff.specs.declared.restuff.RestuffSteps.{RestuffSteps}
use Rattle.plug_restuff.specs.declared.restuff_conf.RestuffConf.{RestuffConf}
use Rattle.plug_restuff.specs.declared.slot_count.SlotCount.{SlotCount}
use Rattle.plug_restuff.specs.declared.slot_line.SlotLine.{SlotLine}

-- the rates are valid, and the numbers are those of the present cell: how many slots there are before it, and what is left
-- of the division
pub record Counts (count : SlotCount) : Type 0 where
  pub least : LEAST_RATE ≤ count.to
  pub lower : count.to ≤ count.from
  pub most : count.from ≤ MOST_RATE
  pub slots : count.slots ≡ slots_before count.from count.to count.cell
  pub part : count.part ≡ count.cell * count.to % count.from

-- the settings of a line of packets
abbrev pub conf_of : SlotLine → RestuffConf
conf_of line = record { from = line.count.from; to = line.count.to; window = line.waiting.capacity }

-- the line stands for these packets that came: it is at the cell after them, and what waits after them waits
pub record StandsFor (line : SlotLine) (rows : List Labelled) : Type 0 where
  pub counts : Counts line.count
  pub cell : line.count.cell ≡ length rows
  pub waiting : line.waiting.items ≡ waits_after (conf_of line) rows

-- the line stands for some packets that came
pub record StandsForSome (line : SlotLine) : Type 0 where
  pub rows : List Labelled
  pub stands : StandsFor line rows

-- the plugin's line stands for the packets of the cells that it met, with their labels
abbrev pub MeetsHistory : RestuffSteps → List Cell → Type 0
MeetsHistory s history = StandsFor s.line (live_rows history)

-- the outcome of a step that leaves this cell, after which the list goes on
abbrev pub outcome_word : Cell → Outcome
outcome_word (Live packet labels) = Pass
outcome_word Dropped = Drop
