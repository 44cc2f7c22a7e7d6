-- The cell in whose place an earlier packet is output. This project's own rule.
use Rattle.ts_packet.specs.declared.cell.Cell.{Cell}
use Rattle.ts_packet.specs.Cells.{Live, Dropped}
use Rattle.plugin_trait.specs.declared.outcome.Outcome.{Outcome}
use Rattle.plugin_trait.specs.declared.outcome.Outcome.TheVariants.{Pass, Drop}

-- the outcome of a step that leaves this cell, after which the list goes on
abbrev pub outcome_word : Cell → Outcome
outcome_word (Live packet labels) = Pass
outcome_word Dropped = Drop
