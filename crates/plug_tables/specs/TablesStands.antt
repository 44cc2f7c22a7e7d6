-- When a value of `tables` stands for the cells that it processed. This project's own rule.
use Rattle.std.specs.Prelude.{◌≡◌, ◌≤◌, Bool, false, ℕ, List, length}
use Rattle.ts_packet.specs.declared.cell.Cell.{Cell}
use Rattle.chain_model.specs.PluginRule.{PluginRule}
use Rattle.plug_tables.specs.TablesRule.{rule_with}
use Rattle.plug_tables.specs.TablesState.{TellsTables}
use Rattle.plug_tables.specs.TableReaderState.{choice_in}
use Rattle.plug_tables.specs.declared.tables.Tables.{Tables}

-- whether memory ran out
abbrev pub has_failed : Tables → Bool
has_failed s = s.failed

-- the rule of the plugin
abbrev pub rule_in : Tables → PluginRule
rule_in s = rule_with (choice_in s.reader) s.tids

-- its parts stand for the cells and the greatest mark
abbrev pub StandsFor : Tables → List Cell → ℕ → Type 0
StandsFor s history mark = TellsTables s.reader s.tids s.told.items history mark

-- a value of `tables` stands for the cells, unless memory ran out
abbrev pub MeetsHistory : Tables → List Cell → ℕ → Type 0
MeetsHistory s history mark = (has_failed s ≡ false → StandsFor s history mark) × (mark ≤ length history)
