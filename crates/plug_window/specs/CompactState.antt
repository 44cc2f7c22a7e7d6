-- The settings of a value of `compact`, and the cells that it stands for. This project's own rule.
use Rattle.std.specs.Prelude.{List}
use Rattle.ts_packet.specs.declared.cell.Cell.{Cell}
use Rattle.ts_packet.specs.LiveRows.{live_rows}
use Rattle.plug_window.specs.BlockState.{StandsFor}
use Rattle.plug_window.specs.declared.compact.CompactSteps.{CompactSteps}
use Rattle.plug_window.specs.declared.window_conf.WindowConf.{WindowConf}

-- the settings of the plugin
abbrev pub conf_of : CompactSteps → WindowConf
conf_of s = record { window = s.line.window; stuffing = s.stuffing }

-- its delay line stands for the packets of the cells that it processed, with their labels
abbrev pub MeetsHistory : CompactSteps → List Cell → Type 0
MeetsHistory s history = StandsFor s.line (live_rows history)
