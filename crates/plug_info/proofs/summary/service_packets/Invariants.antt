use Rattle.std.proofs.Common.{◌≡◌, ◌+◌, List, if◌then◌else◌}
use Rattle.std.specs.Prelude.{option_map}
use Rattle.std.specs.List.{fold}
use Rattle.std.specs.Option.{option_copied}
use Rattle.ts_packet.specs.declared.cell.Cell.{Cell}
use Rattle.ts_packet.specs.Cells.{live_packets}
use Rattle.ts_psi.specs.PsiTables.{pmt_held}
use Rattle.plugin_notes.specs.PidPackets.{numbers_below, packets_on}
use Rattle.plug_info.specs.InfoRule.{has_component}
use Rattle.plug_info_state.specs.Tracked.{Tracks}
use Rattle.plug_info.proofs.summary.service_packets.Given as goal

abbrev pub invariant-loop-pid : goal.invariant-loop-pid
invariant-loop-pid l = (cells : List Cell) → Tracks l.tracker cells
    → l.packets ≡ fold (λ n q. n + (if has_component (option_map pmt_held (option_copied l.pmt)) q then packets_on q (live_packets cells) else 0)) 0 (numbers_below l.pid)
