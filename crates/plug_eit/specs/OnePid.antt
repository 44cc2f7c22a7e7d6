-- What `eit` does where the service is given by its number: the packets on PID 18 say all.
-- This project's own rule.
use Rattle.std.specs.Prelude.{ℕ, ◌&&◌, Bool, List, Some, if◌then◌else◌}
use Rattle.std.specs.List.{list_any}
use Rattle.ts_packet.specs.declared.cell.Cell.{Cell}
use Rattle.ts_packet.specs.Cells.{live_packets}
use Rattle.ts_demux.specs.TablesOn.{packets_on}
use Rattle.section_flow.specs.Flow.{Edit, alters, completed_by, replaced}
use Rattle.plug_eit.specs.EitEdit.{edited_section}
use Rattle.plug_eit.specs.EitRule.{is_eit}
use Rattle.plug_eit.specs.declared.eit_conf.EitConf.{EitConf}
use Rattle.plug_eit.specs.declared.numbers.TheConstants.{EIT_PID}

-- what becomes of the sections, whatever was met
abbrev pub numbered_edit : EitConf → ℕ → Edit
numbered_edit conf id = λ _. edited_section conf (Some id)

-- the live packets on the PID of EITs among some cells
abbrev pub eit_packets : List Cell → List (List ℕ)
eit_packets history = packets_on EIT_PID (live_packets history)

-- the packet in place of another, after these cells, by the packets on that PID
abbrev pub numbered_made : EitConf → ℕ → List Cell → List ℕ → List ℕ
numbered_made conf id history packet =
    if is_eit packet then replaced EIT_PID (numbered_edit conf id) (eit_packets history) packet else packet

-- a packet completes a section that the edit changes or removes, by the packets on that PID
abbrev pub numbered_finds : EitConf → ℕ → List Cell → List ℕ → ℕ → Bool
numbered_finds conf id history packet labels =
    is_eit packet && list_any (alters (edited_section conf (Some id))) (completed_by EIT_PID (eit_packets history) packet)
