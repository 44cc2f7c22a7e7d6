-- Where `inject` inserts packets. This project's own rule. The packets that the plugin processed are numbered from 0;
-- those that were dropped before have no number.
use Rattle.std.specs.Prelude.{ℕ, List, [], ◌∷◌, length, if◌then◌else◌}
use Rattle.ts_packet.specs.declared.cell.Cell.{Cell}
use Rattle.ts_packet.specs.Cells.{live_packets}
use Rattle.chain_model.specs.Apply.{apply}
use Rattle.plug_inject.specs.InjectRule.{Injection, inject_rule, injection_of, is_replaced, replaced_among}
use Rattle.plug_inject.specs.declared.inject_conf.InjectConf.{InjectConf}

-- the numbers of the replaced packets among those after others, of which the newest stands first
abbrev pub places_after : Injection → List (List ℕ) → List (List ℕ) → List ℕ
places_after how older [] = []
places_after how older (packet ∷ packets) =
    if is_replaced how (replaced_among how older) packet
    then length older ∷ places_after how (packet ∷ older) packets
    else places_after how (packet ∷ older) packets

-- the numbers of the replaced packets in a list of cells
abbrev pub places_in : InjectConf → List (List ℕ) → List Cell → List ℕ
places_in conf sections cells = places_after (injection_of conf sections) [] (live_packets cells)

-- the output packets of the plugin for a list of cells
abbrev pub injected_packets : InjectConf → List (List ℕ) → List Cell → List (List ℕ)
injected_packets conf sections cells = live_packets (apply (inject_rule conf sections) cells).cells
