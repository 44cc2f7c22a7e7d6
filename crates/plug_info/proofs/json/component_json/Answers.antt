use Rattle.std.proofs.Common.{◌∙◌}
use Rattle.ts_packet.specs.Cells.{live_packets}
use Rattle.plug_info.proofs.JsonLemmas.{tail_is}
use Rattle.plug_info.proofs.LineLemmas.{three_parts}
use Rattle.plug_info.proofs.json.component_json.Goals as goal

pub returns : goal.returns
returns c = λ cells w s.
    c.in_ok-text.ensures.ok
    ∙ three_parts _ _ _ _ _ _ c.in_ok-head.ensures c.in_ok-marks.ensures
    (c.in_ok-tail.ensures ∙ tail_is _ _ _ _ _ _ s (c.numbers_on-numbers.ensures cells w.counted) (c.users_of-users.ensures (live_packets cells) w.fed))
