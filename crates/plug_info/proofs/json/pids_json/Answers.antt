use Rattle.std.proofs.Common.{ℕ, ◌++◌, List, ap, ◌∙◌}
use Rattle.std.specs.List.{flat_map}
use Rattle.ts_packet.specs.declared.numbers.TheConstants.{PID_COUNT}
use Rattle.plugin_notes.specs.PidPackets.{numbers_below}
use Rattle.plug_info_texts.specs.InfoJson.{after_comma}
use Rattle.plug_info.specs.InfoRule.{pid_objects}
use Rattle.plug_info_texts.proofs.JsonLemmas.{flat_flat}
use Rattle.plug_info.proofs.json.pids_json.Goals as goal

pub returns : goal.returns
returns c = λ cells w s.
    c.in_ok-text.ensures (flat_map (pid_objects cells) (numbers_below PID_COUNT))
    (c.deref.ensures
    ∙ (c.in_ok-push_pids.ensures cells w s
    ∙ (ap (λ (z : List ℕ). z ++ flat_map (λ pid. flat_map after_comma (pid_objects cells pid)) (numbers_below PID_COUNT)) c.new-items.ensures.bytes
    ∙ flat_flat after_comma (pid_objects cells) (numbers_below PID_COUNT))))
