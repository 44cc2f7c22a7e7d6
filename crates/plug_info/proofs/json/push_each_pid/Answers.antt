use Rattle.std.proofs.Common.{sym, append-nil}
use Rattle.std.specs.List.{flat_map}
use Rattle.plugin_notes.specs.PidPackets.{numbers_below}
use Rattle.plug_info_texts.specs.InfoJson.{after_comma}
use Rattle.plug_info.specs.InfoRule.{pid_objects}
use Rattle.plug_info.proofs.ItemLemmas.{text_more}
use Rattle.plug_info.proofs.json.push_each_pid.Goals as goal

pub loop-pid-init : goal.loop-pid-init
unfolding numbers_below
loop-pid-init c = λ cells w u s. sym (append-nil _)

pub loop-pid-preserved : goal.loop-pid-preserved
loop-pid-preserved c = λ cells w u s.
    text_more (λ pid. flat_map after_comma (pid_objects cells pid)) c.loop-pid.pid _ _ _ (c.loop-pid.invariant cells w u s) (c.in_ok-push_pid.ensures cells w u s)
