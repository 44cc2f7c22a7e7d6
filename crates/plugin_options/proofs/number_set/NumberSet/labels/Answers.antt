use Rattle.std.proofs.Common.{◌≡◌, ℕ, ◌∙◌, ap, arith}
use Rattle.ts_packet.specs.Labels.{labels_below}
use Rattle.plugin_options.specs.LabelSet.{label_set}
use Rattle.plugin_options.specs.NumberSet.{has_number}
use Rattle.plugin_options.proofs.number_set.NumberSet.labels.Goals as goal

pub returns : goal.returns
unfolding label_set
returns c =
    let at_end : c.loop-n.n ≡ 32 = omega arith in
    c.loop-n.invariant ∙ ap (λ (n : ℕ). labels_below (has_number c.args.self.now) n) at_end
