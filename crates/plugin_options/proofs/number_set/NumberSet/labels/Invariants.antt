use Rattle.std.proofs.Common.{◌≡◌}
use Rattle.ts_packet.specs.Labels.{labels_below}
use Rattle.plugin_options.specs.NumberSet.{has_number}
use Rattle.plugin_options.proofs.number_set.NumberSet.labels.Given as goal

abbrev pub invariant-loop-n : goal.invariant-loop-n
invariant-loop-n l = l.labels ≡ labels_below (has_number l.self) l.n
