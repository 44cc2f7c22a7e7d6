-- The labels in a list of ranges. This project's own rule.
use Rattle.std.specs.Prelude.{ℕ, List}
use Rattle.ts_packet.specs.Labels.{labels_below}
use Rattle.ts_packet.specs.declared.labels.TheConstants.{LABEL_COUNT}
use Rattle.plugin_options.specs.NumberSet.{has_number}

-- the set of the numbers below 32 that lie in one of the ranges
unfoldable pub label_set : List (ℕ × ℕ) → ℕ
label_set ranges = labels_below (has_number ranges) LABEL_COUNT
