use Rattle.std.proofs.Common.{◌≡◌, ◌++◌, ◌+◌, ◌≤◌, length}
use denote.Shadow.{shadow}
use denote.Text.{Utf8}
use Rattle.std.specs.Prelude.{option_map}
use Rattle.std.specs.List.{All, slice_split}
use Rattle.plugin_options.specs.NumberSet.{AllBelow, IsOrderedPair}
use Rattle.plugin_options.specs.Joined.{is_comma, read_joined, read_parts}
use Rattle.plugin_options.specs.Ranges.{range_of}
use Rattle.plugin_options.proofs.ranges.read_ranges.Given as goal

abbrev pub invariant-loop-part : goal.invariant-loop-part
invariant-loop-part l = record {
  text : shadow (Utf8 l.rest);
  same : read_joined (range_of l.least l.most) l.text ≡ option_map (λ later. l.pairs.items ++ later) (read_parts (range_of l.least l.most) (slice_split is_comma l.rest));
  ordered : All IsOrderedPair l.pairs.items;
  below : AllBelow (l.most + 1) l.pairs.items;
  above : All (λ pair. l.least ≤ pair.0) l.pairs.items;
}

abbrev pub decreases-loop-part : goal.decreases-loop-part
decreases-loop-part l = length l.rest
