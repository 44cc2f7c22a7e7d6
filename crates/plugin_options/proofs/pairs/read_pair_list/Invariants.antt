use Rattle.std.proofs.Common.{◌≡◌, ◌++◌, length}
use denote.Shadow.{shadow}
use denote.Text.{Utf8}
use Rattle.std.specs.Prelude.{option_map}
use Rattle.std.specs.List.{All, slice_split}
use Rattle.plugin_options.specs.Joined.{is_comma, read_joined, read_parts}
use Rattle.plugin_options.specs.Pairs.{IsPairWithin, pair_of}
use Rattle.plugin_options.proofs.pairs.read_pair_list.Given as goal

abbrev pub invariant-loop-part : goal.invariant-loop-part
invariant-loop-part l = record {
  text : shadow (Utf8 l.rest);
  same : read_joined (pair_of l.sign l.first l.second) l.text ≡ option_map (λ later. l.pairs.items ++ later) (read_parts (pair_of l.sign l.first l.second) (slice_split is_comma l.rest));
  within : All (IsPairWithin l.first l.second) l.pairs.items;
}

abbrev pub decreases-loop-part : goal.decreases-loop-part
decreases-loop-part l = length l.rest
