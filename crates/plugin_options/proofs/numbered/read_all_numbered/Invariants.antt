use Rattle.std.proofs.Common.{◌≡◌, ◌++◌, length}
use denote.Shadow.{shadow}
use denote.Text.{Utf8}
use Rattle.std.specs.Prelude.{option_map}
use Rattle.std.specs.List.{All, slice_split}
use Rattle.plugin_options.specs.Joined.{is_comma, read_joined, read_parts}
use Rattle.plugin_options.specs.Parts.{IsNumbered, numbered_of}
use Rattle.plugin_options.proofs.numbered.read_all_numbered.Given as goal

abbrev pub invariant-loop-piece : goal.invariant-loop-piece
invariant-loop-piece l = record {
  text : shadow (Utf8 l.rest);
  same : read_joined (numbered_of l.sign l.range l.part) l.text ≡ option_map (λ later. l.items.items ++ later) (read_parts (numbered_of l.sign l.range l.part) (slice_split is_comma l.rest));
  within : All (IsNumbered l.range l.part) l.items.items;
}

abbrev pub decreases-loop-piece : goal.decreases-loop-piece
decreases-loop-piece l = length l.rest
