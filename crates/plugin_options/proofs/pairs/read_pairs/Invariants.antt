use Rattle.std.proofs.Common.{◌≡◌, ◌≤◌, ◌++◌, drop, length, map}
use Rattle.std.specs.Prelude.{filter_map}
use Rattle.std.specs.List.{All, list_all}
use Rattle.plugin_options.specs.Forms.{has_form, pair}
use Rattle.plugin_options.specs.Pairs.{pair_of}
use Rattle.plugin_options.proofs.pairs.read_pairs.Given as goal

abbrev pub invariant-loop-text : goal.invariant-loop-text
invariant-loop-text l = record {
  formed : list_all (has_form (pair l.sign l.first l.second)) (map (λ text. text.now) l.texts) ≡ list_all (has_form (pair l.sign l.first l.second)) (map (λ text. text.now) (drop l.text-index l.texts));
  read : filter_map (pair_of l.sign l.first l.second) (map (λ text. text.now) l.texts) ≡ l.pairs.items ++ filter_map (pair_of l.sign l.first l.second) (map (λ text. text.now) (drop l.text-index l.texts));
  many : length l.pairs.items ≡ l.text-index;
  range : All (λ p. (p.0 ≤ l.first.1) × (p.1 ≤ l.second.1)) l.pairs.items;
}
