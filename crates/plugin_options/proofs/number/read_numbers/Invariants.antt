use Rattle.std.proofs.Common.{◌≡◌, ◌≤◌, ◌++◌, drop, length, map}
use Rattle.std.specs.Prelude.{filter_map}
use Rattle.std.specs.List.{All, list_all}
use Rattle.plugin_options.specs.Forms.{has_form, number}
use Rattle.plugin_options.specs.Number.{number_within}
use Rattle.plugin_options.proofs.number.read_numbers.Given as goal

abbrev pub invariant-loop-text : goal.invariant-loop-text
invariant-loop-text l = record {
  formed : list_all (has_form (number l.least l.most)) (map (λ text. text.now) l.texts) ≡ list_all (has_form (number l.least l.most)) (map (λ text. text.now) (drop l.text-index l.texts));
  read : filter_map (number_within l.least l.most) (map (λ text. text.now) l.texts) ≡ l.numbers.items ++ filter_map (number_within l.least l.most) (map (λ text. text.now) (drop l.text-index l.texts));
  many : length l.numbers.items ≡ l.text-index;
  range : All (λ n. (l.least ≤ n) × (n ≤ l.most)) l.numbers.items;
}
