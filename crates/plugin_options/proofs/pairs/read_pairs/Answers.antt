use Rattle.std.proofs.Common.{◌∙◌, ◌≤◌, ◌+◌, ◌++◌, ◌∷◌, [], None, Some, ap, append_assoc, drop, map, refl, rules, sym}
use Rattle.std.specs.Prelude.{filter_map}
use Rattle.std.proofs.lemmas.List.Elements.{All-push}
use Rattle.plugin_options.specs.Pairs.{pair_of}
use Rattle.plugin_options.proofs.OperandLemmas.{formed_step, read_step}
use Rattle.plugin_options.proofs.pairs.read_pairs.Goals as goal

pub returns-in_default-clause-reads : goal.returns-in_default-clause-reads
returns-in_default-clause-reads c = (
  refl,
  c.loop-text.invariant.formed ∙ formed_step (pair_of c.args.sign c.args.first c.args.second) c.args.texts.now c.loop-text.text-index _ c.loop-text-test.true None c.in_default.ensures.value,
)

pub loop-text-preserved : goal.loop-text-preserved
loop-text-preserved c = record {
  formed = c.loop-text.invariant.formed ∙ formed_step (pair_of c.args.sign c.args.first c.args.second) c.args.texts.now c.loop-text.text-index _ c.loop-text-test.true (Some c.in-Some.pair) c.in-Some.ensures.value;
  read = c.loop-text.invariant.read
      ∙ ap (λ later. c.loop-text.pairs.items ++ later) (read_step (pair_of c.args.sign c.args.first c.args.second) c.args.texts.now c.loop-text.text-index _ c.loop-text-test.true (Some c.in-Some.pair) c.in-Some.ensures.value)
      ∙ sym (append_assoc c.loop-text.pairs.items (c.in-Some.pair ∷ []) _)
      ∙ ap (λ pairs. pairs ++ filter_map (pair_of c.args.sign c.args.first c.args.second) (map (λ text. text.now) (drop (c.loop-text.text-index + 1) c.args.texts.now))) (sym c.in_ok-push.ensures.items);
  many = search rules;
  range = rw c.in_ok-push.ensures.items (All-push (λ p. (p.0 ≤ c.args.first.1) × (p.1 ≤ c.args.second.1)) _ _ c.loop-text.invariant.range (c.in-Some.ensures.first_range.1, c.in-Some.ensures.second_range.1));
}
