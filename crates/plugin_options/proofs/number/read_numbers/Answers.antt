use Rattle.std.proofs.Common.{◌∙◌, ◌≤◌, ◌+◌, ◌++◌, ◌∷◌, [], None, Some, ap, append_assoc, drop, map, refl, rules, sym}
use Rattle.std.specs.Prelude.{filter_map}
use Rattle.std.proofs.lemmas.List.Elements.{All-push}
use Rattle.plugin_options.specs.Number.{number_within}
use Rattle.plugin_options.proofs.OperandLemmas.{formed_step, read_step}
use Rattle.plugin_options.proofs.number.read_numbers.Goals as goal

pub returns-in_default-clause-reads : goal.returns-in_default-clause-reads
returns-in_default-clause-reads c = (
  refl,
  c.loop-text.invariant.formed ∙ formed_step (number_within c.args.least c.args.most) c.args.texts.now c.loop-text.text-index _ c.loop-text-test.true None c.in_default.ensures.value,
)

pub loop-text-preserved : goal.loop-text-preserved
loop-text-preserved c = record {
  formed = c.loop-text.invariant.formed ∙ formed_step (number_within c.args.least c.args.most) c.args.texts.now c.loop-text.text-index _ c.loop-text-test.true (Some c.in-Some.number) c.in-Some.ensures.value;
  read = c.loop-text.invariant.read
      ∙ ap (λ later. c.loop-text.numbers.items ++ later) (read_step (number_within c.args.least c.args.most) c.args.texts.now c.loop-text.text-index _ c.loop-text-test.true (Some c.in-Some.number) c.in-Some.ensures.value)
      ∙ sym (append_assoc c.loop-text.numbers.items (c.in-Some.number ∷ []) _)
      ∙ ap (λ numbers. numbers ++ filter_map (number_within c.args.least c.args.most) (map (λ text. text.now) (drop (c.loop-text.text-index + 1) c.args.texts.now))) (sym c.in_ok-push.ensures.items);
  many = search rules;
  range = rw c.in_ok-push.ensures.items (All-push (λ n. (c.args.least ≤ n) × (n ≤ c.args.most)) _ _ c.loop-text.invariant.range c.in-Some.ensures.range);
}
