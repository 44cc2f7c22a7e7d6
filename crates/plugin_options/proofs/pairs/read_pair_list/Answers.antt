use Rattle.std.proofs.Common.{◌∙◌, ap, rules, sym, Some}
use Rattle.std.proofs.lemmas.List.Elements.{All-push}
use Rattle.plugin_options.specs.Pairs.{IsPairWithin, pair_of}
use Rattle.plugin_options.proofs.JoinedLemmas.{joined_begin, joined_end, joined_end_none, joined_step, joined_stop, parts_read, with_later}
use Rattle.plugin_options.proofs.pairs.read_pair_list.Goals as goal

pub loop-part-init : goal.loop-part-init
loop-part-init c = record {
  text = search rules;
  same = joined_begin (pair_of c.args.sign c.args.first c.args.second) c.args.text.now
      ∙ ap (λ pairs. with_later pairs (parts_read (pair_of c.args.sign c.args.first c.args.second) c.args.text.now)) (sym c.new-pairs.ensures.items);
  within = search rules;
}

pub loop-part-preserved : goal.loop-part-preserved
loop-part-preserved c = record {
  text = search rules;
  same = c.loop-part.invariant.same
      ∙ joined_step (pair_of c.args.sign c.args.first c.args.second) c.loop-part.pairs.items c.loop-part.rest.now c.in-Some.part.now c.in-Some.others.now c.in-Some-read_pair.pair c.in-Some.ensures.0 c.in-Some.ensures.1 c.in-Some.ensures.2 c.in-Some-read_pair.ensures.value
      ∙ ap (λ pairs. with_later pairs (parts_read (pair_of c.args.sign c.args.first c.args.second) c.in-Some.others.now)) (sym c.in_ok-push.ensures.items);
  within = rw c.in_ok-push.ensures.items (All-push (IsPairWithin c.args.first c.args.second) _ _ c.loop-part.invariant.within (c.in-Some-read_pair.ensures.first_range.0, c.in-Some-read_pair.ensures.first_range.1, c.in-Some-read_pair.ensures.second_range.0, c.in-Some-read_pair.ensures.second_range.1));
}

pub returns-in_default-read_pair-clause-value : goal.returns-in_default-read_pair-clause-value
returns-in_default-read_pair-clause-value c =
    sym (c.loop-part.invariant.same ∙ joined_stop (pair_of c.args.sign c.args.first c.args.second) c.loop-part.pairs.items c.loop-part.rest.now c.in-Some.part.now c.in-Some.ensures.0 c.in-Some.ensures.1 c.in_default-read_pair.ensures.value)

pub returns-in_default-read_pair-2-clause-value : goal.returns-in_default-read_pair-2-clause-value
returns-in_default-read_pair-2-clause-value c =
    sym (c.loop-part.invariant.same ∙ joined_end_none (pair_of c.args.sign c.args.first c.args.second) c.loop-part.pairs.items c.loop-part.rest.now c.in_default.ensures c.in_default-read_pair-2.ensures.value)

pub returns-clause-value : goal.returns-clause-value
returns-clause-value c =
    ap Some (c.of.ensures ∙ c.in_ok-push-2.ensures.items)
    ∙ sym (c.loop-part.invariant.same ∙ joined_end (pair_of c.args.sign c.args.first c.args.second) c.loop-part.pairs.items c.loop-part.rest.now c.in-Some-read_pair-2.pair c.in_default.ensures c.in-Some-read_pair-2.ensures.value)

pub returns-clause-range : goal.returns-clause-range
returns-clause-range c =
    rw (c.of.ensures, c.in_ok-push-2.ensures.items) (All-push (IsPairWithin c.args.first c.args.second) _ _ c.loop-part.invariant.within (c.in-Some-read_pair-2.ensures.first_range.0, c.in-Some-read_pair-2.ensures.first_range.1, c.in-Some-read_pair-2.ensures.second_range.0, c.in-Some-read_pair-2.ensures.second_range.1))
