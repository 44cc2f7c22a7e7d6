use Rattle.std.proofs.Common.{◌∙◌, ◌<◌, ◌≤◌, ◌+◌, ap, rules, sym, Some, arith}
use Rattle.std.proofs.lemmas.List.Elements.{All-push}
use Rattle.plugin_options.specs.NumberSet.{IsOrderedPair}
use Rattle.plugin_options.specs.Ranges.{range_of}
use Rattle.plugin_options.proofs.JoinedLemmas.{joined_begin, joined_end, joined_end_none, joined_step, joined_stop, parts_read, with_later}
use Rattle.plugin_options.proofs.ranges.read_ranges.Goals as goal

pub loop-part-init : goal.loop-part-init
loop-part-init c = record {
  text = search rules;
  same = joined_begin (range_of c.args.least c.args.most) c.args.text.now ∙ ap (λ pairs. with_later pairs (parts_read (range_of c.args.least c.args.most) c.args.text.now)) (sym c.new-pairs.ensures.items);
  ordered = search rules;
  below = search rules;
  above = search rules;
}

pub loop-part-preserved : goal.loop-part-preserved
loop-part-preserved c = record {
  text = search rules;
  same = c.loop-part.invariant.same
      ∙ joined_step (range_of c.args.least c.args.most) c.loop-part.pairs.items c.loop-part.rest.now c.in-Some.part.now c.in-Some.others.now c.in-Some-read_range.pair c.in-Some.ensures.0 c.in-Some.ensures.1 c.in-Some.ensures.2 c.in-Some-read_range.ensures.value
      ∙ ap (λ pairs. with_later pairs (parts_read (range_of c.args.least c.args.most) c.in-Some.others.now)) (sym c.in_ok-push.ensures.items);
  ordered = search rules;
  below = search rules;
  above = search rules;
}

pub of-requires : goal.of-requires
of-requires c = rw c.in_ok-push-2.ensures.items (All-push IsOrderedPair _ _ c.loop-part.invariant.ordered c.in-Some-read_range-2.ensures.range.1)

pub returns-in_default-read_range-clause-value : goal.returns-in_default-read_range-clause-value
returns-in_default-read_range-clause-value c =
    sym (c.loop-part.invariant.same ∙ joined_stop (range_of c.args.least c.args.most) c.loop-part.pairs.items c.loop-part.rest.now c.in-Some.part.now c.in-Some.ensures.0 c.in-Some.ensures.1 c.in_default-read_range.ensures.value)

pub returns-in_default-read_range-2-clause-value : goal.returns-in_default-read_range-2-clause-value
returns-in_default-read_range-2-clause-value c =
    sym (c.loop-part.invariant.same ∙ joined_end_none (range_of c.args.least c.args.most) c.loop-part.pairs.items c.loop-part.rest.now c.in_default.ensures c.in_default-read_range-2.ensures.value)

pub returns-clause-value : goal.returns-clause-value
returns-clause-value c =
    ap Some (c.of.ensures ∙ c.in_ok-push-2.ensures.items)
    ∙ sym (c.loop-part.invariant.same ∙ joined_end (range_of c.args.least c.args.most) c.loop-part.pairs.items c.loop-part.rest.now c.in-Some-read_range-2.pair c.in_default.ensures c.in-Some-read_range-2.ensures.value)

pub returns-clause-below : goal.returns-clause-below
returns-clause-below c =
    rw (c.of.ensures, c.in_ok-push-2.ensures.items) (All-push (λ pair. pair.1 < c.args.most + 1) _ _ c.loop-part.invariant.below (omega (arith, c.in-Some-read_range-2.ensures.range.2)))

pub returns-clause-above : goal.returns-clause-above
returns-clause-above c =
    rw (c.of.ensures, c.in_ok-push-2.ensures.items) (All-push (λ pair. c.args.least ≤ pair.0) _ _ c.loop-part.invariant.above c.in-Some-read_range-2.ensures.range.0)
