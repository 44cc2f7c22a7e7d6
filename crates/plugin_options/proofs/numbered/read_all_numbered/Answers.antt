use Rattle.std.proofs.Common.{◌∙◌, IfSome, ap, rules, subst, sym, Some}
use Rattle.std.proofs.lemmas.List.Elements.{All-push}
use Rattle.plugin_options.specs.Parts.{IsNumbered, numbered_of}
use Rattle.plugin_options.proofs.JoinedLemmas.{joined_begin, joined_end, joined_end_none, joined_step, joined_stop, parts_read, with_later}
use Rattle.plugin_options.proofs.numbered.read_all_numbered.Goals as goal

pub loop-piece-init : goal.loop-piece-init
loop-piece-init c = record {
  text = search rules;
  same = joined_begin (numbered_of c.args.sign c.args.range c.args.part) c.args.text.now
      ∙ ap (λ items. with_later items (parts_read (numbered_of c.args.sign c.args.range c.args.part) c.args.text.now)) (sym c.new-items.ensures.items);
  within = search rules;
}

pub loop-piece-preserved : goal.loop-piece-preserved
loop-piece-preserved c = record {
  text = search rules;
  same = c.loop-piece.invariant.same
      ∙ joined_step (numbered_of c.args.sign c.args.range c.args.part) c.loop-piece.items.items c.loop-piece.rest.now c.in-Some.piece.now c.in-Some.others.now c.in-Some-2.item c.in-Some.ensures.0 c.in-Some.ensures.1 c.in-Some.ensures.2 (sym c.in-Some-2.is ∙ c.in_ok-item.ensures.value)
      ∙ ap (λ items. with_later items (parts_read (numbered_of c.args.sign c.args.range c.args.part) c.in-Some.others.now)) (sym c.in_ok-push.ensures.items);
  within = rw c.in_ok-push.ensures.items (All-push (IsNumbered c.args.range c.args.part) _ _ c.loop-piece.invariant.within (subst (λ item. IfSome item (IsNumbered c.args.range c.args.part)) c.in-Some-2.is c.in_ok-item.ensures.range));
}

pub returns-in_default-2-clause-value : goal.returns-in_default-2-clause-value
returns-in_default-2-clause-value c =
    sym (c.loop-piece.invariant.same ∙ joined_stop (numbered_of c.args.sign c.args.range c.args.part) c.loop-piece.items.items c.loop-piece.rest.now c.in-Some.piece.now c.in-Some.ensures.0 c.in-Some.ensures.1 (sym c.in_default-2.is ∙ c.in_ok-item.ensures.value))

pub returns-in_default-3-clause-value : goal.returns-in_default-3-clause-value
returns-in_default-3-clause-value c =
    sym (c.loop-piece.invariant.same ∙ joined_end_none (numbered_of c.args.sign c.args.range c.args.part) c.loop-piece.items.items c.loop-piece.rest.now c.in_default.ensures (sym c.in_default-3.is ∙ c.in_ok-item-2.ensures.value))

pub returns-clause-value : goal.returns-clause-value
returns-clause-value c =
    ap Some (c.of.ensures ∙ c.in_ok-push-2.ensures.items)
    ∙ sym (c.loop-piece.invariant.same ∙ joined_end (numbered_of c.args.sign c.args.range c.args.part) c.loop-piece.items.items c.loop-piece.rest.now c.in-Some-3.item c.in_default.ensures (sym c.in-Some-3.is ∙ c.in_ok-item-2.ensures.value))

pub returns-clause-range : goal.returns-clause-range
returns-clause-range c =
    rw (c.of.ensures, c.in_ok-push-2.ensures.items) (All-push (IsNumbered c.args.range c.args.part) _ _ c.loop-piece.invariant.within (subst (λ item. IfSome item (IsNumbered c.args.range c.args.part)) c.in-Some-3.is c.in_ok-item-2.ensures.range))
