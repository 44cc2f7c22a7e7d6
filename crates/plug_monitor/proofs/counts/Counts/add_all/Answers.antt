use Rattle.std.proofs.Common.{rules, ℕ, ◌+◌, ◌++◌, length, take, ap, sym, subst, refl, ◌∙◌, append-nil}
use Rattle.std.proofs.lemmas.List.{get_or_default}
use Rattle.plug_monitor.specs.Counting.{IsEach}
use Rattle.plug_monitor.proofs.CountLemmas.{all_each, some_room, taken_more}
use Rattle.plug_monitor.proofs.counts.Counts.add_all.Goals as goal

pub loop-error-init : goal.loop-error-init
loop-error-init c = record {
  each = λ before is. subst (IsEach c.args.self.now.each) (sym (append-nil before)) is;
  all = refl;
}

pub add-requires : goal.add-requires
add-requires c =
    some_room c.loop-error.self c.requires.errors c.args.errors.now c.loop-error.error-index c.loop-error-test.true
    (c.loop-error.invariant.each c.requires.errors c.requires.counted.each) c.requires.few (search rules)

pub loop-error-preserved : goal.loop-error-preserved
loop-error-preserved c = record {
  each = λ before is. subst (IsEach c.add.new.self.each) (taken_more before c.args.errors.now c.loop-error.error-index _ c.loop-error-test.true
      (get_or_default c.args.errors.now c.loop-error.error-index _ _ c.loop-error-test.true))
      (c.add.ensures.each (before ++ take c.loop-error.error-index c.args.errors.now) (c.loop-error.invariant.each before is));
  all = c.add.ensures.all ∙ c.loop-error.invariant.all;
}

pub returns-clause-counted : goal.returns-clause-counted
returns-clause-counted c = λ before is.
    all_each _ before c.args.errors.now c.loop-error.error-index c.args.self.now.all (c.loop-error.invariant.each before is.each) c.loop-error-test.false is.all
    (ap (λ (n : ℕ). n + length c.args.errors.now) c.loop-error.invariant.all)
