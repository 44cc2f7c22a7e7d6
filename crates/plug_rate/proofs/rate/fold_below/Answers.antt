use Rattle.std.proofs.Common.{◌∙◌, refl}
use Rattle.plugin_notes.proofs.FoldingSteps as folding
use Rattle.plug_rate.specs.Measures.{place_of}
use Rattle.plug_rate.specs.RateState.{no_pid}
use Rattle.plug_rate.specs.Summing.{IsSummed}
use Rattle.plug_rate.proofs.rate.fold_below.Goals as goal

pub loop-note-init : goal.loop-note-init
loop-note-init c = record {
  folding = folding.none_folded place_of c.args.mark IsSummed c.args.notes.now.items c.args.sums.now;
  capacity = refl;
}

pub add-requires : goal.add-requires
add-requires c = record {
  measures = _;
  summed = folding.counted_now place_of c.args.mark IsSummed _ _ _ _ c.loop-note.invariant.folding c.in-Some.note c.pop_below.new.notes.items c.in-Some.ensures.taken.0 no_pid c.requires;
  few = folding.few_now place_of c.args.mark IsSummed _ _ _ _ c.loop-note.invariant.folding c.in-Some.note c.pop_below.new.notes.items c.in-Some.ensures.taken.0 no_pid c.requires;
}

pub loop-note-preserved : goal.loop-note-preserved
loop-note-preserved c = record {
  folding = folding.one_folded place_of c.args.mark IsSummed _ _ _ _ c.loop-note.invariant.folding c.in-Some.note c.pop_below.new.notes.items c.in-Some.ensures.taken.0 c.add.new.self
      c.in-Some.ensures.taken.1 (λ measures summed. c.add.ensures measures summed);
  capacity = c.in-Some.ensures.capacity ∙ c.loop-note.invariant.capacity;
}

pub returns-clause-folds : goal.returns-clause-folds
returns-clause-folds c =
    folding.all_folded place_of c.args.mark IsSummed _ _ c.pop_below.new.notes.items _ _ c.loop-note.invariant.folding c.in_default.ensures.left.0 c.in_default.ensures.left.1
