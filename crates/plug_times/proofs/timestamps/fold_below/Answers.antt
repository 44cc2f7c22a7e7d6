use Rattle.std.proofs.Common.{refl, ◌∙◌}
use Rattle.plugin_notes.proofs.FoldingSteps as folding
use Rattle.plug_times.specs.ClockSteps.{IsStepped}
use Rattle.plug_times.specs.StampTexts.{pid_in, place_of}
use Rattle.plug_times.proofs.timestamps.fold_below.Goals as goal

pub loop-note-init : goal.loop-note-init
loop-note-init c = record {
  folding = folding.none_folded place_of c.args.mark IsStepped c.args.notes.now.items c.args.row.now;
  capacity = refl;
}

pub add-requires-clause-on_pid : goal.add-requires-clause-on_pid
add-requires-clause-on_pid c =
    folding.on_pid place_of c.args.mark IsStepped _ _ _ _ c.loop-note.invariant.folding c.in-Some.note c.pop_below.new.notes.items c.in-Some.ensures.taken.0 pid_in c.requires

pub add-requires-clause-room : goal.add-requires-clause-room
add-requires-clause-room c = record {
  stamps = _;
  stepped = folding.counted_now place_of c.args.mark IsStepped _ _ _ _ c.loop-note.invariant.folding c.in-Some.note c.pop_below.new.notes.items c.in-Some.ensures.taken.0 pid_in c.requires;
  few = folding.few_now place_of c.args.mark IsStepped _ _ _ _ c.loop-note.invariant.folding c.in-Some.note c.pop_below.new.notes.items c.in-Some.ensures.taken.0 pid_in c.requires;
}

pub loop-note-preserved : goal.loop-note-preserved
loop-note-preserved c = record {
  folding = folding.one_folded place_of c.args.mark IsStepped _ _ _ _ c.loop-note.invariant.folding c.in-Some.note c.pop_below.new.notes.items c.in-Some.ensures.taken.0 c.add.new.self
      c.in-Some.ensures.taken.1 (λ notes stepped. c.add.ensures notes stepped);
  capacity = c.in-Some.ensures.capacity ∙ c.loop-note.invariant.capacity;
}

pub returns-clause-folds : goal.returns-clause-folds
returns-clause-folds c =
    folding.all_folded place_of c.args.mark IsStepped _ _ c.pop_below.new.notes.items _ _ c.loop-note.invariant.folding c.in_default.ensures.left.0 c.in_default.ensures.left.1
