use Rattle.std.proofs.Common.{◌^◌, ◌<◌, ◌++◌, List, length, ◌∙◌, refl, subst}
use Rattle.monitor_lines.specs.declared.monitor_error.MonitorError.{MonitorError}
use Rattle.plugin_notes.proofs.FoldingSteps as folding
use Rattle.plug_monitor.specs.Counting.{AreCounted, IsCounted, no_pid}
use Rattle.plug_monitor.specs.ErrorNotes.{errors_of_notes, place_of}
use Rattle.plug_monitor.proofs.CountLemmas.{few_errors, note_counted}
use Rattle.plug_monitor.proofs.monitor.fold_below.Goals as goal

pub loop-note-init : goal.loop-note-init
loop-note-init c = record {
  folding = folding.none_folded place_of c.args.mark AreCounted c.args.notes.now.items c.args.counts.now;
  capacity = refl;
}

pub add_all-requires : goal.add_all-requires
add_all-requires c =
    let counted = folding.counted_now place_of c.args.mark AreCounted _ _ _ _ c.loop-note.invariant.folding c.in-Some.note c.pop_below.new.notes.items c.in-Some.ensures.taken.0 no_pid c.requires in
    let few = folding.few_now place_of c.args.mark AreCounted _ _ _ _ c.loop-note.invariant.folding c.in-Some.note c.pop_below.new.notes.items c.in-Some.ensures.taken.0 no_pid c.requires in
    record {
      errors = _;
      counted = counted.counted;
      few = few_errors _ _ counted few;
    }

pub loop-note-preserved : goal.loop-note-preserved
loop-note-preserved c = record {
  folding = folding.one_folded place_of c.args.mark AreCounted _ _ _ _ c.loop-note.invariant.folding c.in-Some.note c.pop_below.new.notes.items c.in-Some.ensures.taken.0 c.add_all.new.self
      c.in-Some.ensures.taken.1 (λ notes are. note_counted _ _ notes c.in-Some.note are (subst (λ (es : List MonitorError). length es < 2 ^ 64) c.as_slice.ensures c.add_all.ensures.range)
      (subst (λ (es : List MonitorError). IsCounted c.add_all.new.self (errors_of_notes notes ++ es)) c.as_slice.ensures (c.add_all.ensures.counted (errors_of_notes notes) are.counted)));
  capacity = c.in-Some.ensures.capacity ∙ c.loop-note.invariant.capacity;
}

pub returns-clause-folds : goal.returns-clause-folds
returns-clause-folds c =
    folding.all_folded place_of c.args.mark AreCounted _ _ c.pop_below.new.notes.items _ _ c.loop-note.invariant.folding c.in_default.ensures.left.0 c.in_default.ensures.left.1
