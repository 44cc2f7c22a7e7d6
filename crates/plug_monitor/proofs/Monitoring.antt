-- Lemmas on what a value of `monitor` keeps, cell by cell and mark by mark.
use Rattle.std.proofs.Common.{◌≡◌, ℕ, ◌<◌, ◌≤◌, List, [], ◌∷◌, ◌++◌, length, ap, sym, subst, ◌∙◌, Bool, true, false, true≢false, nat_lt, append-nil, Option, option_to_list, arith, length-append}
use Rattle.std.specs.List.{flat_map, take_while}
use Rattle.ts_packet.specs.declared.cell.Cell.{Cell}
use Rattle.ts_packet.specs.Cells.{Live, Dropped}
use Rattle.chain_model.specs.declared.positions.TheConstants.{POSITION_LIMIT}
use Rattle.plugin_trait.specs.PlacedLines.{placed_between}
use Rattle.plugin_notes.specs.Notes.{notes_after}
use Rattle.plugin_notes.specs.NotesKept.{CanFold, Folds, KeepsNotes, TakesBelow, notes_below}
use Rattle.plugin_notes.proofs.Keeping as keeping
use Rattle.plugin_notes.proofs.Flat.{given_flat}
use Rattle.plug_monitor.specs.Counting.{AreCounted, no_pid}
use Rattle.plug_monitor.specs.ErrorNotes.{lines_of_note, note_on, place_of}
use Rattle.plug_monitor.specs.MonitorRule.{monitor_rule}
use Rattle.plug_monitor.specs.MonitorState.{Monitors}
use Rattle.plug_monitor.specs.WatchStands.{IsWatching}
use Rattle.plug_monitor.specs.declared.counts.Counts.{Counts}
use Rattle.plug_monitor.specs.declared.error_note.ErrorNote.{ErrorNote}
use Rattle.plug_monitor.specs.declared.monitor_conf.MonitorConf.{MonitorConf}
use Rattle.plug_monitor.specs.declared.watch.Watch.{Watch}
use Rattle.plug_monitor.proofs.ErrorLemmas.{note_lines, on_pids, one_note}

module _ (conf : MonitorConf) (watch : Watch) (counts : Counts) (notes : List ErrorNote) (failed : Bool) (history : List Cell) (mark : ℕ)
    (w : Monitors conf watch counts notes failed history mark) where
  -- the notes can be counted
  pub can_fold : CanFold no_pid AreCounted notes counts
  can_fold =
      keeping.can_fold (note_on conf) place_of (one_note conf) notes history mark w.keeps no_pid AreCounted counts w.counted w.short (on_pids conf)

  -- one more cell, whose notes are appended
  pub monitors_cell : (cell : Cell) (watch_new : Watch) (notes_new : List ErrorNote) (failed_new : Bool) → length history < POSITION_LIMIT
      → notes_new ≡ notes ++ notes_after (note_on conf) history (cell ∷ []) → (failed_new ≡ false → IsWatching conf watch_new (history ++ cell ∷ []))
      → Monitors conf watch_new counts notes_new failed_new (history ++ cell ∷ []) mark
  monitors_cell cell watch_new notes_new failed_new few is watching =
      let same = keeping.below_cell (note_on conf) history mark cell w.keeps.marked in
      record {
        keeps = keeping.keeps_cell (note_on conf) place_of (one_note conf) notes history mark w.keeps cell notes_new is;
        counted = subst (AreCounted counts) same w.counted;
        watching = watching;
        short = omega (arith, few, length-append history (cell ∷ []));
      }

  -- a dropped cell has no note
  pub monitors_dropped : length history < POSITION_LIMIT → ((h : List Cell) → IsWatching conf watch h → IsWatching conf watch (h ++ Dropped ∷ []))
      → Monitors conf watch counts notes failed (history ++ Dropped ∷ []) mark
  monitors_dropped few dropped =
      monitors_cell Dropped watch notes failed few (sym (append-nil notes)) (λ works. dropped history (w.watching works))

  -- a packet has the note of its errors
  pub monitors_live : (packet : List ℕ) (labels : ℕ) (watch_new : Watch) (noted : Option ErrorNote) (notes_new : List ErrorNote) (failed_new : Bool) → length history < POSITION_LIMIT
      → option_to_list noted ≡ note_on conf history packet → notes_new ≡ notes ++ option_to_list noted
      → IsWatching conf watch_new (history ++ Live packet labels ∷ [])
      → Monitors conf watch_new counts notes_new failed_new (history ++ Live packet labels ∷ []) mark
  monitors_live packet labels watch_new noted notes_new failed_new few note_is pushed watching =
      monitors_cell (Live packet labels) watch_new notes_new failed_new few
      (pushed
      ∙ (ap (λ (ns : List ErrorNote). notes ++ ns) note_is
      ∙ ap (λ (ns : List ErrorNote). notes ++ ns) (sym (append-nil (note_on conf history packet)))))
      (λ works. watching)

  -- memory ran out
  pub monitors_failed : (watch_new : Watch) (counts_new : Counts) (notes_new : List ErrorNote) (failed_new : Bool) → counts_new ≡ counts → notes_new ≡ notes → failed_new ≡ true
      → Monitors conf watch_new counts_new notes_new failed_new history mark
  monitors_failed watch_new counts_new notes_new failed_new same_counts same_notes set = record {
    keeps = subst (λ (ns : List ErrorNote). KeepsNotes (note_on conf) ns history mark) (sym same_notes) w.keeps;
    counted = subst (λ (cs : Counts). AreCounted cs (notes_below (note_on conf) mark history)) (sym same_counts) w.counted;
    watching = λ works. absurd (true≢false (sym set ∙ works));
    short = w.short;
  }

  module _ (to : ℕ) (notes_new : List ErrorNote) (le : mark ≤ to) (within : to ≤ length history) where
    -- a later mark
    pub monitors_to : (counts_new : Counts) → Folds place_of AreCounted to notes notes_new counts counts_new → Monitors conf watch counts_new notes_new failed history to
    monitors_to counts_new folds = record {
      keeps = keeping.keeps_left (note_on conf) place_of (one_note conf) notes history mark w.keeps to notes_new le within folds.takes;
      counted = keeping.counted_below (note_on conf) place_of (one_note conf) notes history mark w.keeps to notes_new le within folds.takes AreCounted counts_new
          (folds.counted (notes_below (note_on conf) mark history) w.counted);
      watching = w.watching;
      short = w.short;
    }

    -- the lines that are given out are those of the rule
    pub given_is : TakesBelow place_of to notes notes_new
        → flat_map lines_of_note (take_while (λ (n : ErrorNote). nat_lt (place_of n) to) notes) ≡ placed_between (monitor_rule conf) history mark to
    given_is takes =
        given_flat (note_on conf) (monitor_rule conf) lines_of_note (note_lines conf)
        place_of (one_note conf) notes history mark w.keeps to notes_new le within takes
