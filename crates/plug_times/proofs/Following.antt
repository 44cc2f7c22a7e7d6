-- Lemmas on what a value of `timestamps` keeps, cell by cell and mark by mark.
use Rattle.std.proofs.Common.{◌≡◌, ℕ, ◌<◌, ◌≤◌, List, [], ◌∷◌, ◌++◌, length, ap, sym, subst, ◌∙◌, Bool, true, false, nat_lt, if◌then◌else◌, append-nil, arith, length-append}
use Rattle.std.specs.List.{flat_map, take_while}
use Rattle.ts_packet.specs.declared.cell.Cell.{Cell}
use Rattle.ts_packet.specs.Cells.{Live, Dropped}
use Rattle.ts_packet.specs.Header.{pid_of}
use Rattle.chain_model.specs.declared.positions.TheConstants.{POSITION_LIMIT}
use Rattle.plugin_options.specs.Selection.{is_selected}
use Rattle.plugin_trait.specs.PlacedLines.{placed_between}
use Rattle.plugin_notes.specs.Notes.{notes_after}
use Rattle.plugin_notes.specs.NotesKept.{CanFold, Folds, TakesBelow, notes_below}
use Rattle.plugin_notes.proofs.Keeping as keeping
use Rattle.plug_times.specs.ClockSteps.{IsStepped}
use Rattle.plug_times.specs.StampTexts.{lines_of_stamp, pid_in, place_of}
use Rattle.plug_times.specs.Stamps.{stamps_on, told_at}
use Rattle.plug_times.specs.TimestampsRule.{timestamps_rule}
use Rattle.plug_times.specs.TimestampsState.{Follows}
use Rattle.plug_times.specs.declared.stamp.Stamp.{Stamp}
use Rattle.plug_times.specs.declared.step_row.StepRow.{StepRow}
use Rattle.plug_times.specs.declared.timestamps_conf.TimestampsConf.{TimestampsConf}
use Rattle.plugin_notes.proofs.Flat.{given_flat}
use Rattle.plug_times.proofs.Telling.{on_pids, one_note, stamp_lines}

module _ (conf : TimestampsConf) (notes : List Stamp) (row : StepRow) (history : List Cell) (mark : ℕ)
    (w : Follows conf notes row history mark) where
  -- the notes can be counted
  pub can_fold : CanFold pid_in IsStepped notes row
  can_fold =
      keeping.can_fold (stamps_on conf) place_of (one_note conf) notes history mark w.keeps pid_in IsStepped row w.stepped w.short (on_pids conf)

  -- one more cell, whose notes are appended
  follows_cell : (cell : Cell) (notes_new : List Stamp) → length history < POSITION_LIMIT → notes_new ≡ notes ++ notes_after (stamps_on conf) history (cell ∷ [])
      → Follows conf notes_new row (history ++ cell ∷ []) mark
  follows_cell cell notes_new few is =
      let same = keeping.below_cell (stamps_on conf) history mark cell w.keeps.marked in
      record {
        keeps = keeping.keeps_cell (stamps_on conf) place_of (one_note conf) notes history mark w.keeps cell notes_new is;
        stepped = subst (IsStepped row) same w.stepped;
        short = omega (arith, few, length-append history (cell ∷ []));
      }

  -- a dropped cell has no note
  pub follows_dropped : length history < POSITION_LIMIT → Follows conf notes row (history ++ Dropped ∷ []) mark
  follows_dropped few = follows_cell Dropped notes few (sym (append-nil notes))

  module _ (packet : List ℕ) (labels : ℕ) (few : length history < POSITION_LIMIT) where
    -- nor has a packet on another PID
    pub follows_other : is_selected conf.pid false (pid_of packet) ≡ false → Follows conf notes row (history ++ Live packet labels ∷ []) mark
    follows_other other =
        follows_cell (Live packet labels) notes few
        (sym (ap (λ (b : Bool). notes ++ ((if b then told_at (length history) packet else []) ++ [])) other ∙ append-nil notes))

    -- one on a PID of the list has what it tells
    pub follows_live : (told notes_new : List Stamp) → is_selected conf.pid false (pid_of packet) ≡ true
        → told ≡ told_at (length history) packet → notes_new ≡ notes ++ told → Follows conf notes_new row (history ++ Live packet labels ∷ []) mark
    follows_live told notes_new one told_is pushed =
        follows_cell (Live packet labels) notes_new few
        (pushed
        ∙ (ap (λ (ns : List Stamp). notes ++ ns) told_is
        ∙ (ap (λ (ns : List Stamp). notes ++ ns) (sym (append-nil (told_at (length history) packet)))
        ∙ sym (ap (λ (b : Bool). notes ++ ((if b then told_at (length history) packet else []) ++ [])) one))))

  module _ (to : ℕ) (notes_new : List Stamp) (le : mark ≤ to) (within : to ≤ length history) where
    -- a later mark
    pub follows_to : (row_new : StepRow) → Folds place_of IsStepped to notes notes_new row row_new → Follows conf notes_new row_new history to
    follows_to row_new folds = record {
      keeps = keeping.keeps_left (stamps_on conf) place_of (one_note conf) notes history mark w.keeps to notes_new le within folds.takes;
      stepped = keeping.counted_below (stamps_on conf) place_of (one_note conf) notes history mark w.keeps to notes_new le within folds.takes IsStepped row_new
          (folds.counted (notes_below (stamps_on conf) mark history) w.stepped);
      short = w.short;
    }

    -- the lines that are given out are those of the rule
    pub given_is : TakesBelow place_of to notes notes_new
        → flat_map (lines_of_stamp conf.shown) (take_while (λ (n : Stamp). nat_lt (place_of n) to) notes) ≡ placed_between (timestamps_rule conf) history mark to
    given_is takes =
        given_flat (stamps_on conf) (timestamps_rule conf) (lines_of_stamp conf.shown)
        (λ h packet labels. stamp_lines conf.shown (length h) (stamps_on conf h packet) (one_note conf h packet))
        place_of (one_note conf) notes history mark w.keeps to notes_new le within takes
