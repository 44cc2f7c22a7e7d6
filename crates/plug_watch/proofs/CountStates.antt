-- Lemmas on what a value of `count` keeps, cell by cell and mark by mark.
use Rattle.std.proofs.Common.{◌≡◌, ℕ, ◌+◌, ◌<◌, ◌≤◌, ◌^◌, List, [], ◌∷◌, ◌++◌, length, take, drop, map, ap, sym, subst, ◌∙◌, refl, Bool, true, false, nat_lt, if◌then◌else◌, append-nil, None, Some, arith, length-append}
use Rattle.std.specs.List.{take_while}
use Rattle.std.proofs.lemmas.List.{length-map}
use Rattle.ts_packet.specs.declared.cell.Cell.{Cell}
use Rattle.ts_packet.specs.Cells.{Live, Dropped}
use Rattle.ts_packet.specs.Header.{pid_of}
use Rattle.chain_model.specs.PluginRule.{PluginRule}
use Rattle.chain_model.specs.declared.positions.TheConstants.{POSITION_LIMIT}
use Rattle.plugin_trait.specs.PlacedLines.{placed_at, placed_after, placed_between}
use Rattle.plug_watch.specs.declared.count_conf.CountConf.{CountConf}
use Rattle.plug_watch.specs.declared.note.Note.{Note}
use Rattle.plugin_notes.specs.declared.tally.Tally.{Tally}
use Rattle.plugin_notes.specs.Notes.{notes_after}
use Rattle.plugin_notes.specs.NotesKept.{CanFold, Folds, TakesBelow, notes_below}
use Rattle.plug_watch.specs.CountRule.{is_counted, counted, line_on, count_rule}
use Rattle.plug_watch.specs.CountNotes.{IsTallied, line_of_note, note_on, pid_in, place_of, text_on}
use Rattle.plug_watch.specs.CountState.{Counts}
use Rattle.plugin_notes.specs.Tallies.{HasRoomIn, IsCounted}
use Rattle.plugin_notes.proofs.Noting.{placed_at-notes}
use Rattle.plug_watch.proofs.Counting.{one_note, line_on-notes, on_pids, pids_of-notes}
use Rattle.plugin_notes.proofs.Keeping as keeping

-- one more packet can be counted
pub has_room : (tally : Tally) (notes : List Note) → IsTallied tally notes → length notes < 2 ^ 63 → HasRoomIn tally
has_room tally notes tallied few = record { pids = map pid_in notes; tally = tallied; few = omega (arith, few, length-map notes pid_in) }

-- a rule without lines has none
placed_none : (rule : PluginRule) (history cells : List Cell) → ((h : List Cell) (packet : List ℕ) (labels : ℕ) → rule.lines_of h packet labels ≡ []) → placed_after rule history cells ≡ []
placed_none rule history [] none = refl
placed_none rule history (Live packet labels ∷ cells) none =
    ap (λ (texts : List (List ℕ)). placed_at (length history) texts ++ placed_after rule (history ++ Live packet labels ∷ []) cells) (none history packet labels)
    ∙ placed_none rule (history ++ Live packet labels ∷ []) cells none
placed_none rule history (Dropped ∷ cells) none = placed_none rule (history ++ Dropped ∷ []) cells none

-- the line of a packet with `all` is that of its note
line_with_all : (conf : CountConf) → conf.all ≡ true → (history : List Cell) (packet : List ℕ) (labels : ℕ)
    → placed_at (length history) ((count_rule conf).lines_of history packet labels) ≡ map line_of_note (note_on conf history packet)
line_with_all conf all history packet labels =
    ap (λ (b : Bool). placed_at (length history) (if b then line_on conf history packet else [])) all
    ∙ ap (placed_at (length history)) (line_on-notes conf history packet)
    ∙ placed_at-notes place_of text_on (length history) (note_on conf history packet) (one_note conf history packet)

module _ (conf : CountConf) (notes : List Note) (tally : Tally) (history : List Cell) (mark : ℕ)
    (w : Counts conf notes tally history mark) where
  -- the notes can be counted
  pub can_fold : CanFold pid_in IsTallied notes tally
  can_fold =
      keeping.can_fold (note_on conf) place_of (one_note conf) notes history mark w.keeps pid_in IsTallied tally w.tallied w.short (on_pids conf)

  -- one more cell, whose notes are appended
  counts_cell : (cell : Cell) (notes_new : List Note) → length history < POSITION_LIMIT → notes_new ≡ notes ++ notes_after (note_on conf) history (cell ∷ [])
      → Counts conf notes_new tally (history ++ cell ∷ []) mark
  counts_cell cell notes_new few is =
      let same = keeping.below_cell (note_on conf) history mark cell w.keeps.marked in
      record {
        keeps = keeping.keeps_cell (note_on conf) place_of (one_note conf) notes history mark w.keeps cell notes_new is;
        tallied = subst (IsTallied tally) same w.tallied;
        short = omega (arith, few, length-append history (cell ∷ []));
      }

  -- a dropped cell has no note
  pub counts_dropped : length history < POSITION_LIMIT → Counts conf notes tally (history ++ Dropped ∷ []) mark
  counts_dropped few = counts_cell Dropped notes few (sym (append-nil notes))

  module _ (packet : List ℕ) (labels : ℕ) (few : length history < POSITION_LIMIT) where
    -- nor has a packet that is not counted
    pub counts_other : is_counted conf packet ≡ false → Counts conf notes tally (history ++ Live packet labels ∷ []) mark
    counts_other other =
        let note : Note = record { at = length history; pid = pid_of packet } in
        counts_cell (Live packet labels) notes few
        (sym (ap (λ (b : Bool). notes ++ ((if b then note ∷ [] else []) ++ [])) other ∙ append-nil notes))

    -- a counted one has one
    pub counts_live : (note : Note) (notes_new : List Note) → is_counted conf packet ≡ true
        → note ≡ (let n : Note = record { at = length history; pid = pid_of packet } in n) → notes_new ≡ notes ++ note ∷ []
        → Counts conf notes_new tally (history ++ Live packet labels ∷ []) mark
    counts_live note notes_new one note_is pushed =
        let its : Note = record { at = length history; pid = pid_of packet } in
        counts_cell (Live packet labels) notes_new few
        (pushed
        ∙ (ap (λ (n : Note). notes ++ n ∷ []) note_is
        ∙ sym (ap (λ (b : Bool). notes ++ ((if b then its ∷ [] else []) ++ [])) one)))

  module _ (to : ℕ) (notes_new : List Note) (le : mark ≤ to) (within : to ≤ length history) where
    -- a later mark
    pub counts_to : (tally_new : Tally) → Folds place_of IsTallied to notes notes_new tally tally_new → Counts conf notes_new tally_new history to
    counts_to tally_new folds = record {
      keeps = keeping.keeps_left (note_on conf) place_of (one_note conf) notes history mark w.keeps to notes_new le within folds.takes;
      tallied = keeping.counted_below (note_on conf) place_of (one_note conf) notes history mark w.keeps to notes_new le within folds.takes IsTallied tally_new
          (folds.counted (notes_below (note_on conf) mark history) w.tallied);
      short = w.short;
    }

    -- the lines that are given out, if lines are asked for, are those of the rule
    pub given_is : (b : Bool) → conf.all ≡ b → TakesBelow place_of to notes notes_new
        → (if b then map line_of_note (take_while (λ (n : Note). nat_lt (place_of n) to) notes) else []) ≡ placed_between (count_rule conf) history mark to
    given_is true all takes =
        keeping.given_is (note_on conf) place_of (one_note conf) notes history mark w.keeps to notes_new le within takes (count_rule conf) line_of_note (line_with_all conf all)
    given_is false none takes =
        sym (placed_none (count_rule conf) (take mark history) (drop mark (take to history)) (λ h packet labels. ap (λ (b : Bool). if b then line_on conf h packet else []) none))

  -- if there is room up to a position, the notes are not full there
  pub not_full : (capacity room at : ℕ) (b : Bool) → (if b then None else Some capacity) ≡ Some room
      → length history ≡ at → at < mark + room → capacity ≤ length notes → ⊥
  not_full capacity room at true preallocated count within full = cc
  not_full capacity room at false preallocated count within full =
      let same : capacity ≡ room = cc in
      omega (arith, keeping.few_notes (note_on conf) place_of (one_note conf) notes history mark w.keeps, same, w.keeps.marked)

  -- the counts are those of the packets before the mark
  pub counted_is : IsCounted tally (map pid_of (counted conf (take mark history)))
  counted_is = subst (IsCounted tally) (pids_of-notes conf [] (take mark history)) w.tallied
