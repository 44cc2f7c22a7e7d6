-- Lemmas on kept notes, cell by cell and mark by mark.
use Rattle.std.proofs.Common.{◌≡◌, ℕ, ◌+◌, ◌-◌, ◌<◌, ◌≤◌, List, [], ◌∷◌, ◌++◌, length, take, drop, map, ap, sym, subst, ◌∙◌, refl, true, not, nat_lt, arith, length-append, length-take, length-drop, drop-drop}
use Rattle.std.specs.List.{All, take_while}
use Rattle.std.proofs.Math.Seq.{take-add}
use Rattle.std.proofs.lemmas.List.{append_cancel_left, drop-append-le, drop-take, take-append-drop, take-append-le}
use Rattle.std.proofs.lemmas.List.Elements.{All-append}
use Rattle.ts_packet.specs.declared.cell.Cell.{Cell}
use Rattle.ts_packet.specs.Cells.{Live, Dropped}
use Rattle.ts_packet.specs.declared.numbers.TheConstants.{PID_COUNT}
use Rattle.chain_model.specs.declared.positions.TheConstants.{POSITION_LIMIT}
use Rattle.chain_model.specs.PluginRule.{PluginRule}
use Rattle.plugin_trait.specs.declared.line.Line.{Line}
use Rattle.plugin_trait.specs.PlacedLines.{placed_at, placed_between}
use Rattle.plugin_notes.specs.Notes.{notes_after}
use Rattle.plugin_notes.specs.NotesKept.{CanFold, KeepsNotes, StartsFrom, TakesBelow, notes_below}
use Rattle.plugin_notes.proofs.Noting.{IsNoteAt, fails_first, length-notes_after, not_below, notes_after-append, placed_after-notes, take_while-notes_after, take_while-split}

-- the first note, which is not below the mark, fails the test of being below it
starts_failing : {N : Type 0} (at : N → ℕ) (mark : ℕ) (notes : List N) → StartsFrom at mark notes → fails_first (λ n. nat_lt (at n) mark) notes ≡ true
starts_failing at mark [] starts = refl
starts_failing at mark (note ∷ notes) starts = ap not (not_below (at note) mark starts)

-- the first items of a list, and then the next ones of the rest
take-to : (n m : ℕ) (cells : List Cell) → n ≤ m → take n cells ++ take (m - n) (drop n cells) ≡ take m cells
take-to n m cells le =
    sym (take-add n (m - n) cells) ∙ ap (λ (k : ℕ). take k cells) (let same : n + (m - n) ≡ m = omega arith in same)

-- what is left after removing items twice
drop-to : (n m : ℕ) (cells : List Cell) → n ≤ m → drop (m - n) (drop n cells) ≡ drop m cells
drop-to n m cells le = drop-drop (m - n) n cells ∙ ap (λ (k : ℕ). drop k cells) (let same : n + (m - n) ≡ m = omega arith in same)

-- the items from one number up to another
between : (n m : ℕ) (cells : List Cell) → n ≤ m → drop n (take m cells) ≡ take (m - n) (drop n cells)
between n m cells le =
    ap (λ (k : ℕ). drop n (take k cells)) (let same : m ≡ n + (m - n) = omega arith in same) ∙ drop-take n (m - n) cells

-- the mark stays within a history that is one cell longer
pub longer : (history : List Cell) (cell : Cell) (mark : ℕ) → mark ≤ length history → mark ≤ length (history ++ cell ∷ [])
longer history cell mark le = omega (arith, length-append history (cell ∷ []))

module _ {N : Type 0} (note : List Cell → List ℕ → List N) where
  -- the notes below the mark stay the same with one more cell
  pub below_cell : (history : List Cell) (mark : ℕ) (cell : Cell) → mark ≤ length history → notes_below note mark history ≡ notes_below note mark (history ++ cell ∷ [])
  below_cell history mark cell le = ap (notes_after note []) (sym (take-append-le mark history (cell ∷ []) le))

  -- the notes are on PIDs
  pub all_on_pids : (pid : N → ℕ) → ((history : List Cell) (packet : List ℕ) → All (λ (n : N). pid n < PID_COUNT) (note history packet))
      → (history cells : List Cell) → All (λ (n : N). pid n < PID_COUNT) (notes_after note history cells)
  all_on_pids pid each history [] = λ k d lt. absurd (let none : ⊥ = omega (arith, lt) in none)
  all_on_pids pid each history (Live packet labels ∷ cells) =
      All-append (λ (n : N). pid n < PID_COUNT) (note history packet) (notes_after note (history ++ Live packet labels ∷ []) cells) (each history packet)
      (all_on_pids pid each (history ++ Live packet labels ∷ []) cells)
  all_on_pids pid each history (Dropped ∷ cells) = all_on_pids pid each (history ++ Dropped ∷ []) cells

  module _ (at : N → ℕ) (one : (history : List Cell) (packet : List ℕ) → IsNoteAt at (length history) (note history packet))
      (notes : List N) (history : List Cell) (mark : ℕ) (w : KeepsNotes note notes history mark) where
    -- there are no more notes than cells from the mark on
    pub few_notes : length notes ≤ length history - mark
    few_notes = omega (
      arith,
      ap length w.kept,
      length-drop mark history,
      length-notes_after note at one (take mark history) (drop mark history),
    )

    -- with those before the mark there are no more than cells
    pub few_all : length (notes_below note mark history) + length notes ≤ length history
    few_all = omega (arith, few_notes, length-notes_after note at one [] (take mark history), length-take mark history, w.marked)

    -- they can be counted
    pub can_fold : {S : Type 0} (pid : N → ℕ) (Counted : S → List N → Type 0) (sums : S) → Counted sums (notes_below note mark history) → length history ≤ POSITION_LIMIT
        → ((history : List Cell) (packet : List ℕ) → All (λ (n : N). pid n < PID_COUNT) (note history packet)) → CanFold pid Counted notes sums
    can_fold pid Counted sums counted short each = record {
      before = notes_below note mark history;
      counted = counted;
      few = omega (arith, few_all, short);
      on_pids = subst (All (λ (n : N). pid n < PID_COUNT)) (sym w.kept) (all_on_pids pid each (take mark history) (drop mark history));
    }

    -- one more cell, whose notes are appended
    pub keeps_cell : (cell : Cell) (notes_new : List N) → notes_new ≡ notes ++ notes_after note history (cell ∷ []) → KeepsNotes note notes_new (history ++ cell ∷ []) mark
    keeps_cell cell notes_new is = record {
      kept = is
          ∙ (ap (λ (ns : List N). ns ++ notes_after note history (cell ∷ [])) w.kept
          ∙ (ap (λ (h : List Cell). notes_after note (take mark history) (drop mark history) ++ notes_after note h (cell ∷ [])) (sym (take-append-drop mark history))
          ∙ (sym (notes_after-append note at one (take mark history) (drop mark history) (cell ∷ []))
          ∙ (ap (notes_after note (take mark history)) (sym (drop-append-le mark history (cell ∷ []) w.marked))
          ∙ ap (λ (h : List Cell). notes_after note h (drop mark (history ++ cell ∷ []))) (sym (take-append-le mark history (cell ∷ []) w.marked))))));
      marked = longer history cell mark w.marked;
    }

    module _ (to : ℕ) (notes_new : List N) (le : mark ≤ to) (within : to ≤ length history) (takes : TakesBelow at to notes notes_new) where
      -- the removed notes are those below the position
      pub front_is : take_while (λ (n : N). nat_lt (at n) to) notes ≡ takes.taken
      front_is =
          ap (take_while (λ (n : N). nat_lt (at n) to)) takes.split
          ∙ take_while-split (λ (n : N). nat_lt (at n) to) takes.taken notes_new takes.below (starts_failing at to notes_new takes.left)

      -- they are those on the cells between the marks
      pub taken_is : takes.taken ≡ notes_after note (take mark history) (take (to - mark) (drop mark history))
      taken_is =
          sym front_is
          ∙ (ap (take_while (λ (n : N). nat_lt (at n) to)) w.kept
          ∙ (take_while-notes_after note at one to (take mark history) (drop mark history)
          ∙ ap (λ (k : ℕ). notes_after note (take mark history) (take (to - k) (drop mark history)))
          (let all : length (take mark history) ≡ mark = omega (arith, length-take mark history, w.marked) in all)))

      -- with those before the mark they are those below the position
      pub below_taken : notes_below note mark history ++ takes.taken ≡ notes_below note to history
      below_taken =
          ap (λ (ns : List N). notes_below note mark history ++ ns) taken_is
          ∙ (sym (notes_after-append note at one [] (take mark history) (take (to - mark) (drop mark history)))
          ∙ ap (notes_after note []) (take-to mark to history le))

      -- the remaining notes are kept
      pub keeps_left : KeepsNotes note notes_new history to
      keeps_left = record {
        kept = append_cancel_left takes.taken notes_new _
            (sym takes.split
            ∙ (w.kept
            ∙ (ap (notes_after note (take mark history)) (sym (take-append-drop (to - mark) (drop mark history)))
            ∙ (notes_after-append note at one (take mark history) (take (to - mark) (drop mark history)) (drop (to - mark) (drop mark history))
            ∙ (ap (λ (front : List N). front ++ notes_after note (take mark history ++ take (to - mark) (drop mark history)) (drop (to - mark) (drop mark history))) (sym taken_is)
            ∙ (ap (λ (h : List Cell). takes.taken ++ notes_after note h (drop (to - mark) (drop mark history))) (take-to mark to history le)
            ∙ ap (λ (cells : List Cell). takes.taken ++ notes_after note (take to history) cells) (drop-to mark to history le)))))));
        marked = within;
      }

      -- what was counted
      pub counted_below : {S : Type 0} (Counted : S → List N → Type 0) (sums : S) → Counted sums (notes_below note mark history ++ takes.taken) → Counted sums (notes_below note to history)
      counted_below Counted sums counted = subst (Counted sums) below_taken counted

      -- as many more are before the position as were removed
      pub number_to : (removed : ℕ) → removed + length notes_new ≡ length notes → length (notes_below note mark history) + removed ≡ length (notes_below note to history)
      number_to removed counted = omega (
        arith,
        counted,
        ap length takes.split,
        length-append takes.taken notes_new,
        ap length below_taken,
        length-append (notes_below note mark history) takes.taken,
      )

      -- the lines of those below the position are those of a rule whose lines are the notes'
      pub given_is : (rule : PluginRule) (line : N → Line)
          → ((history : List Cell) (packet : List ℕ) (labels : ℕ) → placed_at (length history) (rule.lines_of history packet labels) ≡ map line (note history packet))
          → map line (take_while (λ (n : N). nat_lt (at n) to) notes) ≡ placed_between rule history mark to
      given_is rule line lines =
          ap (map line) (front_is ∙ taken_is)
          ∙ (ap (λ (cells : List Cell). map line (notes_after note (take mark history) cells)) (sym (between mark to history le))
          ∙ sym (placed_after-notes note at one rule line lines (take mark history) (drop mark (take to history))))
