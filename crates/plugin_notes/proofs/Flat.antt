-- Lemmas on notes that have several lines each.
use Rattle.std.proofs.Common.{◌≡◌, ℕ, ◌+◌, ◌-◌, ◌<◌, ◌≤◌, List, [], ◌∷◌, ◌++◌, length, take, drop, ap, sym, ◌∙◌, refl, Bool, nat_lt, if◌then◌else◌, append_assoc, arith}
use Rattle.std.specs.List.{flat_map, take_while}
use Rattle.std.proofs.lemmas.Grind.{flat_map-append}
use Rattle.std.proofs.lemmas.List.{drop-take}
use Rattle.std.proofs.lemmas.List.Sums.{take_while-cons}
use Rattle.ts_packet.specs.declared.cell.Cell.{Cell}
use Rattle.ts_packet.specs.Cells.{Live, Dropped}
use Rattle.chain_model.specs.PluginRule.{PluginRule}
use Rattle.plugin_trait.specs.declared.line.Line.{Line}
use Rattle.plugin_trait.specs.PlacedLines.{placed_at, placed_after, placed_between}
use Rattle.plugin_notes.specs.Notes.{notes_after}
use Rattle.plugin_notes.specs.NotesKept.{KeepsNotes, TakesBelow}
use Rattle.plugin_notes.proofs.Keeping as keeping
use Rattle.plugin_notes.proofs.Noting.{IsNoteAt, is_below}

module _ {N : Type 0} (note : List Cell → List ℕ → List N) (rule : PluginRule) (lines : N → List Line)
    (each : (history : List Cell) (packet : List ℕ) (labels : ℕ) → placed_at (length history) (rule.lines_of history packet labels) ≡ flat_map lines (note history packet)) where
  -- the lines of a rule whose lines are those of the notes
  placed_flat : (history cells : List Cell) → placed_after rule history cells ≡ flat_map lines (notes_after note history cells)
  placed_flat history [] = refl
  placed_flat history (Live packet labels ∷ cells) =
      ap (λ (ls : List Line). ls ++ placed_after rule (history ++ Live packet labels ∷ []) cells) (each history packet labels)
      ∙ (ap (λ (ls : List Line). flat_map lines (note history packet) ++ ls) (placed_flat (history ++ Live packet labels ∷ []) cells)
      ∙ sym (flat_map-append lines (note history packet) (notes_after note (history ++ Live packet labels ∷ []) cells)))
  placed_flat history (Dropped ∷ cells) = placed_flat (history ++ Dropped ∷ []) cells

  -- those of the notes below a position
  pub given_flat : (at : N → ℕ) (one : (history : List Cell) (packet : List ℕ) → IsNoteAt at (length history) (note history packet))
      (notes : List N) (history : List Cell) (mark : ℕ) (w : KeepsNotes note notes history mark)
      (to : ℕ) (notes_new : List N) (le : mark ≤ to) (within : to ≤ length history) (takes : TakesBelow at to notes notes_new)
      → flat_map lines (take_while (λ (n : N). nat_lt (at n) to) notes) ≡ placed_between rule history mark to
  given_flat at one notes history mark w to notes_new le within takes =
      let all : to ≡ mark + (to - mark) = omega arith in
      let same : drop mark (take to history) ≡ take (to - mark) (drop mark history) =
      ap (λ (k : ℕ). drop mark (take k history)) all ∙ drop-take mark (to - mark) history in
      ap (flat_map lines)
      (keeping.front_is note at one notes history mark w to notes_new le within takes
      ∙ keeping.taken_is note at one notes history mark w to notes_new le within takes)
      ∙ (ap (λ (cells : List Cell). flat_map lines (notes_after note (take mark history) cells)) (sym same)
      ∙ sym (placed_flat (take mark history) (drop mark (take to history))))

-- the lines of the first note below a position are made before those of the others
pub flat_more : {N : Type 0} (at : N → ℕ) (lines_of : N → List Line) (mark : ℕ) (lines lines_new all : List Line) (left rest : List N) (note : N)
    → left ≡ note ∷ rest → at note < mark → lines_new ≡ lines ++ lines_of note
    → lines ++ flat_map lines_of (take_while (λ n. nat_lt (at n) mark) left) ≡ all
    → lines_new ++ flat_map lines_of (take_while (λ n. nat_lt (at n) mark) rest) ≡ all
flat_more {N} at lines_of mark lines lines_new all left rest note is below pushed so_far =
    let more = take_while (λ (n : N). nat_lt (at n) mark) rest in
    let front : take_while (λ (n : N). nat_lt (at n) mark) left ≡ note ∷ more =
    ap (take_while (λ (n : N). nat_lt (at n) mark)) is
    ∙ (take_while-cons (λ (n : N). nat_lt (at n) mark) note rest
    ∙ ap (λ (b : Bool). if b then note ∷ more else []) (is_below (at note) mark below)) in
    ap (λ (ls : List Line). ls ++ flat_map lines_of more) pushed
    ∙ (append_assoc lines (lines_of note) (flat_map lines_of more)
    ∙ (ap (λ (ns : List N). lines ++ flat_map lines_of ns) (sym front) ∙ so_far))
