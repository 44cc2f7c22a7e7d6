-- The lines from one mark up to another.
use Rattle.std.proofs.Common.{◌≡◌, ℕ, ◌+◌, ◌-◌, ◌≤◌, List, [], ◌∷◌, ◌++◌, length, take, drop, Bool, ap, sym, subst, ◌∙◌, arith, length-append, length-take, append_assoc}
use Rattle.std.proofs.Math.Seq.{take-append_seam, drop-append_seam}
use Rattle.std.proofs.lemmas.List.{drop-take, take-append-drop}
use Rattle.ts_packet.specs.declared.cell.Cell.{Cell}
use Rattle.ts_packet.specs.Cells.{Live}
use Rattle.chain_model.specs.PluginRule.{PluginRule}
use Rattle.plugin_trait.specs.LiveCount.{live_count}
use Rattle.plugin_trait.specs.PlacedLines.{placed_at, placed_after, placed_between}
use Rattle.plugin_notes.specs.Notes.{notes_after}
use Rattle.plugin_notes.specs.NotesKept.{KeepsNotes, StartsFrom}
use Rattle.plug_every.specs.EveryRule.{every_rule, summed_up}
use Rattle.plug_every.specs.DueNotes.{due_on, place_of}
use Rattle.plug_every.specs.declared.due.Due.{Due}
use Rattle.plug_every.proofs.DueCells.{FirstDue, count-live, first_due, lines_to_due, lines_without}

-- of cells after others: the first ones with those, and what is behind
module _ (history mid after : List Cell) (from to : ℕ) (cells : drop from history ≡ mid ++ after) (le : from ≤ length history) (size : to ≡ from + length mid) where
  whole_is : history ≡ (take from history ++ mid) ++ after
  whole_is = sym (take-append-drop from history) ∙ (ap (λ (c : List Cell). take from history ++ c) cells ∙ sym (append_assoc (take from history) mid after))

  size_is : to ≡ length (take from history ++ mid)
  size_is = omega (arith, size, length-append (take from history) mid, length-take from history, le)

  pub taken_is : take to history ≡ take from history ++ mid
  taken_is = ap (λ (n : ℕ). take n history) size_is ∙ (ap (take (length (take from history ++ mid))) whole_is ∙ take-append_seam (take from history ++ mid) after)

  pub left_is : drop to history ≡ after
  left_is = ap (λ (n : ℕ). drop n history) size_is ∙ (ap (drop (length (take from history ++ mid))) whole_is ∙ drop-append_seam (take from history ++ mid) after)

  pub between_is : drop from (take to history) ≡ mid
  between_is =
      ap (drop from) taken_is
      ∙ (ap (λ (n : ℕ). drop n (take from history ++ mid)) (let e : from ≡ length (take from history) = omega (arith, length-take from history, le) in e)
      ∙ drop-append_seam (take from history) mid)

-- what is known of a due packet, the first from a mark on
pub record IsNext (n : ℕ) (counts : Bool) (rule : PluginRule) (history : List Cell) (from : ℕ) (due : Due) (rest : List Due) : Type 0 where
  pub low : from ≤ due.at + 1
  pub within : due.at + 1 ≤ length history
  pub keeps : KeepsNotes (due_on n) rest history (due.at + 1)
  pub seen : due.seen ≡ live_count (take (due.at + 1) history)
  pub lines : placed_between (every_rule n counts rule) history from (due.at + 1)
      ≡ placed_between rule history from (due.at + 1) ++ placed_at due.at (summed_up counts rule (take (due.at + 1) history))

pub is_next : (n : ℕ) (counts : Bool) (rule : PluginRule) (history : List Cell) (from : ℕ) (due : Due) (notes rest : List Due)
    → KeepsNotes (due_on n) notes history from → notes ≡ due ∷ rest → IsNext n counts rule history from due rest
is_next n counts rule history from due notes rest keeps is =
    let first : FirstDue n counts rule (take from history) (drop from history) due rest =
    first_due n counts rule (take from history) (drop from history) due rest (sym keeps.kept ∙ is) in
    let mid : List Cell = first.before ++ Live first.packet first.labels ∷ [] in
    let met : List Cell = (take from history ++ first.before) ++ Live first.packet first.labels ∷ [] in
    let cells : drop from history ≡ mid ++ first.after = first.split ∙ sym (append_assoc first.before (Live first.packet first.labels ∷ []) first.after) in
    let place : due.at ≡ from + length first.before = omega (arith, first.place, length-append (take from history) first.before, length-take from history, keeps.marked) in
    let size : due.at + 1 ≡ from + length mid = omega (arith, place, length-append first.before (Live first.packet first.labels ∷ [])) in
    let taken : take (due.at + 1) history ≡ met =
    taken_is history mid first.after from (due.at + 1) cells keeps.marked size ∙ sym (append_assoc (take from history) first.before (Live first.packet first.labels ∷ [])) in
    let left : drop (due.at + 1) history ≡ first.after = left_is history mid first.after from (due.at + 1) cells keeps.marked size in
    let inside : drop from (take (due.at + 1) history) ≡ mid = between_is history mid first.after from (due.at + 1) cells keeps.marked size in
    let within : due.at + 1 ≤ length history =
    omega (arith, size, length-drop-sum history from keeps.marked, ap length cells, length-append mid first.after) in
    record {
      low = omega (arith, place);
      within = within;
      keeps = record {
        kept = first.rest_is ∙ (ap (λ (h : List Cell). notes_after (due_on n) h first.after) (sym taken) ∙ ap (notes_after (due_on n) (take (due.at + 1) history)) (sym left));
        marked = within;
      };
      seen = first.seen ∙ (sym (count-live (take from history ++ first.before) first.packet first.labels) ∙ ap live_count (sym taken));
      lines = ap (placed_after (every_rule n counts rule) (take from history)) inside
          ∙ (lines_to_due n counts rule (take from history) (drop from history) due rest first
          ∙ (ap (λ (cs : List Cell). placed_after rule (take from history) cs ++ placed_at due.at (summed_up counts rule met)) (sym inside)
          ∙ ap (λ (h : List Cell). placed_between rule history from (due.at + 1) ++ placed_at due.at (summed_up counts rule h)) (sym taken)));
    }
  where
    length-drop-sum : (cells : List Cell) (k : ℕ) → k ≤ length cells → k + length (drop k cells) ≡ length cells
    length-drop-sum cells k le = omega (arith, sym (length-append (take k cells) (drop k cells)), ap length (take-append-drop k cells), length-take k cells, le)

-- where none is due below a position
pub none_due : (n : ℕ) (counts : Bool) (rule : PluginRule) (history : List Cell) (from to : ℕ) (notes : List Due)
    → KeepsNotes (due_on n) notes history from → StartsFrom place_of to notes → from ≤ to
    → placed_between (every_rule n counts rule) history from to ≡ placed_between rule history from to
none_due n counts rule history from to notes keeps starts le =
    let same : drop from (take to history) ≡ take (to - from) (drop from history) =
    ap (λ (k : ℕ). drop from (take k history)) (let e : to ≡ from + (to - from) = omega arith in e) ∙ drop-take from (to - from) history in
    ap (placed_after (every_rule n counts rule) (take from history)) same
    ∙ (lines_without n counts rule (take from history) (drop from history) (to - from) to (omega (arith, length-take from history, keeps.marked, le))
    (subst (StartsFrom place_of to) keeps.kept starts)
    ∙ ap (placed_after rule (take from history)) (sym same))
