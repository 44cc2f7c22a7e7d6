-- The lines that are given out from one mark up to another, due packet by due packet.
use Rattle.std.proofs.Common.{◌≡◌, ℕ, ◌+◌, ◌<◌, ◌≤◌, List, [], ◌∷◌, ◌++◌, length, take, Bool, Result, Ok, Err, is_ok, if◌then◌else◌, refl, ap, sym, subst, ◌∙◌, arith, append_assoc}
use Rattle.std.specs.Result.{OnOk}
use Rattle.std.specs.declared.alloc.AllocError.{AllocError}
use Rattle.ts_packet.specs.declared.cell.Cell.{Cell}
use Rattle.chain_model.specs.PluginRule.{PluginRule}
use Rattle.plugin_trait.specs.PlacedLines.{placed_at, placed_between}
use Rattle.plugin_trait.specs.declared.line.Line.{Line}
use Rattle.plugin_trait.proofs.Giving.{joined}
use Rattle.plugin_notes.specs.NotesKept.{StartsFrom}
use Rattle.plugin_notes.proofs.Keeping.{keeps_left}
use Rattle.plug_every.specs.EveryRule.{every_rule, summed_up}
use Rattle.plug_every.specs.EveryStands.{NotesDue}
use Rattle.plug_every.specs.DueNotes.{due_on, place_of}
use Rattle.plug_every.specs.declared.due.Due.{Due}
use Rattle.plug_every.proofs.DueCells.{at_place}
use Rattle.plug_every.proofs.Between.{IsNext, is_next, none_due}

-- between two marks: how far the lines were given out
pub record IsGiven (rule : PluginRule) (stands : List Cell → ℕ → Type 0) (n : ℕ) (counts : Bool) (due : List Due) (history : List Cell) (mark written : ℕ)
    (before lines : List Line) : Type 0 where
  pub to : ℕ
  pub is : NotesDue stands n due history to
  pub low : mark ≤ to
  pub high : to ≤ written
  pub lines_are : lines ≡ before ++ placed_between (every_rule n counts rule) history mark to

module _ (rule now : PluginRule) (same : now ≡ rule) (stands after : List Cell → ℕ → Type 0) (n : ℕ) (counts : Bool) (history : List Cell) (mark written : ℕ) (before lines : List Line) where
  -- up to a due packet and with it
  pub one_given : (due : Due) (notes rest : List Due) (more : List Line) (given : IsGiven rule stands n counts notes history mark written before lines)
      → notes ≡ due ∷ rest → due.at < written → after history (due.at + 1)
      → more ≡ lines ++ (placed_between now history given.to (due.at + 1) ++ placed_at due.at (summed_up counts now (take (due.at + 1) history)))
      → IsGiven rule after n counts rest history mark written before more
  one_given due notes rest more given split below holds is =
      let next : IsNext n counts rule history given.to due rest = is_next n counts rule history given.to due notes rest given.is.notes split in
      let every : PluginRule = every_rule n counts rule in
      let own : more ≡ lines ++ (placed_between rule history given.to (due.at + 1) ++ placed_at due.at (summed_up counts rule (take (due.at + 1) history))) =
      is ∙ ap (λ (r : PluginRule). lines ++ (placed_between r history given.to (due.at + 1) ++ placed_at due.at (summed_up counts r (take (due.at + 1) history)))) same in
      record {
        to = due.at + 1;
        is = record { holds = holds; notes = next.keeps };
        low = omega (arith, given.low, next.low);
        high = omega (arith, below);
        lines_are = own
            ∙ (ap (λ (added : List Line). lines ++ added) (sym next.lines)
            ∙ (ap (λ (xs : List Line). xs ++ placed_between every history given.to (due.at + 1)) given.lines_are
            ∙ (append_assoc before (placed_between every history mark given.to) (placed_between every history given.to (due.at + 1))
            ∙ ap (λ (added : List Line). before ++ added) (joined every history mark given.to (due.at + 1) given.low next.low))));
      }

  -- up to the mark, where no packet below it is due any more
  pub all_given : (notes : List Due) (more : List Line) (given : IsGiven rule stands n counts notes history mark written before lines)
      → StartsFrom place_of written notes → written ≤ length history → after history written
      → more ≡ lines ++ placed_between now history given.to written
      → NotesDue after n notes history written × (more ≡ before ++ placed_between (every_rule n counts rule) history mark written)
  all_given notes more given starts within holds is =
      let every : PluginRule = every_rule n counts rule in (
        record {
          holds = holds;
          notes = keeps_left (due_on n) place_of (at_place n) notes history given.to given.is.notes written notes given.high within
              (record { taken = []; split = refl; below = refl; left = starts });
        },
        is
            ∙ (ap (λ (r : PluginRule). lines ++ placed_between r history given.to written) same
            ∙ (ap (λ (added : List Line). lines ++ added) (sym (none_due n counts rule history given.to written notes given.is.notes starts given.high))
            ∙ (ap (λ (xs : List Line). xs ++ placed_between every history given.to written) given.lines_are
            ∙ (append_assoc before (placed_between every history mark given.to) (placed_between every history given.to written)
            ∙ ap (λ (added : List Line). before ++ added) (joined every history mark given.to written given.low given.high))))),
      )

  -- the same, where memory lasts
  pub noted_given : (r : Result (Unit {0}) AllocError) (notes left : List Due) (more : List Line) (given : IsGiven rule stands n counts notes history mark written before lines)
      → left ≡ notes → StartsFrom place_of written notes → written ≤ length history
      → after history (if is_ok r then written else given.to) × (more ≡ lines ++ (if is_ok r then placed_between now history given.to written else []))
      → OnOk r (NotesDue after n left history written × (more ≡ before ++ placed_between (every_rule n counts rule) history mark written))
  noted_given (Ok u) notes left more given same_notes starts within gives =
      subst (λ (due : List Due). NotesDue after n due history written × (more ≡ before ++ placed_between (every_rule n counts rule) history mark written)) (sym same_notes)
      (all_given notes more given starts within gives.0 gives.1)
  noted_given (Err e) notes left more given same_notes starts within gives = tt
