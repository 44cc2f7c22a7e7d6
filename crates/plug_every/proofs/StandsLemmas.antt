-- What a plugin with summaries so far stands for, cell by cell and mark by mark.
use Rattle.std.proofs.Common.{◌≡◌, ℕ, ◌+◌, ◌≤◌, List, [], ◌∷◌, ◌++◌, length, take, Bool, Option, None, Some, refl, ap, sym, subst, ◌∙◌, arith, append-nil}
use Rattle.std.proofs.lemmas.List.{take-append-le}
use Rattle.std.proofs.lemmas.List.Concat.{flat_map-append}
use Rattle.ts_packet.specs.declared.cell.Cell.{Cell}
use Rattle.ts_packet.specs.Cells.{Live, Dropped, live_packets, packet_in}
use Rattle.chain_model.specs.PluginRule.{PluginRule}
use Rattle.plugin_trait.specs.LiveCount.{live_count}
use Rattle.plugin_notes.specs.Notes.{notes_after}
use Rattle.plugin_notes.specs.NotesKept.{KeepsNotes}
use Rattle.plugin_notes.proofs.Keeping.{keeps_cell, longer}
use Rattle.plug_every.specs.DueNotes.{due_on, place_of}
use Rattle.plug_every.specs.EveryStands.{GoesOn, MetAt, NotesDue, StandsEvery}
use Rattle.plug_every.specs.declared.every_plugin.EveryPlugin.{EveryPlugin}
use Rattle.plug_every.proofs.DueCells.{at_place}

-- there are no more packets than cells
pub few_live : (cells : List Cell) → live_count cells ≤ length cells
few_live [] = let none : live_count [] ≤ 0 = omega arith in none
few_live (Live packet labels ∷ cells) = let rest : length (live_packets cells) ≤ length cells = few_live cells in omega arith
few_live (Dropped ∷ cells) = let rest : length (live_packets cells) ≤ length cells = few_live cells in omega arith

pub count-dropped : (history : List Cell) → live_count (history ++ Dropped ∷ []) ≡ live_count history
count-dropped history =
    ap length (flat_map-append packet_in history (Dropped ∷ [])) ∙ ap length (append-nil (live_packets history))

module _ {P : Type 0} (rule : P → PluginRule) (stands : P → List Cell → ℕ → Type 0) where
  goes_cell : (failed : Option Bool) (old new : EveryPlugin P) (history : List Cell) (cell : Cell) (mark inner : ℕ) → mark ≤ length history
      → GoesOn rule stands failed old history mark inner → new.mark ≡ old.mark → new.every ≡ old.every → rule new.plugin ≡ rule old.plugin
      → (failed ≡ None → new.due.items ≡ old.due.items ++ notes_after (due_on old.every) history (cell ∷ []))
      → GoesOn rule stands failed new (history ++ cell ∷ []) mark inner
  goes_cell None old new history cell mark inner le goes at every same noted = (
    goes.0,
    at ∙ goes.1,
    subst (λ (n : ℕ). KeepsNotes (due_on n) new.due.items (history ++ cell ∷ []) mark) (sym every)
        (keeps_cell (due_on old.every) place_of (at_place old.every) old.due.items history mark goes.2 cell new.due.items (noted refl)),
  )
  goes_cell (Some fault) old new history cell mark inner le goes at every same noted =
      goes
      ∙ (ap (λ (r : PluginRule). r.has_fault (take mark history)) (sym same)
      ∙ ap (λ (cells : List Cell). (rule new.plugin).has_fault cells) (sym (take-append-le mark history (cell ∷ []) le)))

  -- it met one more cell
  pub stands_cell : (old new : EveryPlugin P) (history : List Cell) (cell : Cell) (mark : ℕ) (w : StandsEvery rule stands old history mark)
      → stands new.plugin (history ++ cell ∷ []) w.inner → new.every ≡ old.every → new.seen ≡ live_count (history ++ cell ∷ []) → new.mark ≡ old.mark
      → new.failed ≡ old.failed → rule new.plugin ≡ rule old.plugin
      → (old.failed ≡ None → new.due.items ≡ old.due.items ++ notes_after (due_on old.every) history (cell ∷ []))
      → StandsEvery rule stands new (history ++ cell ∷ []) mark
  stands_cell old new history cell mark w holds every seen at failed same noted = record {
    inner = w.inner;
    holds = holds;
    positive = omega (arith, w.positive, every);
    seen = seen;
    marked = longer history cell mark w.marked;
    goes = subst (λ (f : Option Bool). GoesOn rule stands f new (history ++ cell ∷ []) mark w.inner) (sym failed)
        (goes_cell old.failed old new history cell mark w.inner w.marked w.goes at every same noted);
  }

  -- the same cells, where the plugin within stands for what it stood for
  pub stands_still : (old new : EveryPlugin P) (history : List Cell) (mark : ℕ) (w : StandsEvery rule stands old history mark)
      → stands new.plugin history w.inner → new.every ≡ old.every → new.seen ≡ old.seen → new.mark ≡ old.mark
      → new.failed ≡ old.failed → rule new.plugin ≡ rule old.plugin → new.due.items ≡ old.due.items
      → StandsEvery rule stands new history mark
  stands_still old new history mark w holds every seen at failed same noted = record {
    inner = w.inner;
    holds = holds;
    positive = omega (arith, w.positive, every);
    seen = seen ∙ w.seen;
    marked = w.marked;
    goes = subst (λ (f : Option Bool). GoesOn rule stands f new history mark w.inner) (sym failed) (go old.failed w.goes);
  }
    where
      go : (f : Option Bool) → GoesOn rule stands f old history mark w.inner → GoesOn rule stands f new history mark w.inner
      go None goes = (
        goes.0,
        at ∙ goes.1,
        subst (λ (n : ℕ). KeepsNotes (due_on n) new.due.items history mark) (sym every)
            (subst (λ (due : List _). KeepsNotes (due_on old.every) due history mark) (sym noted) goes.2),
      )
      go (Some fault) goes = goes ∙ ap (λ (r : PluginRule). r.has_fault (take mark history)) (sym same)

  -- what it stands for until a report fails
  pub opened : (s : EveryPlugin P) (history : List Cell) (mark : ℕ) (w : StandsEvery rule stands s history mark) → s.failed ≡ None
      → NotesDue (stands s.plugin) s.every s.due.items history mark × (s.mark ≡ mark)
  opened s history mark w none =
      let goes : GoesOn rule stands None s history mark w.inner = subst (λ (f : Option Bool). GoesOn rule stands f s history mark w.inner) none w.goes in
      (record { holds = subst (stands s.plugin history) goes.0 w.holds; notes = goes.2 }, goes.1)

  -- it was given a mark
  pub stands_to : (old new : EveryPlugin P) (history : List Cell) (mark written : ℕ) (w : StandsEvery rule stands old history mark) → written ≤ length history
      → NotesDue (stands new.plugin) old.every new.due.items history written → new.every ≡ old.every → new.seen ≡ old.seen → new.mark ≡ written
      → new.failed ≡ None → StandsEvery rule stands new history written
  stands_to old new history mark written w within due every seen at none = record {
    inner = written;
    holds = due.holds;
    positive = omega (arith, w.positive, every);
    seen = seen ∙ w.seen;
    marked = within;
    goes = subst (λ (f : Option Bool). GoesOn rule stands f new history written written) (sym none) (
      refl,
      at,
      subst (λ (n : ℕ). KeepsNotes (due_on n) new.due.items history written) (sym every) due.notes,
    );
  }

  -- memory ran out at a mark
  pub stands_lost : (old new : EveryPlugin P) (history : List Cell) (mark : ℕ) (fault : Bool) (w : StandsEvery rule stands old history mark)
      → MetAt (stands new.plugin) history → new.every ≡ old.every → new.seen ≡ old.seen → new.failed ≡ Some fault
      → rule new.plugin ≡ rule old.plugin → fault ≡ (rule old.plugin).has_fault (take mark history)
      → StandsEvery rule stands new history mark
  stands_lost old new history mark fault w met every seen failed same is = record {
    inner = met.mark;
    holds = met.holds;
    positive = omega (arith, w.positive, every);
    seen = seen ∙ w.seen;
    marked = w.marked;
    goes = subst (λ (f : Option Bool). GoesOn rule stands f new history mark met.mark) (sym failed)
        (is ∙ ap (λ (r : PluginRule). r.has_fault (take mark history)) (sym same));
  }
