-- Lemmas on what a value of `continuity` keeps, cell by cell and mark by mark.
use Rattle.std.proofs.Common.{◌≡◌, ℕ, ◌+◌, ◌<◌, ◌≤◌, List, [], ◌∷◌, ◌++◌, length, map, ap, ap₂, sym, ◌∙◌, refl, Bool, true, false, if◌then◌else◌, append-nil, Option, None, Some, arith, length-append, take, nat_lt}
use Rattle.std.specs.List.{take_while}
use Rattle.std.proofs.lemmas.List.{length-map}
use Rattle.chain_model.specs.declared.positions.TheConstants.{POSITION_LIMIT}
use Rattle.plugin_trait.specs.PlacedLines.{placed_at, placed_between}
use Rattle.plugin_notes.proofs.Noting.{placed_at-notes}
use Rattle.ts_packet.specs.declared.cell.Cell.{Cell}
use Rattle.ts_packet.specs.Cells.{Live, Dropped}
use Rattle.ts_packet.specs.Header.{pid_of, counter_of}
use Rattle.plugin_notes.specs.declared.continuity_conf.ContinuityConf.{ContinuityConf}
use Rattle.plugin_notes.specs.declared.continuity_error.ContinuityError.{ContinuityError}
use Rattle.plugin_notes.specs.declared.last_packets.LastPackets.{LastPackets}
use Rattle.plugin_notes.specs.Counters.{is_watched, is_fault, wanted_behind, last_of, fault_text}
use Rattle.plug_watch.specs.ContinuityRule.{fault_behind, fault_on, continuity_rule}
use Rattle.plugin_notes.specs.ContinuityErrors.{error_after, error_on, line_of_error, place_of_error, text_of_error}
use Rattle.plugin_notes.specs.Notes.{notes_after}
use Rattle.plugin_notes.specs.NotesKept.{TakesBelow, notes_below}
use Rattle.plugin_notes.proofs.Keeping as keeping
use Rattle.plugin_notes.specs.LastSeen.{Remembers}
use Rattle.plug_watch.specs.ContinuitySeen.{Watches}
use Rattle.plugin_notes.proofs.Remembering.{one_fault, remembers_dropped, remembers_other}

-- the rule's line of a packet is that of its error
texts_after : (at : ℕ) (before : Option (List ℕ)) (packet : List ℕ) → fault_behind at before packet ≡ map text_of_error (error_after at before packet)
texts_after at None packet = refl
texts_after at (Some before) packet =
    let fault : ContinuityError = record { at = at; pid = pid_of packet; counter = counter_of packet; wanted = wanted_behind before packet } in
    elim (is_fault before packet) as (λ b. (if b then fault_text at (pid_of packet) (counter_of packet) (wanted_behind before packet) ∷ [] else []) ≡ map text_of_error (if b then fault ∷ [] else [])) [
      | true ↦ refl
      | false ↦ refl
    ]

texts_on : (conf : ContinuityConf) (history : List Cell) (packet : List ℕ) → fault_on conf history packet ≡ map text_of_error (error_on conf history packet)
texts_on conf history packet =
    let last = last_of (pid_of packet) history in
    elim (is_watched conf (pid_of packet)) as (λ b. (if b then fault_behind (length history) last packet else []) ≡ map text_of_error (if b then error_after (length history) last packet else [])) [
      | true ↦ texts_after (length history) last packet
      | false ↦ refl
    ]

-- its lines are those of its errors
lines_on : (conf : ContinuityConf) (history : List Cell) (packet : List ℕ) (labels : ℕ)
    → placed_at (length history) ((continuity_rule conf).lines_of history packet labels) ≡ map line_of_error (error_on conf history packet)
lines_on conf history packet labels =
    ap (placed_at (length history)) (texts_on conf history packet)
    ∙ placed_at-notes place_of_error text_of_error (length history) (error_on conf history packet) (one_fault conf history packet)

-- there are as many lines as errors
same_number : (conf : ContinuityConf) (history cells : List Cell) → length (notes_after (fault_on conf) history cells) ≡ length (notes_after (error_on conf) history cells)
same_number conf history [] = refl
same_number conf history (Live packet labels ∷ cells) =
    let next = history ++ Live packet labels ∷ [] in
    let here : length (fault_on conf history packet) ≡ length (error_on conf history packet) =
    ap length (texts_on conf history packet) ∙ length-map (error_on conf history packet) text_of_error in
    length-append (fault_on conf history packet) (notes_after (fault_on conf) next cells)
    ∙ (ap₂ (λ a b. a + b) here (same_number conf next cells)
    ∙ sym (length-append (error_on conf history packet) (notes_after (error_on conf) next cells)))
same_number conf history (Dropped ∷ cells) = same_number conf (history ++ Dropped ∷ []) cells

module _ (conf : ContinuityConf) (last : LastPackets) (notes : List ContinuityError) (count : ℕ) (history : List Cell) (mark : ℕ)
    (w : Watches conf last notes count history mark) where
  -- one more cell, whose errors are appended
  watches_cell : (cell : Cell) (last_new : LastPackets) (notes_new : List ContinuityError) → length history < POSITION_LIMIT → Remembers conf last_new (history ++ cell ∷ [])
      → notes_new ≡ notes ++ notes_after (error_on conf) history (cell ∷ []) → Watches conf last_new notes_new count (history ++ cell ∷ []) mark
  watches_cell cell last_new notes_new few remembers is = record {
    remembers = remembers;
    keeps = keeping.keeps_cell (error_on conf) place_of_error (one_fault conf) notes history mark w.keeps cell notes_new is;
    counted = w.counted ∙ ap length (keeping.below_cell (fault_on conf) history mark cell w.keeps.marked);
    short = omega (arith, few, length-append history (cell ∷ []));
  }

  -- a dropped cell
  pub watches_dropped : length history < POSITION_LIMIT → Watches conf last notes count (history ++ Dropped ∷ []) mark
  watches_dropped few = watches_cell Dropped last notes few (remembers_dropped conf last history w.remembers) (sym (append-nil notes))

  module _ (packet : List ℕ) (labels : ℕ) (few : length history < POSITION_LIMIT) where
    -- a packet on a PID that is not checked
    pub watches_other : is_watched conf (pid_of packet) ≡ false → Watches conf last notes count (history ++ Live packet labels ∷ []) mark
    watches_other unwatched =
        watches_cell (Live packet labels) last notes few (remembers_other conf last history w.remembers packet labels unwatched)
        (sym (ap (λ (b : Bool). notes ++ ((if b then error_after (length history) (last_of (pid_of packet) history) packet else []) ++ [])) unwatched ∙ append-nil notes))

    -- a packet that is checked
    pub watches_live : (last_new : LastPackets) (notes_new faults : List ContinuityError)
        → Remembers conf last_new (history ++ Live packet labels ∷ []) → faults ≡ error_on conf history packet → notes_new ≡ notes ++ faults
        → Watches conf last_new notes_new count (history ++ Live packet labels ∷ []) mark
    watches_live last_new notes_new faults remembers faults_are pushed =
        watches_cell (Live packet labels) last_new notes_new few remembers
        (pushed ∙ ap (λ (fs : List ContinuityError). notes ++ fs) (faults_are ∙ sym (append-nil (error_on conf history packet))))

  -- the number of faults before the mark is that of the errors
  number_is : count ≡ length (notes_below (error_on conf) mark history)
  number_is = w.counted ∙ same_number conf [] (take mark history)

  -- the counted and the noted faults together are no more than the cells
  pub few_faults : count + length notes ≤ POSITION_LIMIT
  few_faults = omega (arith, number_is, keeping.few_all (error_on conf) place_of_error (one_fault conf) notes history mark w.keeps, w.short)

  module _ (to : ℕ) (notes_new : List ContinuityError) (le : mark ≤ to) (within : to ≤ length history) (takes : TakesBelow place_of_error to notes notes_new) where
    -- a later mark
    pub watches_to : (removed : ℕ) → removed + length notes_new ≡ length notes → Watches conf last notes_new (count + removed) history to
    watches_to removed counted = record {
      remembers = w.remembers;
      keeps = keeping.keeps_left (error_on conf) place_of_error (one_fault conf) notes history mark w.keeps to notes_new le within takes;
      counted = ap (λ (n : ℕ). n + removed) number_is
          ∙ (keeping.number_to (error_on conf) place_of_error (one_fault conf) notes history mark w.keeps to notes_new le within takes removed counted
          ∙ sym (same_number conf [] (take to history)));
      short = w.short;
    }

    -- the lines that are given out are those of the rule
    pub given_is : map line_of_error (take_while (λ (f : ContinuityError). nat_lt (place_of_error f) to) notes) ≡ placed_between (continuity_rule conf) history mark to
    given_is =
        keeping.given_is (error_on conf) place_of_error (one_fault conf) notes history mark w.keeps to notes_new le within takes (continuity_rule conf) line_of_error (lines_on conf)
