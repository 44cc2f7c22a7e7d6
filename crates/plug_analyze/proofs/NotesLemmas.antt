-- The notes of a list of cells, and the PIDs that they have.
use Rattle.std.proofs.Common.{◌≡◌, ◌<◌, ℕ, List, [], ◌∷◌, ◌++◌, length, map, filter, ap, sym, subst, ◌∙◌, inr, refl, Bool, true, false, not, if◌then◌else◌, ◌==◌, Option, None, Some, arith}
use Rattle.std.specs.List.{All}
use Rattle.std.proofs.lemmas.List.{map-append}
use Rattle.std.proofs.lemmas.List.Elements.{All-push, filter-append}
use Rattle.ts_packet.specs.declared.cell.Cell.{Cell}
use Rattle.ts_packet.specs.Cells.{Live, Dropped, live_packets}
use Rattle.ts_packet.specs.declared.numbers.TheConstants.{NULL_PID, PID_COUNT}
use Rattle.ts_bit_rows.proofs.Fields.{field-below}
use Rattle.ts_packet.specs.Header.{pid_of, counter_of, has_payload_of}
use Rattle.plugin_notes.specs.declared.continuity_error.ContinuityError.{ContinuityError}
use Rattle.plugin_notes.specs.Counters.{is_fault, wanted_behind, last_of}
use Rattle.plugin_notes.specs.ContinuityErrors.{error_after, error_on}
use Rattle.plugin_notes.specs.Notes.{notes_after}
use Rattle.plugin_notes.specs.Tallies.{IsCounted}
use Rattle.plugin_notes.proofs.Noting.{IsNoteAt}
use Rattle.plug_analyze.specs.declared.note.Note.{Note}
use Rattle.plug_analyze.specs.declared.totals.Totals.{Totals}
use Rattle.plug_analyze.specs.AnalyzeRule.{all_pids, has_pcr, is_scrambled}
use Rattle.plug_analyze.specs.AnalyzeNotes.{is_any, note_on, noted, pid_in, place_of}
use Rattle.plug_analyze.specs.TotalsOf.{AreCounted, AreTotals, pids_of}

-- each packet has one note, which bears its position
pub one_note : (history : List Cell) (packet : List ℕ) → IsNoteAt place_of (length history) (note_on history packet)
one_note history packet = record { one = inr (noted history packet, refl, refl) }

-- it is on a PID
pub on_pids : (history : List Cell) (packet : List ℕ) → All (λ (n : Note). pid_in n < PID_COUNT) (note_on history packet)
on_pids history packet = All-push (λ (n : Note). pid_in n < PID_COUNT) [] (noted history packet) (λ k d lt. absurd (let less : ⊥ = omega (arith, lt) in less)) (field-below packet 11 13)

-- the PIDs of notes with one more
pub pids_of-more : (notes : List Note) (note : Note) → pids_of (notes ++ note ∷ []) ≡ pids_of notes ++ note.pid ∷ []
pids_of-more notes note = map-append (λ (n : Note). n.pid) notes (note ∷ [])

pub pids_where-more : (test : Note → Bool) (notes : List Note) (note : Note)
    → pids_of (filter test (notes ++ note ∷ [])) ≡ pids_of (filter test notes) ++ (if test note then note.pid ∷ [] else [])
pids_where-more test notes note =
    ap pids_of (filter-append test notes (note ∷ []))
    ∙ (map-append (λ (n : Note). n.pid) (filter test notes) (filter test (note ∷ []))
    ∙ ap (λ (pids : List ℕ). pids_of (filter test notes) ++ pids) (last (test note)))
  where
    last : (b : Bool) → pids_of (if b then note ∷ [] else []) ≡ (if b then note.pid ∷ [] else [])
    last true = refl
    last false = refl

-- the notes bear the PIDs of the packets
pids_of-notes : (history cells : List Cell) → pids_of (notes_after note_on history cells) ≡ map pid_of (live_packets cells)
pids_of-notes history [] = refl
pids_of-notes history (Live packet labels ∷ cells) = ap (λ (pids : List ℕ). pid_of packet ∷ pids) (pids_of-notes (history ++ Live packet labels ∷ []) cells)
pids_of-notes history (Dropped ∷ cells) = pids_of-notes (history ++ Dropped ∷ []) cells

-- and so do those of one kind
module _ (test : Note → Bool) (kind : List ℕ → Bool) (same : (history : List Cell) (packet : List ℕ) → test (noted history packet) ≡ kind packet) where
  pids_where-notes : (history cells : List Cell) → pids_of (filter test (notes_after note_on history cells)) ≡ map pid_of (filter kind (live_packets cells))
  pids_where-notes history [] = refl
  pids_where-notes history (Live packet labels ∷ cells) =
      let rest = filter test (notes_after note_on (history ++ Live packet labels ∷ []) cells) in
      let ih : pids_of rest ≡ map pid_of (filter kind (live_packets cells)) = pids_where-notes (history ++ Live packet labels ∷ []) cells in
      ap (λ (b : Bool). pids_of (if b then noted history packet ∷ rest else rest)) (same history packet)
      ∙ (elim (kind packet) as (λ b. pids_of (if b then noted history packet ∷ rest else rest) ≡ map pid_of (if b then packet ∷ filter kind (live_packets cells) else filter kind (live_packets cells))) [
        | true ↦ ap (λ (pids : List ℕ). pid_of packet ∷ pids) ih
        | false ↦ ih
      ])
  pids_where-notes history (Dropped ∷ cells) = pids_where-notes (history ++ Dropped ∷ []) cells

-- a fault is on its packet's PID
fault_pid : (at : ℕ) (last : Option (List ℕ)) (packet : List ℕ) (w : Bool)
    → map (λ (e : ContinuityError). e.pid) (if w then error_after at last packet else []) ≡ (if is_any (if w then error_after at last packet else []) then pid_of packet ∷ [] else [])
fault_pid at last packet false = refl
fault_pid at None packet true = refl
fault_pid at (Some before) packet true =
    let fault : ContinuityError = record { at = at; pid = pid_of packet; counter = counter_of packet; wanted = wanted_behind before packet } in
    elim (is_fault before packet) as (λ b. map (λ (e : ContinuityError). e.pid) (if b then fault ∷ [] else []) ≡ (if is_any (if b then fault ∷ [] else []) then pid_of packet ∷ [] else [])) [
      | true ↦ refl
      | false ↦ refl
    ]

-- the notes of faults bear the faults' PIDs
pids_of-faults : (history cells : List Cell)
    → pids_of (filter (λ (n : Note). n.is_fault) (notes_after note_on history cells)) ≡ map (λ (e : ContinuityError). e.pid) (notes_after (error_on all_pids) history cells)
pids_of-faults history [] = refl
pids_of-faults history (Live packet labels ∷ cells) =
    let next = history ++ Live packet labels ∷ [] in
    let rest = filter (λ (n : Note). n.is_fault) (notes_after note_on next cells) in
    let faults = map (λ (e : ContinuityError). e.pid) (notes_after (error_on all_pids) next cells) in
    let ih : pids_of rest ≡ faults = pids_of-faults next cells in
    let here : map (λ (e : ContinuityError). e.pid) (error_on all_pids history packet) ≡ (if is_any (error_on all_pids history packet) then pid_of packet ∷ [] else []) =
    fault_pid (length history) (last_of (pid_of packet) history) packet (not (pid_of packet == NULL_PID)) in
    (elim (is_any (error_on all_pids history packet)) as (λ b. pids_of (if b then noted history packet ∷ rest else rest) ≡ (if b then pid_of packet ∷ [] else []) ++ faults) [
      | true ↦ ap (λ (pids : List ℕ). pid_of packet ∷ pids) ih
      | false ↦ ih
    ])
    ∙ (ap (λ (pids : List ℕ). pids ++ faults) (sym here)
    ∙ sym (map-append (λ (e : ContinuityError). e.pid) (error_on all_pids history packet) (notes_after (error_on all_pids) next cells)))
pids_of-faults history (Dropped ∷ cells) = pids_of-faults (history ++ Dropped ∷ []) cells

-- what was counted of the notes of cells was counted of the cells
pub are_counted : (totals : Totals) (notes : List Note) (cells : List Cell) → notes ≡ notes_after note_on [] cells → AreTotals totals notes → AreCounted totals cells
are_counted totals notes cells is t = record {
  packets = subst (IsCounted totals.packets) (ap pids_of is ∙ pids_of-notes [] cells) t.packets;
  payload = subst (IsCounted totals.payload)
      (ap (λ (ns : List Note). pids_of (filter (λ (n : Note). n.has_payload) ns)) is ∙ pids_where-notes (λ (n : Note). n.has_payload) has_payload_of (λ h p. refl) [] cells) t.payload;
  scrambled = subst (IsCounted totals.scrambled)
      (ap (λ (ns : List Note). pids_of (filter (λ (n : Note). n.is_scrambled) ns)) is ∙ pids_where-notes (λ (n : Note). n.is_scrambled) is_scrambled (λ h p. refl) [] cells) t.scrambled;
  faults = subst (IsCounted totals.faults)
      (ap (λ (ns : List Note). pids_of (filter (λ (n : Note). n.is_fault) ns)) is ∙ pids_of-faults [] cells) t.faults;
  pcr = subst (IsCounted totals.pcr)
      (ap (λ (ns : List Note). pids_of (filter (λ (n : Note). n.has_pcr) ns)) is ∙ pids_where-notes (λ (n : Note). n.has_pcr) has_pcr (λ h p. refl) [] cells) t.pcr;
}
