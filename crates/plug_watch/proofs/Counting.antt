-- Lemmas on notes on counted packets, and on their counts.
use Rattle.std.proofs.Common.{◌≡◌, ℕ, ◌<◌, List, [], ◌∷◌, ◌++◌, length, map, filter, ap, inl, inr, refl, true, false, if◌then◌else◌, arith}
use Rattle.std.specs.List.{All}
use Rattle.std.proofs.lemmas.List.Elements.{All-push}
use Rattle.ts_packet.specs.declared.cell.Cell.{Cell}
use Rattle.ts_packet.specs.Cells.{Live, Dropped, live_packets}
use Rattle.ts_packet.specs.Header.{pid_of}
use Rattle.ts_packet.specs.declared.numbers.TheConstants.{PID_COUNT}
use Rattle.ts_bit_rows.proofs.Fields.{field-below}
use Rattle.plug_watch.specs.declared.count_conf.CountConf.{CountConf}
use Rattle.plug_watch.specs.declared.note.Note.{Note}
use Rattle.plugin_notes.specs.Notes.{notes_after}
use Rattle.plug_watch.specs.CountRule.{is_counted, counted, line_on, packet_text}
use Rattle.plug_watch.specs.CountNotes.{note_on, pid_in, place_of, text_on}
use Rattle.plugin_notes.proofs.Noting.{IsNoteAt}

-- at most one note
pub one_note : (conf : CountConf) (history : List Cell) (packet : List ℕ) → IsNoteAt place_of (length history) (note_on conf history packet)
one_note conf history packet =
    let note : Note = record { at = length history; pid = pid_of packet } in
    elim (is_counted conf packet) as (λ b. IsNoteAt place_of (length history) (if b then note ∷ [] else [])) [
      | true ↦ record { one = inr (note, refl, refl) }
      | false ↦ record { one = inl refl }
    ]

-- the rule's line of a packet is that of its note
pub line_on-notes : (conf : CountConf) (history : List Cell) (packet : List ℕ) → line_on conf history packet ≡ map text_on (note_on conf history packet)
line_on-notes conf history packet =
    let note : Note = record { at = length history; pid = pid_of packet } in
    elim (is_counted conf packet) as (λ b. (if b then packet_text (length history) (pid_of packet) ∷ [] else []) ≡ map text_on (if b then note ∷ [] else [])) [
      | true ↦ refl
      | false ↦ refl
    ]

-- the notes are on PIDs
pub on_pids : (conf : CountConf) (history : List Cell) (packet : List ℕ) → All (λ (n : Note). pid_in n < PID_COUNT) (note_on conf history packet)
on_pids conf history packet =
    let note : Note = record { at = length history; pid = pid_of packet } in
    elim (is_counted conf packet) as (λ b. All (λ (n : Note). pid_in n < PID_COUNT) (if b then note ∷ [] else [])) [
      | true ↦ All-push (λ (n : Note). pid_in n < PID_COUNT) [] note none (field-below packet 11 13)
      | false ↦ none
    ]
  where
    none : All (λ (n : Note). pid_in n < PID_COUNT) []
    none = λ k d lt. absurd (let less : ⊥ = omega (arith, lt) in less)

-- the PIDs of the notes are those of the counted packets
pub pids_of-notes : (conf : CountConf) (history cells : List Cell) → map pid_in (notes_after (note_on conf) history cells) ≡ map pid_of (counted conf cells)
pids_of-notes conf history [] = refl
pids_of-notes conf history (Live packet labels ∷ cells) =
    let note : Note = record { at = length history; pid = pid_of packet } in
    let rest = notes_after (note_on conf) (history ++ Live packet labels ∷ []) cells in
    let ih = pids_of-notes conf (history ++ Live packet labels ∷ []) cells in
    elim (is_counted conf packet) as (λ b.
    map pid_in ((if b then note ∷ [] else []) ++ rest)
    ≡ map pid_of (if b then packet ∷ filter (is_counted conf) (live_packets cells) else filter (is_counted conf) (live_packets cells))) [
      | true ↦ ap (λ (pids : List ℕ). pid_of packet ∷ pids) ih
      | false ↦ ih
    ]
pids_of-notes conf history (Dropped ∷ cells) = pids_of-notes conf (history ++ Dropped ∷ []) cells
