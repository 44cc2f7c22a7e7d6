-- Lemmas on faults of PCRs by what is kept, and on the number of noted PCRs.
use Rattle.std.proofs.Common.{◌≡◌, ℕ, ◌-◌, List, [], ◌∷◌, ◌++◌, length, filter, ap, sym, ◌∙◌, inl, inr, refl, Bool, true, false, nat_lt, if◌then◌else◌, Option, None, Some, option_map, arith}
use Rattle.ts_packet.specs.declared.cell.Cell.{Cell}
use Rattle.ts_packet.specs.Cells.{Live, Dropped, live_packets}
use Rattle.ts_packet.specs.Header.{pid_of}
use Rattle.ts_packet.specs.Adaptation.{discontinuity_of}
use Rattle.ts_packet.specs.MetRows.{Met}
use Rattle.ts_packet.specs.Pcr.{clock_of, has_pcr_of, pcr_of}
use Rattle.plugin_notes.specs.Notes.{notes_after}
use Rattle.plugin_notes.proofs.Noting.{IsNoteAt}
use Rattle.plug_pcr.specs.ClockJitter.{jitter_of}
use Rattle.plug_pcr.specs.ClockFaults.{fault_behind, fault_on, fault_with, is_clocked, last_clock_on, place_of_fault}
use Rattle.plug_pcr.specs.ClockNotes.{note_on, place_of_note}
use Rattle.plug_pcr.specs.LastClocks.{fault_after, kept_of, kept_on}
use Rattle.plug_pcr.specs.PcrverifyRule.{clocked}
use Rattle.plug_pcr.specs.declared.clock_fault.ClockFault.{ClockFault}
use Rattle.plug_pcr.specs.declared.clock_note.ClockNote.{ClockNote}
use Rattle.plug_clock.specs.declared.last_clock.LastClock.{LastClock}
use Rattle.plug_pcr.specs.declared.pcrverify_conf.PcrverifyConf.{PcrverifyConf}

-- a packet of which a PCR was read
pub pcr_reads : (packet : List ℕ) (clock : ℕ) → pcr_of packet ≡ (let s : Option ℕ = Some clock in s) → (has_pcr_of packet ≡ true) × (clock ≡ clock_of packet)
unfolding pcr_of
pcr_reads packet clock read = there (has_pcr_of packet) read
  where
    there : (b : Bool) → (if b then Some (clock_of packet) else None) ≡ (let s : Option ℕ = Some clock in s) → (b ≡ true) × (clock ≡ clock_of packet)
    there true is = (refl, cc)
    there false is = cc

-- a packet without a PCR
pub pcr_none : (packet : List ℕ) → pcr_of packet ≡ (let n : Option ℕ = None in n) → has_pcr_of packet ≡ false
unfolding pcr_of
pcr_none packet read = there (has_pcr_of packet) read
  where
    there : (b : Bool) → (if b then Some (clock_of packet) else None) ≡ (let n : Option ℕ = None in n) → b ≡ false
    there true is = cc
    there false is = refl

-- the fault after what is kept of a packet is that after the packet
after_kept : (conf : PcrverifyConf) (at : ℕ) (before : Option Met) (packet : List ℕ)
    → fault_after conf.bitrate conf.jitter_max at (option_map kept_of before) packet (clock_of packet) ≡ fault_behind conf at before packet
after_kept conf at None packet = refl
after_kept conf at (Some before) packet = refl

-- the fault of a packet follows from what is kept
pub fault_is : (conf : PcrverifyConf) (history : List Cell) (packet : List ℕ) (kept : Option LastClock) (clock at : ℕ) → is_clocked conf packet ≡ true
    → kept ≡ kept_on (pid_of packet) history → clock ≡ clock_of packet → length history ≡ at
    → fault_after conf.bitrate conf.jitter_max at kept packet clock ≡ fault_on conf history packet
fault_is conf history packet kept clock at is_one kept_is clock_is count =
    ap (λ (k : Option LastClock). fault_after conf.bitrate conf.jitter_max at k packet clock) kept_is
    ∙ (ap (λ (c : ℕ). fault_after conf.bitrate conf.jitter_max at (kept_on (pid_of packet) history) packet c) clock_is
    ∙ (ap (λ (n : ℕ). fault_after conf.bitrate conf.jitter_max n (kept_on (pid_of packet) history) packet (clock_of packet)) (sym count)
    ∙ (after_kept conf (length history) (last_clock_on (pid_of packet) history) packet
    ∙ sym (ap (λ (b : Bool). if b then fault_behind conf (length history) (last_clock_on (pid_of packet) history) packet else []) is_one))))

-- at most one fault
one_with : (jitter_max at : ℕ) (packet : List ℕ) (jitter : ℕ) → IsNoteAt place_of_fault at (fault_with jitter_max at packet jitter)
one_with jitter_max at packet jitter =
    let fault : ClockFault = record { at = at; pid = pid_of packet; jitter = jitter } in
    elim (nat_lt jitter_max jitter) as (λ b. IsNoteAt place_of_fault at (if b then fault ∷ [] else [])) [
      | true ↦ record { one = inr (fault, refl, refl) }
      | false ↦ record { one = inl refl }
    ]

one_after : (conf : PcrverifyConf) (at : ℕ) (before : Option Met) (packet : List ℕ) → IsNoteAt place_of_fault at (fault_behind conf at before packet)
one_after conf at None packet = record { one = inl refl }
one_after conf at (Some before) packet =
    let jitter = jitter_of conf.bitrate (at - before.at) (clock_of before.packet) (clock_of packet) in
    elim (discontinuity_of packet) as (λ b. IsNoteAt place_of_fault at (if b then [] else fault_with conf.jitter_max at packet jitter)) [
      | true ↦ record { one = inl refl }
      | false ↦ one_with conf.jitter_max at packet jitter
    ]

pub one_fault : (conf : PcrverifyConf) (history : List Cell) (packet : List ℕ) → IsNoteAt place_of_fault (length history) (fault_on conf history packet)
one_fault conf history packet =
    let last = last_clock_on (pid_of packet) history in
    elim (is_clocked conf packet) as (λ b. IsNoteAt place_of_fault (length history) (if b then fault_behind conf (length history) last packet else [])) [
      | true ↦ one_after conf (length history) last packet
      | false ↦ record { one = inl refl }
    ]

-- at most one note
pub one_note : (conf : PcrverifyConf) (history : List Cell) (packet : List ℕ) → IsNoteAt place_of_note (length history) (note_on conf history packet)
one_note conf history packet =
    let note : ClockNote = record { at = length history } in
    elim (is_clocked conf packet) as (λ b. IsNoteAt place_of_note (length history) (if b then note ∷ [] else [])) [
      | true ↦ record { one = inr (note, refl, refl) }
      | false ↦ record { one = inl refl }
    ]

-- there are as many notes as packets with a PCR
pub same_clocks : (conf : PcrverifyConf) (history cells : List Cell) → length (notes_after (note_on conf) history cells) ≡ length (clocked conf cells)
same_clocks conf history [] = refl
same_clocks conf history (Live packet labels ∷ cells) =
    let note : ClockNote = record { at = length history } in
    let rest = notes_after (note_on conf) (history ++ Live packet labels ∷ []) cells in
    let ih : length rest ≡ length (clocked conf cells) = same_clocks conf (history ++ Live packet labels ∷ []) cells in
    elim (is_clocked conf packet) as (λ b.
    length ((if b then note ∷ [] else []) ++ rest)
    ≡ length (if b then packet ∷ filter (is_clocked conf) (live_packets cells) else filter (is_clocked conf) (live_packets cells))) [
      | true ↦ omega (arith, ih)
      | false ↦ ih
    ]
same_clocks conf history (Dropped ∷ cells) = same_clocks conf (history ++ Dropped ∷ []) cells
