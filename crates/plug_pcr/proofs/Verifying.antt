-- Lemmas on what a value of `pcrverify` keeps, cell by cell and mark by mark.
use Rattle.std.proofs.Common.{◌≡◌, ℕ, ◌+◌, ◌<◌, ◌≤◌, List, [], ◌∷◌, ◌++◌, length, take, map, ap, sym, ◌∙◌, Bool, true, false, nat_lt, if◌then◌else◌, append-nil, arith, length-append}
use Rattle.std.specs.List.{take_while}
use Rattle.std.proofs.lemmas.List.{take-append-le}
use Rattle.chain_model.specs.declared.positions.TheConstants.{POSITION_LIMIT}
use Rattle.ts_packet.specs.declared.cell.Cell.{Cell}
use Rattle.ts_packet.specs.Cells.{Live, Dropped}
use Rattle.ts_packet.specs.Header.{pid_of}
use Rattle.plugin_trait.specs.PlacedLines.{placed_between}
use Rattle.plugin_notes.specs.Notes.{notes_after}
use Rattle.plugin_notes.specs.NotesKept.{TakesBelow, notes_below}
use Rattle.plugin_notes.proofs.Keeping as keeping
use Rattle.plugin_notes.proofs.Noting.{placed_at-notes}
use Rattle.plug_pcr.specs.ClockFaults.{fault_behind, fault_on, is_clocked, last_clock_on, line_of_fault, place_of_fault, text_of_fault}
use Rattle.plug_pcr.specs.ClockNotes.{note_on, place_of_note}
use Rattle.plug_pcr.specs.LastClocks.{Remembers}
use Rattle.plug_pcr.specs.PcrverifyRule.{clocked, pcrverify_rule}
use Rattle.plug_pcr.specs.PcrverifyState.{Verifies}
use Rattle.plug_pcr.specs.declared.clock_fault.ClockFault.{ClockFault}
use Rattle.plug_pcr.specs.declared.clock_note.ClockNote.{ClockNote}
use Rattle.plug_pcr.specs.declared.last_clocks.LastClocks.{LastClocks}
use Rattle.plug_pcr.specs.declared.pcrverify_conf.PcrverifyConf.{PcrverifyConf}
use Rattle.plug_pcr.proofs.Faulting.{one_fault, one_note, same_clocks}
use Rattle.plug_pcr.proofs.LastKept.{remembers_dropped, remembers_other}

module _ (conf : PcrverifyConf) (last : LastClocks) (met : List ClockNote) (faults : List ClockFault) (clock_count fault_count : ℕ) (history : List Cell) (mark : ℕ)
    (w : Verifies conf last met faults clock_count fault_count history mark) where
  -- one more cell, whose notes are appended
  verifies_cell : (cell : Cell) (last_new : LastClocks) (met_new : List ClockNote) (faults_new : List ClockFault) → length history < POSITION_LIMIT
      → Remembers conf last_new (history ++ cell ∷ []) → met_new ≡ met ++ notes_after (note_on conf) history (cell ∷ [])
      → faults_new ≡ faults ++ notes_after (fault_on conf) history (cell ∷ []) → Verifies conf last_new met_new faults_new clock_count fault_count (history ++ cell ∷ []) mark
  verifies_cell cell last_new met_new faults_new few remembers met_are faults_are = record {
    some_rate = w.some_rate;
    remembers = remembers;
    keeps_met = keeping.keeps_cell (note_on conf) place_of_note (one_note conf) met history mark w.keeps_met cell met_new met_are;
    keeps_faults = keeping.keeps_cell (fault_on conf) place_of_fault (one_fault conf) faults history mark w.keeps_faults cell faults_new faults_are;
    clocks_counted = w.clocks_counted ∙ ap (λ (cells : List Cell). length (clocked conf cells)) (sym (take-append-le mark history (cell ∷ []) w.keeps_met.marked));
    faults_counted = w.faults_counted ∙ ap length (keeping.below_cell (fault_on conf) history mark cell w.keeps_faults.marked);
    short = omega (arith, few, length-append history (cell ∷ []));
  }

  -- a dropped cell
  pub verifies_dropped : length history < POSITION_LIMIT → Verifies conf last met faults clock_count fault_count (history ++ Dropped ∷ []) mark
  verifies_dropped few =
      verifies_cell Dropped last met faults few (remembers_dropped conf last history w.remembers) (sym (append-nil met)) (sym (append-nil faults))

  module _ (packet : List ℕ) (labels : ℕ) (few : length history < POSITION_LIMIT) where
    -- a packet without a PCR, or on a PID that is not checked
    pub verifies_other : is_clocked conf packet ≡ false → Verifies conf last met faults clock_count fault_count (history ++ Live packet labels ∷ []) mark
    verifies_other none =
        let note : ClockNote = record { at = length history } in
        verifies_cell (Live packet labels) last met faults few (remembers_other conf last history w.remembers packet labels none)
        (sym (ap (λ (b : Bool). met ++ ((if b then note ∷ [] else []) ++ [])) none ∙ append-nil met))
        (sym (ap (λ (b : Bool). faults ++ ((if b then fault_behind conf (length history) (last_clock_on (pid_of packet) history) packet else []) ++ [])) none ∙ append-nil faults))

    -- a packet with a PCR on a checked PID
    pub verifies_live : (last_new : LastClocks) (met_new : List ClockNote) (faults_new its : List ClockFault) (at : ℕ) → is_clocked conf packet ≡ true
        → Remembers conf last_new (history ++ Live packet labels ∷ []) → length history ≡ at → met_new ≡ met ++ (let note : ClockNote = record { at = at } in note) ∷ []
        → faults_new ≡ faults ++ its → its ≡ fault_on conf history packet → Verifies conf last_new met_new faults_new clock_count fault_count (history ++ Live packet labels ∷ []) mark
    verifies_live last_new met_new faults_new its at is_one remembers at_is noted pushed its_are =
        let note : ClockNote = record { at = length history } in
        verifies_cell (Live packet labels) last_new met_new faults_new few remembers
        (noted
        ∙ (ap (λ (n : ℕ). met ++ (let of : ClockNote = record { at = n } in of) ∷ []) (sym at_is)
        ∙ sym (ap (λ (b : Bool). met ++ ((if b then note ∷ [] else []) ++ [])) is_one)))
        (pushed ∙ ap (λ (fs : List ClockFault). faults ++ fs) (its_are ∙ sym (append-nil (fault_on conf history packet))))

  -- the number of packets with a PCR before the mark is that of the notes
  clocks_are : clock_count ≡ length (notes_below (note_on conf) mark history)
  clocks_are = w.clocks_counted ∙ sym (same_clocks conf [] (take mark history))

  -- the counted and the noted packets together are no more than the cells, and so are the faults
  pub few_clocks : clock_count + length met ≤ POSITION_LIMIT
  few_clocks = omega (arith, clocks_are, keeping.few_all (note_on conf) place_of_note (one_note conf) met history mark w.keeps_met, w.short)

  pub few_faults : fault_count + length faults ≤ POSITION_LIMIT
  few_faults = omega (arith, w.faults_counted, keeping.few_all (fault_on conf) place_of_fault (one_fault conf) faults history mark w.keeps_faults, w.short)

  module _ (to : ℕ) (le : mark ≤ to) (within : to ≤ length history) (faults_new : List ClockFault) (takes_faults : TakesBelow place_of_fault to faults faults_new) where
    -- a later mark
    pub verifies_to : (met_new : List ClockNote) → TakesBelow place_of_note to met met_new → (clocks_gone faults_gone : ℕ)
        → clocks_gone + length met_new ≡ length met → faults_gone + length faults_new ≡ length faults
        → Verifies conf last met_new faults_new (clock_count + clocks_gone) (fault_count + faults_gone) history to
    verifies_to met_new takes_met clocks_gone faults_gone clocks_left faults_left = record {
      some_rate = w.some_rate;
      remembers = w.remembers;
      keeps_met = keeping.keeps_left (note_on conf) place_of_note (one_note conf) met history mark w.keeps_met to met_new le within takes_met;
      keeps_faults = keeping.keeps_left (fault_on conf) place_of_fault (one_fault conf) faults history mark w.keeps_faults to faults_new le within takes_faults;
      clocks_counted = ap (λ (n : ℕ). n + clocks_gone) clocks_are
          ∙ (keeping.number_to (note_on conf) place_of_note (one_note conf) met history mark w.keeps_met to met_new le within takes_met clocks_gone clocks_left
          ∙ same_clocks conf [] (take to history));
      faults_counted = ap (λ (n : ℕ). n + faults_gone) w.faults_counted
          ∙ keeping.number_to (fault_on conf) place_of_fault (one_fault conf) faults history mark w.keeps_faults to faults_new le within takes_faults faults_gone faults_left;
      short = w.short;
    }

    -- the lines that are given out are those of the rule
    pub given_is : map line_of_fault (take_while (λ (f : ClockFault). nat_lt (place_of_fault f) to) faults) ≡ placed_between (pcrverify_rule conf) history mark to
    given_is =
        keeping.given_is (fault_on conf) place_of_fault (one_fault conf) faults history mark w.keeps_faults to faults_new le within takes_faults (pcrverify_rule conf) line_of_fault
        (λ h packet labels. placed_at-notes place_of_fault text_of_fault (length h) (fault_on conf h packet) (one_fault conf h packet))
