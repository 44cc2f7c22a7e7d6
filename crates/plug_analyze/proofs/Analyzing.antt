-- What `analyze` keeps, one cell and one mark after another, and what it reports.
use Rattle.std.proofs.Common.{◌≡◌, ℕ, ◌<◌, ◌≤◌, List, [], ◌∷◌, ◌++◌, length, take, ap, sym, subst, ◌∙◌, refl, Bool, append-nil, arith, length-append}
use Rattle.ts_packet.specs.declared.cell.Cell.{Cell}
use Rattle.ts_packet.specs.Cells.{Live, Dropped, live_packets}
use Rattle.ts_packet.specs.Header.{pid_of, has_payload_of}
use Rattle.chain_model.specs.declared.positions.TheConstants.{POSITION_LIMIT}
use Rattle.plugin_trait.specs.declared.line.Line.{Line}
use Rattle.plugin_trait.specs.PlacedLines.{placed_at}
use Rattle.plugin_notes.specs.LastSeen.{Remembers}
use Rattle.plugin_notes.specs.NotesKept.{CanFold, Folds, notes_below}
use Rattle.plugin_notes.specs.declared.last_packets.LastPackets.{LastPackets}
use Rattle.plugin_notes.proofs.Keeping as keeping
use Rattle.plugin_notes.proofs.Remembering.{remembers_dropped}
use Rattle.plug_analyze.specs.declared.note.Note.{Note}
use Rattle.plug_analyze.specs.declared.noted.Noted.{Noted}
use Rattle.plug_analyze.specs.declared.service_count.ServiceCount.{ServiceCount}
use Rattle.plug_analyze.specs.declared.services.Services.{Services}
use Rattle.plug_analyze.specs.declared.totals.Totals.{Totals}
use Rattle.plug_analyze.specs.AnalyzeNotes.{is_fault_at, note_on, noted, pid_in, place_of}
use Rattle.plug_analyze.specs.AnalyzeRule.{all_pids, has_pcr, is_scrambled, services_in_force, summary_on}
use Rattle.plug_analyze.specs.AnalyzeState.{Analyzes, Serves}
use Rattle.plug_analyze.specs.ServicesKept.{DropsChanges}
use Rattle.plug_analyze.specs.TotalsOf.{AreCounted, AreTotals}
use Rattle.plug_analyze.proofs.NotesLemmas.{are_counted, on_pids, one_note}
use Rattle.plug_analyze.proofs.ServicesKeeping.{serves_dropped, serves_folded}

-- a note whose parts are those of a packet is the packet's
pub note_is : (at pid : ℕ) (payload scrambled fault pcr : Bool) (history : List Cell) (packet : List ℕ) → at ≡ length history → pid ≡ pid_of packet
    → payload ≡ has_payload_of packet → scrambled ≡ is_scrambled packet → fault ≡ is_fault_at history packet → pcr ≡ has_pcr packet
    → (let note : Note = record { at = at; pid = pid; has_payload = payload; is_scrambled = scrambled; is_fault = fault; has_pcr = pcr } in note) ≡ noted history packet
note_is at pid payload scrambled fault pcr history packet a b c d e f =
    ap (λ (x : ℕ). let note : Note = record { at = x; pid = pid; has_payload = payload; is_scrambled = scrambled; is_fault = fault; has_pcr = pcr } in note) a
    ∙ (ap (λ (x : ℕ). let note : Note = record { at = length history; pid = x; has_payload = payload; is_scrambled = scrambled; is_fault = fault; has_pcr = pcr } in note) b
    ∙ (ap (λ (x : Bool). let note : Note = record { at = length history; pid = pid_of packet; has_payload = x; is_scrambled = scrambled; is_fault = fault; has_pcr = pcr } in note) c
    ∙ (ap (λ (x : Bool). let note : Note = record { at = length history; pid = pid_of packet; has_payload = has_payload_of packet; is_scrambled = x; is_fault = fault; has_pcr = pcr } in note) d
    ∙ (ap (λ (x : Bool). let note : Note = record { at = length history; pid = pid_of packet; has_payload = has_payload_of packet; is_scrambled = is_scrambled packet; is_fault = x; has_pcr = pcr } in note) e
    ∙ ap (λ (x : Bool). let note : Note = record { at = length history; pid = pid_of packet; has_payload = has_payload_of packet; is_scrambled = is_scrambled packet; is_fault = is_fault_at history packet; has_pcr = x } in note) f))))

-- a dropped cell
pub analyzes_dropped : (last : LastPackets) (kept : Noted) (services : Services) (history : List Cell) (mark : ℕ) → length history < POSITION_LIMIT
    → Analyzes last kept services history mark → Analyzes last kept services (history ++ Dropped ∷ []) mark
analyzes_dropped last kept services history mark few w = record {
  remembers = remembers_dropped all_pids last history w.remembers;
  keeps = keeping.keeps_cell note_on place_of one_note kept.notes.items history mark w.keeps Dropped kept.notes.items (sym (append-nil kept.notes.items));
  totals_are = subst (AreTotals kept.totals) (keeping.below_cell note_on history mark Dropped w.keeps.marked) w.totals_are;
  serves = serves_dropped services history mark w.serves;
  short = omega (arith, few, length-append history (Dropped ∷ []));
}

-- a packet, each part of which is known
pub analyzes_live : (last last_new : LastPackets) (kept kept_new : Noted) (services services_new : Services) (history : List Cell) (mark : ℕ) (packet : List ℕ) (labels : ℕ) (note : Note)
    → length history < POSITION_LIMIT → Analyzes last kept services history mark
    → Remembers all_pids last_new (history ++ Live packet labels ∷ []) → Serves services_new (history ++ Live packet labels ∷ []) mark
    → note ≡ noted history packet → kept_new.notes.items ≡ kept.notes.items ++ note ∷ [] → kept_new.totals ≡ kept.totals
    → Analyzes last_new kept_new services_new (history ++ Live packet labels ∷ []) mark
analyzes_live last last_new kept kept_new services services_new history mark packet labels note few w remembers serves is pushed same = record {
  remembers = remembers;
  keeps = keeping.keeps_cell note_on place_of one_note kept.notes.items history mark w.keeps (Live packet labels) kept_new.notes.items
      (pushed ∙ ap (λ (n : Note). kept.notes.items ++ n ∷ []) is);
  totals_are = subst (λ (t : Totals). AreTotals t (notes_below note_on mark (history ++ Live packet labels ∷ []))) (sym same)
      (subst (AreTotals kept.totals) (keeping.below_cell note_on history mark (Live packet labels) w.keeps.marked) w.totals_are);
  serves = serves;
  short = omega (arith, few, length-append history (Live packet labels ∷ []));
}

-- the notes can be counted
pub can_fold : (last : LastPackets) (kept : Noted) (services : Services) (history : List Cell) (mark : ℕ) → Analyzes last kept services history mark
    → CanFold pid_in AreTotals kept.notes.items kept.totals
can_fold last kept services history mark w =
    keeping.can_fold note_on place_of one_note kept.notes.items history mark w.keeps pid_in AreTotals kept.totals w.totals_are w.short on_pids

module _ (last : LastPackets) (kept kept_new : Noted) (services services_new : Services) (history : List Cell) (mark to : ℕ)
    (w : Analyzes last kept services history mark) (later : mark ≤ to) (within : to ≤ length history)
    (folds : Folds place_of AreTotals to kept.notes.items kept_new.notes.items kept.totals kept_new.totals)
    (drops : DropsChanges to services.services.items services_new.services.items services.changes.items services_new.changes.items) where
  -- a later mark
  pub analyzes_folded : services_new.force ≡ services.force → Analyzes last kept_new services_new history to
  analyzes_folded same = record {
    remembers = w.remembers;
    keeps = keeping.keeps_left note_on place_of one_note kept.notes.items history mark w.keeps to kept_new.notes.items later within folds.takes;
    totals_are =
        keeping.counted_below note_on place_of one_note kept.notes.items history mark w.keeps to kept_new.notes.items later within folds.takes AreTotals kept_new.totals
        (folds.counted (notes_below note_on mark history) w.totals_are);
    serves = serves_folded services services_new history mark to w.serves later within drops same;
    short = w.short;
  }

-- the summary over the cells below the mark
pub summary_is : (last : LastPackets) (kept : Noted) (services : Services) (history : List Cell) (mark : ℕ) → Analyzes last kept services history mark
    → (totals : Totals) (ss : List ServiceCount) (at : ℕ) (before lines : List Line) → totals ≡ kept.totals → ss ≡ services.services.items
    → ((cells : List Cell) → AreCounted totals cells → ss ≡ services_in_force (live_packets cells) → lines ≡ before ++ placed_at at (summary_on cells))
    → lines ≡ before ++ placed_at at (summary_on (take mark history))
summary_is last kept services history mark w totals ss at before lines totals_are ss_are pushed =
    pushed (take mark history)
    (subst (λ (t : Totals). AreCounted t (take mark history)) (sym totals_are) (are_counted kept.totals (notes_below note_on mark history) (take mark history) refl w.totals_are))
    (ss_are ∙ w.serves.kept.now)
