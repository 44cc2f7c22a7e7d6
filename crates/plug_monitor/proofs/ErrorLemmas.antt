-- Lemmas on the notes of errors, their lines and their counts.
use Rattle.std.proofs.Common.{◌≡◌, ℕ, ◌<◌, List, [], ◌∷◌, ◌++◌, length, map, ap, ap₂, sym, ◌∙◌, inl, inr, refl, append-nil, arith}
use Rattle.std.specs.List.{All, flat_map}
use Rattle.std.proofs.lemmas.Grind.{flat_map-append}
use Rattle.ts_packet.specs.declared.cell.Cell.{Cell}
use Rattle.ts_packet.specs.Cells.{Live, Dropped}
use Rattle.ts_packet.specs.declared.numbers.TheConstants.{PID_COUNT}
use Rattle.plugin_trait.specs.PlacedLines.{placed_at}
use Rattle.plugin_notes.specs.Notes.{notes_after}
use Rattle.plugin_notes.proofs.Noting.{IsNoteAt}
use Rattle.monitor_lines.specs.ErrorTexts.{text_of_error}
use Rattle.monitor_lines.specs.Indicators.{indicators}
use Rattle.monitor_lines.specs.declared.indicator.Indicator.{Indicator}
use Rattle.monitor_lines.specs.declared.indicator.Indicator.TheVariants.{Pat, Counter, Pmt, Pid, Transport, Crc, Pcr, Accuracy, Pts, Cat, Nit, Unreferenced, Sdt, Eit, Rst, Tdt}
use Rattle.monitor_lines.specs.declared.monitor_error.MonitorError.{MonitorError}
use Rattle.plug_monitor.specs.Counting.{AreCounted, count_of, counted, no_pid, rank_of}
use Rattle.plug_monitor.specs.ErrorNotes.{errors_in, errors_of, errors_of_notes, lines_of_note, note_of, note_on, notes_in, place_of}
use Rattle.plug_monitor.specs.MonitorErrors.{errors_on}
use Rattle.plug_monitor.specs.MonitorTexts.{all_text, count_if, counts_in, summary_texts}
use Rattle.plug_monitor.specs.declared.counts.Counts.{Counts}
use Rattle.plug_monitor.specs.declared.error_note.ErrorNote.{ErrorNote}
use Rattle.plug_monitor.specs.declared.monitor_conf.MonitorConf.{MonitorConf}

-- ---- notes

one_of : (at : ℕ) (errors : List MonitorError) → IsNoteAt place_of at (note_of at errors)
one_of at [] = record { one = inl refl }
one_of at (error ∷ errors) = let note : ErrorNote = record { at = at; errors = error ∷ errors } in record { one = inr (note, refl, refl) }

-- at most one note of a packet
pub one_note : (conf : MonitorConf) (history : List Cell) (packet : List ℕ) → IsNoteAt place_of (length history) (note_on conf history packet)
one_note conf history packet = one_of (length history) (errors_on conf history packet)

-- none is on a PID that there is not
pub on_pids : (conf : MonitorConf) (history : List Cell) (packet : List ℕ) → All (λ (n : ErrorNote). no_pid n < PID_COUNT) (note_on conf history packet)
on_pids conf history packet = λ k d lt. omega arith

lines_of : (at : ℕ) (errors : List MonitorError) → placed_at at (map text_of_error errors) ≡ flat_map lines_of_note (note_of at errors)
lines_of at [] = refl
lines_of at (error ∷ errors) = sym (append-nil (placed_at at (map text_of_error (error ∷ errors))))

-- its lines are those of its errors
pub note_lines : (conf : MonitorConf) (history : List Cell) (packet : List ℕ) (labels : ℕ)
    → placed_at (length history) (map text_of_error (errors_on conf history packet)) ≡ flat_map lines_of_note (note_on conf history packet)
note_lines conf history packet labels = lines_of (length history) (errors_on conf history packet)

errors_of_one : (at : ℕ) (errors : List MonitorError) → errors_of_notes (note_of at errors) ≡ errors
errors_of_one at [] = refl
errors_of_one at (error ∷ errors) = append-nil (error ∷ errors)

-- the errors of the notes are all errors
errors_after : (conf : MonitorConf) (history cells : List Cell) → errors_of_notes (notes_after (note_on conf) history cells) ≡ notes_after (errors_on conf) history cells
errors_after conf history [] = refl
errors_after conf history (Live packet labels ∷ cells) =
    flat_map-append errors_of (note_on conf history packet) (notes_after (note_on conf) (history ++ Live packet labels ∷ []) cells)
    ∙ ap₂ (λ (es fs : List MonitorError). es ++ fs) (errors_of_one (length history) (errors_on conf history packet))
    (errors_after conf (history ++ Live packet labels ∷ []) cells)
errors_after conf history (Dropped ∷ cells) = errors_after conf (history ++ Dropped ∷ []) cells

pub same_errors : (conf : MonitorConf) (cells : List Cell) → errors_of_notes (notes_in conf cells) ≡ errors_in conf cells
same_errors conf cells = errors_after conf [] cells

-- ---- the summary

rank_below : (indicator : Indicator) → rank_of indicator < 16
rank_below Pat = omega arith
rank_below Counter = omega arith
rank_below Pmt = omega arith
rank_below Pid = omega arith
rank_below Transport = omega arith
rank_below Crc = omega arith
rank_below Pcr = omega arith
rank_below Accuracy = omega arith
rank_below Pts = omega arith
rank_below Cat = omega arith
rank_below Nit = omega arith
rank_below Unreferenced = omega arith
rank_below Sdt = omega arith
rank_below Eit = omega arith
rank_below Rst = omega arith
rank_below Tdt = omega arith

-- counts that are the same have the same lines
counts_same : (conf : MonitorConf) (f g : Indicator → ℕ) (which : List Indicator) → ((indicator : Indicator) → f indicator ≡ g indicator)
    → counts_in conf f which ≡ counts_in conf g which
counts_same conf f g [] same = refl
counts_same conf f g (indicator ∷ which) same =
    ap₂ (λ (ls ms : List (List ℕ)). ls ++ ms) (ap (λ (n : ℕ). count_if conf (λ _. n) indicator) (same indicator)) (counts_same conf f g which same)

module _ (conf : MonitorConf) (counts : Counts) (cells : List Cell) (are : AreCounted counts (notes_in conf cells)) where
  pub all_is : counts.all ≡ length (errors_in conf cells)
  all_is = are.counted.all ∙ ap length (same_errors conf cells)

  each_is : (indicator : Indicator) → counted counts indicator ≡ count_of (errors_in conf cells) indicator
  each_is indicator =
      are.counted.each.counts (rank_of indicator) (rank_below indicator)
      ∙ ap (λ (es : List MonitorError). count_of es indicator) (same_errors conf cells)

  -- the summary of what was counted is that of the errors
  pub summary_is : summary_texts conf (counted counts) counts.all ≡ summary_texts conf (count_of (errors_in conf cells)) (length (errors_in conf cells))
  summary_is =
      ap₂ (λ (ls : List (List ℕ)) (n : ℕ). ls ++ all_text n ∷ [])
      (counts_same conf (counted counts) (count_of (errors_in conf cells)) indicators each_is) all_is
