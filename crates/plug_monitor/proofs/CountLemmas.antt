-- Lemmas on counting one more error.
use Rattle.std.proofs.Common.{◌≡◌, ℕ, ◌+◌, ◌^◌, ◌<◌, ◌≤◌, List, [], ◌∷◌, ◌++◌, length, get_or, set, ap, sym, subst, ◌∙◌, inl, inr, Bool, if◌then◌else◌, arith, length-append, length-set, get_or-set_same, get_or-set_other, eq-eqb, add-zero, append-nil, append_assoc, take, take_all, length-take-le}
use Rattle.std.specs.List.{count_by}
use Rattle.std.proofs.lemmas.Bool.{cases_eq, ne_eqb}
use Rattle.std.proofs.lemmas.Grind.{flat_map-append}
use Rattle.std.proofs.lemmas.List.{take_more}
use Rattle.std.proofs.lemmas.List.Sums.{count_by-le-length, fold-append}
use Rattle.monitor_lines.specs.declared.monitor_error.MonitorError.{MonitorError}
use Rattle.plug_monitor.specs.Counting.{AreCounted, HasRoom, IsCounted, IsEach, is_at, rank_of}
use Rattle.plug_monitor.specs.ErrorNotes.{errors_of, errors_of_notes}
use Rattle.plug_monitor.specs.declared.counts.Counts.{Counts}
use Rattle.plug_monitor.specs.declared.error_note.ErrorNote.{ErrorNote}

-- a count with one more error
count-last : (rank : ℕ) (errors : List MonitorError) (error : MonitorError)
    → count_by (is_at rank) (errors ++ error ∷ []) ≡ count_by (is_at rank) errors + (if is_at rank error then 1 else 0)
count-last rank errors error = fold-append (λ (n : ℕ) (e : MonitorError). n + (if is_at rank e then 1 else 0)) 0 errors (error ∷ [])

-- no count is above the number of errors
pub small_count : (each : List ℕ) (errors : List MonitorError) (rank : ℕ) → IsEach each errors → rank < 16 → get_or each rank 0 ≤ length errors
small_count each errors rank is below = subst (λ (n : ℕ). n ≤ length errors) (sym (is.counts rank below)) (count_by-le-length (is_at rank) errors)

-- one more error of the indicator at a place
pub each_more : (each : List ℕ) (errors : List MonitorError) (error : MonitorError) (rank : ℕ) → IsEach each errors → rank < 16 → rank_of error.indicator ≡ rank
    → IsEach (set each rank (get_or each rank 0 + 1)) (errors ++ error ∷ [])
each_more each errors error rank is below its = record {
  whole = length-set each rank (get_or each rank 0 + 1) ∙ is.whole;
  counts = λ other other_below. elim (cases_eq other rank) [
    | inl same ↦ subst (λ (q : ℕ). get_or (set each rank (get_or each rank 0 + 1)) q 0 ≡ count_by (is_at q) (errors ++ error ∷ [])) (sym same)
        (get_or-set_same each rank (get_or each rank 0 + 1) 0 (omega (arith, is.whole, below))
        ∙ (ap (λ (n : ℕ). n + 1) (is.counts rank below)
        ∙ sym (count-last rank errors error ∙ ap (λ (b : Bool). count_by (is_at rank) errors + (if b then 1 else 0)) (eq-eqb (rank_of error.indicator) rank its))))
    | inr differ ↦
        get_or-set_other each rank other (get_or each rank 0 + 1) 0 differ
        ∙ (is.counts other other_below
        ∙ sym (count-last other errors error
        ∙ (ap (λ (b : Bool). count_by (is_at other) errors + (if b then 1 else 0)) (ne_eqb (rank_of error.indicator) other (λ same. differ (sym same ∙ its)))
        ∙ add-zero (count_by (is_at other) errors))))
  ];
}

-- the errors of notes with one more note
errors-more : (notes : List ErrorNote) (note : ErrorNote) → errors_of_notes (notes ++ note ∷ []) ≡ errors_of_notes notes ++ errors_of note
errors-more notes note = flat_map-append errors_of notes (note ∷ []) ∙ ap (λ (es : List MonitorError). errors_of_notes notes ++ es) (append-nil (errors_of note))

-- notes with one more are counted
pub note_counted : (counts new : Counts) (notes : List ErrorNote) (note : ErrorNote) → AreCounted counts notes → length note.errors < 2 ^ 64
    → IsCounted new (errors_of_notes notes ++ note.errors) → AreCounted new (notes ++ note ∷ [])
note_counted counts new notes note are few counted = record {
  counted = subst (IsCounted new) (sym (errors-more notes note)) counted;
  few = omega (
    arith,
    are.few,
    few,
    ap length (errors-more notes note),
    length-append (errors_of_notes notes) (errors_of note),
    length-append notes (note ∷ []),
  );
}

-- so many more errors can be counted
pub few_errors : (counts : Counts) (notes : List ErrorNote) → AreCounted counts notes → length notes < 2 ^ 63 → length (errors_of_notes notes) < 2 ^ 127
few_errors counts notes are few = omega (arith, are.few, few)

-- ---- one error after another

-- some errors and one more of a list
pub taken_more : (before errors : List MonitorError) (i : ℕ) (error : MonitorError) → i < length errors → error ≡ get_or errors i error
    → (before ++ take i errors) ++ error ∷ [] ≡ before ++ take (i + 1) errors
taken_more before errors i error within is =
    append_assoc before (take i errors) (error ∷ [])
    ∙ ap (λ (es : List MonitorError). before ++ es) (ap (λ (e : MonitorError). take i errors ++ e ∷ []) is ∙ sym (take_more errors i error within))

-- one more can be counted
pub some_room : (counts : Counts) (before errors : List MonitorError) (i : ℕ) → i < length errors → IsEach counts.each (before ++ take i errors)
    → length before < 2 ^ 127 → length errors < 2 ^ 64 → HasRoom counts
some_room counts before errors i within is few short = record {
  errors = before ++ take i errors;
  each = is;
  few = omega (arith, few, short, within, length-append before (take i errors), length-take-le i errors (omega (arith, within)));
}

-- all were counted
pub all_each : (counts : Counts) (before errors : List MonitorError) (i all : ℕ) → IsEach counts.each (before ++ take i errors) → length errors ≤ i
    → all ≡ length before → counts.all ≡ all + length errors → IsCounted counts (before ++ errors)
all_each counts before errors i all is end was all_is = record {
  each = subst (λ (es : List MonitorError). IsEach counts.each (before ++ es)) (take_all i errors end) is;
  all = omega (arith, was, all_is, length-append before errors);
}
