-- Lemmas on the lines of a summary, PID by PID.
use Rattle.std.proofs.Common.{◌≡◌, ℕ, ◌+◌, ◌<◌, List, [], ◌∷◌, ◌++◌, length, ap, sym, ◌∙◌, ◌==◌, if◌then◌else◌, append_assoc, append-nil, None}
use Rattle.std.specs.List.{flat_map, slice_index_or}
use Rattle.std.proofs.lemmas.Grind.{flat_map-append}
use Rattle.ts_packet.specs.declared.numbers.TheConstants.{PID_COUNT}
use Rattle.plugin_trait.specs.declared.line.Line.{Line}
use Rattle.plugin_trait.specs.PlacedLines.{placed_at}
use Rattle.plugin_notes.specs.PidPackets.{numbers_below}
use Rattle.plugin_notes.proofs.PidLemmas.{numbers_below_more, placed_at-append}
use Rattle.plug_times.specs.ClockSteps.{IsStepped, IsSteps, above, clock_lines, clocks_on, greatest, kept_lines, no_steps, steps_from, steps_text}
use Rattle.plug_times.specs.declared.clock_steps.ClockSteps.{ClockSteps}
use Rattle.plug_times.specs.declared.limits.TheConstants.{DVB_INTERVAL}
use Rattle.plug_times.specs.declared.stamp.Stamp.{Stamp}
use Rattle.plug_times.specs.declared.step_row.StepRow.{StepRow}

-- the line of what is kept is that of the PCRs
kept_line_is : (pid : ℕ) (kept : ClockSteps) (stamps : List Stamp) → IsSteps kept (clocks_on pid stamps) → kept_lines pid kept ≡ clock_lines stamps pid
kept_line_is pid kept stamps is =
    let steps = steps_from None (clocks_on pid stamps) in
    ap (λ (n : ℕ). if n == 0 then [] else steps_text pid n kept.longest kept.over40 kept.over100 ∷ []) is.count
    ∙ (ap (λ (n : ℕ). if length (clocks_on pid stamps) == 0 then [] else steps_text pid (length (clocks_on pid stamps)) n kept.over40 kept.over100 ∷ []) is.longest
    ∙ (ap (λ (n : ℕ). if length (clocks_on pid stamps) == 0 then [] else steps_text pid (length (clocks_on pid stamps)) (greatest steps) n kept.over100 ∷ []) is.over40
    ∙ ap (λ (n : ℕ). if length (clocks_on pid stamps) == 0 then [] else steps_text pid (length (clocks_on pid stamps)) (greatest steps) (above DVB_INTERVAL steps) n ∷ []) is.over100))

-- the lines with those of one more PID
pub clock_lines_more : (stamps : List Stamp) (row : StepRow) (cut pid : ℕ) (kept : ClockSteps) (before lines lines_new : List Line)
    → IsStepped row stamps → pid < PID_COUNT → kept ≡ slice_index_or row.steps pid no_steps
    → lines ≡ before ++ placed_at cut (flat_map (clock_lines stamps) (numbers_below pid))
    → lines_new ≡ lines ++ placed_at cut (kept_lines pid kept)
    → lines_new ≡ before ++ placed_at cut (flat_map (clock_lines stamps) (numbers_below (pid + 1)))
clock_lines_more stamps row cut pid kept before lines lines_new stepped below kept_is so_far pushed =
    let line : kept_lines pid kept ≡ clock_lines stamps pid =
    ap (kept_lines pid) kept_is ∙ kept_line_is pid (slice_index_or row.steps pid no_steps) stamps (stepped.each pid below) in
    pushed
    ∙ (ap (λ (ls : List Line). ls ++ placed_at cut (kept_lines pid kept)) so_far
    ∙ (ap (λ (ts : List (List ℕ)). (before ++ placed_at cut (flat_map (clock_lines stamps) (numbers_below pid))) ++ placed_at cut ts) line
    ∙ (append_assoc before (placed_at cut (flat_map (clock_lines stamps) (numbers_below pid))) (placed_at cut (clock_lines stamps pid))
    ∙ ap (λ (ls : List Line). before ++ ls)
    (sym (placed_at-append cut (flat_map (clock_lines stamps) (numbers_below pid)) (clock_lines stamps pid))
    ∙ ap (placed_at cut)
    (ap (λ (ts : List (List ℕ)). flat_map (clock_lines stamps) (numbers_below pid) ++ ts) (sym (append-nil (clock_lines stamps pid)))
    ∙ (sym (flat_map-append (clock_lines stamps) (numbers_below pid) (pid ∷ []))
    ∙ ap (flat_map (clock_lines stamps)) (sym (numbers_below_more pid))))))))
