-- Lemmas on the lines of a summary, PID by PID.
use Rattle.std.proofs.Common.{◌≡◌, ℕ, ◌+◌, ◌<◌, List, [], ◌∷◌, ◌++◌, map, ap, sym, ◌∙◌, ◌==◌, if◌then◌else◌, append_assoc, append-nil, get_or}
use Rattle.std.specs.List.{flat_map}
use Rattle.std.proofs.lemmas.Grind.{flat_map-append}
use Rattle.ts_packet.specs.Header.{pid_of}
use Rattle.plugin_trait.specs.declared.line.Line.{Line}
use Rattle.plugin_trait.specs.PlacedLines.{placed_at}
use Rattle.ts_packet.specs.declared.numbers.TheConstants.{PID_COUNT}
use Rattle.plugin_notes.specs.Tallies.{IsTally}
use Rattle.plugin_notes.specs.PidPackets.{numbers_below, packets_on}
use Rattle.plug_watch.specs.CountRule.{pid_lines, pid_text}
use Rattle.plugin_notes.proofs.PidLemmas.{numbers_below_more, packets_on-pids, placed_at-append}

-- the lines with those of one more PID
pub pid_lines_more : (packets : List (List ℕ)) (counts : List ℕ) (total cut pid count : ℕ) (before lines lines_new : List Line)
    → IsTally counts total (map pid_of packets) → pid < PID_COUNT → count ≡ get_or counts pid 0
    → lines ≡ before ++ placed_at cut (flat_map (pid_lines packets) (numbers_below pid))
    → lines_new ≡ lines ++ placed_at cut (if count == 0 then [] else pid_text pid count ∷ [])
    → lines_new ≡ before ++ placed_at cut (flat_map (pid_lines packets) (numbers_below (pid + 1)))
pid_lines_more packets counts total cut pid count before lines lines_new tally below count_is so_far pushed =
    let n : count ≡ packets_on pid packets = count_is ∙ (tally.each pid below ∙ packets_on-pids pid packets) in
    pushed
    ∙ (ap (λ (ls : List Line). ls ++ placed_at cut (if count == 0 then [] else pid_text pid count ∷ [])) so_far
    ∙ (ap (λ (k : ℕ). (before ++ placed_at cut (flat_map (pid_lines packets) (numbers_below pid))) ++ placed_at cut (if k == 0 then [] else pid_text pid k ∷ [])) n
    ∙ (append_assoc before (placed_at cut (flat_map (pid_lines packets) (numbers_below pid))) (placed_at cut (pid_lines packets pid))
    ∙ ap (λ (ls : List Line). before ++ ls)
    (sym (placed_at-append cut (flat_map (pid_lines packets) (numbers_below pid)) (pid_lines packets pid))
    ∙ ap (placed_at cut)
    (ap (λ (ts : List (List ℕ)). flat_map (pid_lines packets) (numbers_below pid) ++ ts) (sym (append-nil (pid_lines packets pid)))
    ∙ (sym (flat_map-append (pid_lines packets) (numbers_below pid) (pid ∷ []))
    ∙ ap (flat_map (pid_lines packets)) (sym (numbers_below_more pid))))))))
