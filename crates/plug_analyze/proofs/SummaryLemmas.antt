-- The lines of the summary.
use Rattle.std.proofs.Common.{◌≡◌, ℕ, ◌+◌, ◌<◌, List, [], ◌∷◌, ◌++◌, length, take, map, filter, ap, sym, subst, ◌∙◌, Bool, true, false, not, ◌==◌, if◌then◌else◌, append_assoc, append-nil, get_or}
use Rattle.std.specs.List.{All}
use Rattle.std.proofs.lemmas.List.{map-append, take_more}
use Rattle.std.proofs.lemmas.List.Elements.{All-push, filter-append}
use Rattle.ts_packet.specs.declared.cell.Cell.{Cell}
use Rattle.ts_packet.specs.declared.numbers.TheConstants.{PID_COUNT}
use Rattle.plugin_trait.specs.declared.line.Line.{Line}
use Rattle.plugin_trait.specs.PlacedLines.{placed_at}
use Rattle.plugin_notes.specs.PidPackets.{numbers_below, packets_on}
use Rattle.plugin_notes.proofs.PidLemmas.{numbers_below_more, placed_at-append}
use Rattle.plug_analyze.specs.AnalyzeRule.{counts_on, pid_text}

-- the PIDs with one more looked at
pub pids_more : (packets : List (List ℕ)) (pid n : ℕ) (pids pids_new : List ℕ) → n ≡ packets_on pid packets
    → pids ≡ filter (λ q. not (packets_on q packets == 0)) (numbers_below pid)
    → pids_new ≡ pids ++ (if not (n == 0) then pid ∷ [] else [])
    → pids_new ≡ filter (λ q. not (packets_on q packets == 0)) (numbers_below (pid + 1))
pids_more packets pid n pids pids_new n_is so_far pushed =
    let test : ℕ → Bool = λ q. not (packets_on q packets == 0) in
    pushed
    ∙ (ap (λ (ps : List ℕ). ps ++ (if not (n == 0) then pid ∷ [] else [])) so_far
    ∙ (ap (λ (k : ℕ). filter test (numbers_below pid) ++ (if not (k == 0) then pid ∷ [] else [])) n_is
    ∙ (sym (filter-append test (numbers_below pid) (pid ∷ []))
    ∙ ap (filter test) (sym (numbers_below_more pid)))))

-- lines after lines
pub pushed_after : (cut : ℕ) (lines first second : List Line) (xs ys : List (List ℕ)) → first ≡ lines ++ placed_at cut xs → second ≡ first ++ placed_at cut ys
    → second ≡ lines ++ placed_at cut (xs ++ ys)
pushed_after cut lines first second xs ys a b =
    b ∙ (ap (λ (ls : List Line). ls ++ placed_at cut ys) a
    ∙ (append_assoc lines (placed_at cut xs) (placed_at cut ys)
    ∙ ap (λ (ls : List Line). lines ++ ls) (sym (placed_at-append cut xs ys))))

-- the lines of PIDs with one more
pub pid_more : (cells : List Cell) (cut : ℕ) (pids : List ℕ) (i pid : ℕ) (before lines lines_new : List Line) (text : List ℕ) → i < length pids → pid ≡ get_or pids i 0
    → text ≡ pid_text pid (counts_on pid cells)
    → lines ≡ before ++ placed_at cut (map (λ q. pid_text q (counts_on q cells)) (take i pids))
    → lines_new ≡ lines ++ placed_at cut (text ∷ [])
    → lines_new ≡ before ++ placed_at cut (map (λ q. pid_text q (counts_on q cells)) (take (i + 1) pids))
pid_more cells cut pids i pid before lines lines_new text lt pid_is text_is so_far pushed =
    let f : ℕ → List ℕ = λ q. pid_text q (counts_on q cells) in
    pushed_after cut before lines lines_new (map f (take i pids)) (text ∷ []) so_far pushed
    ∙ ap (λ (ts : List (List ℕ)). before ++ placed_at cut ts)
    (ap (λ (t : List ℕ). map f (take i pids) ++ t ∷ []) (text_is ∙ ap f pid_is)
    ∙ (sym (map-append f (take i pids) (get_or pids i 0 ∷ [])) ∙ ap (map f) (sym (take_more pids i 0 lt))))

-- each of them is a PID
pub all_pids_more : (pids pids_new : List ℕ) (b : Bool) (pid : ℕ) → All (λ (p : ℕ). p < PID_COUNT) pids → pid < PID_COUNT → pids_new ≡ pids ++ (if b then pid ∷ [] else [])
    → All (λ (p : ℕ). p < PID_COUNT) pids_new
all_pids_more pids pids_new true pid all below is = subst (All (λ (p : ℕ). p < PID_COUNT)) (sym is) (All-push (λ (p : ℕ). p < PID_COUNT) pids pid all below)
all_pids_more pids pids_new false pid all below is = subst (All (λ (p : ℕ). p < PID_COUNT)) (sym (is ∙ append-nil pids)) all
