-- The row of counters, one packet later.
use Rattle.std.proofs.Common.{◌≡◌, ℕ, zero, suc, ◌+◌, ◌%◌, ◌<◌, List, map, slice_index, slice_set, ◌∙◌, ap, arith}
use Rattle.ts_testgen.specs.Rules.{counted, pid_at, earlier}
use Rattle.ts_testgen.specs.Counters.{counted_pids, counters_at}

-- one more, modulo 16
wraps : (n : ℕ) → (n % 16 + 1) % 16 ≡ (n + 1) % 16
wraps n = omega arith

-- a row of counts modulo 16
abbrev row_of : (ℕ → ℕ) → List ℕ
row_of f = map (λ pid. f pid % 16) counted_pids

-- one more at the place of a PID
counted_row : (f : ℕ → ℕ) (k : ℕ) → k < 9 →
    slice_set (row_of f) k ((slice_index (row_of f) k + 1) % 16) ≡ row_of (λ pid. counted (slice_index counted_pids k) pid (f pid))
counted_row f zero h = ap (slice_set (row_of f) 0) (wraps (f 0))
counted_row f (suc zero) h = ap (slice_set (row_of f) 1) (wraps (f 4096))
counted_row f (suc (suc zero)) h = ap (slice_set (row_of f) 2) (wraps (f 4097))
counted_row f (suc (suc (suc zero))) h = ap (slice_set (row_of f) 3) (wraps (f 17))
counted_row f (suc (suc (suc (suc zero)))) h = ap (slice_set (row_of f) 4) (wraps (f 256))
counted_row f (suc (suc (suc (suc (suc zero))))) h = ap (slice_set (row_of f) 5) (wraps (f 257))
counted_row f (suc (suc (suc (suc (suc (suc zero)))))) h = ap (slice_set (row_of f) 6) (wraps (f 258))
counted_row f (suc (suc (suc (suc (suc (suc (suc zero))))))) h = ap (slice_set (row_of f) 7) (wraps (f 259))
counted_row f (suc (suc (suc (suc (suc (suc (suc (suc zero)))))))) h = ap (slice_set (row_of f) 8) (wraps (f 8191))
counted_row f (suc (suc (suc (suc (suc (suc (suc (suc (suc k))))))))) h = absurd (omega arith)

-- the row after the packet with a number, whose PID has a place
pub counters_more : (seed i k : ℕ) → k < 9 → slice_index counted_pids k ≡ pid_at seed i →
    slice_set (counters_at seed i) k ((slice_index (counters_at seed i) k + 1) % 16) ≡ counters_at seed (i + 1)
unfolding earlier
counters_more seed i k h e =
    counted_row (λ pid. earlier seed pid i) k h
    ∙ ap (λ found. row_of (λ pid. counted found pid (earlier seed pid i))) e
    ∙ ap (λ n. counters_at seed n) (let s : suc i ≡ i + 1 = omega arith in s)
