-- Lemmas on counting one more packet.
use Rattle.std.proofs.Common.{◌≡◌, ℕ, ◌+◌, ◌<◌, ◌≤◌, List, [], ◌∷◌, ◌++◌, length, get_or, set, ap, sym, subst, ◌∙◌, inl, inr, Bool, ◌==◌, if◌then◌else◌, arith, length-append, length-set, get_or-set_same, get_or-set_other, eq-eqb, add-zero, replicate, refl}
use Rattle.std.specs.List.{count_by}
use Rattle.std.proofs.lemmas.Bool.{cases_eq, ne_eqb}
use Rattle.std.proofs.lemmas.List.{length-replicate}
use Rattle.std.proofs.lemmas.List.Sums.{count_by-le-length, fold-append}
use Rattle.ts_packet.specs.declared.numbers.TheConstants.{PID_COUNT}
use Rattle.plugin_notes.specs.Tallies.{IsTally}

-- a count with one more member
count_by-last : (p : ℕ → Bool) (xs : List ℕ) (x : ℕ) → count_by p (xs ++ x ∷ []) ≡ count_by p xs + (if p x then 1 else 0)
count_by-last p xs x = fold-append (λ (n : ℕ) (y : ℕ). n + (if p y then 1 else 0)) 0 xs (x ∷ [])

-- as many counts as there were made
length-made : (counts : List ℕ) (n : ℕ) → counts ≡ replicate n 0 → length counts ≡ n
length-made counts n is = ap length is ∙ length-replicate n 0

-- nothing is counted yet
pub counts_none : (counts : List ℕ) → counts ≡ replicate PID_COUNT 0 → ((pid : ℕ) → get_or counts pid 0 ≡ 0) → IsTally counts 0 []
counts_none counts is none = record { whole = length-made counts PID_COUNT is; each = λ pid below. none pid; all = refl }

-- no count is above the total
pub small_count : (counts pids : List ℕ) (total pid : ℕ) → IsTally counts total pids → pid < PID_COUNT → get_or counts pid 0 ≤ length pids
small_count counts pids total pid tally below = subst (λ (n : ℕ). n ≤ length pids) (sym (tally.each pid below)) (count_by-le-length (λ q. q == pid) pids)

-- one more packet on a PID
pub adds : (counts pids : List ℕ) (total pid : ℕ) → IsTally counts total pids → pid < PID_COUNT
    → IsTally (set counts pid (get_or counts pid 0 + 1)) (total + 1) (pids ++ pid ∷ [])
adds counts pids total pid tally below = record {
  whole = length-set counts pid (get_or counts pid 0 + 1) ∙ tally.whole;
  each = λ other other_below. elim (cases_eq other pid) [
    | inl same ↦ subst (λ (q : ℕ). get_or (set counts pid (get_or counts pid 0 + 1)) q 0 ≡ count_by (λ r. r == q) (pids ++ pid ∷ [])) (sym same)
        (get_or-set_same counts pid (get_or counts pid 0 + 1) 0 (omega (arith, tally.whole))
        ∙ (ap (λ (n : ℕ). n + 1) (tally.each pid below)
        ∙ sym (count_by-last (λ r. r == pid) pids pid ∙ ap (λ (b : Bool). count_by (λ r. r == pid) pids + (if b then 1 else 0)) (eq-eqb pid pid refl))))
    | inr differ ↦
        get_or-set_other counts pid other (get_or counts pid 0 + 1) 0 differ
        ∙ (tally.each other other_below
        ∙ sym (count_by-last (λ r. r == other) pids pid
        ∙ (ap (λ (b : Bool). count_by (λ r. r == other) pids + (if b then 1 else 0)) (ne_eqb pid other (λ same. differ (sym same)))
        ∙ add-zero (count_by (λ r. r == other) pids))))
  ];
  all = omega (arith, tally.all, length-append pids (pid ∷ []));
}
