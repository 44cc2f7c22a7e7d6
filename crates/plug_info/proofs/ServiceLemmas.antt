-- Lemmas on the packets of a service: those on the PIDs of its components are no more than all packets.
use Rattle.std.proofs.Common.{◌≡◌, ◌≤◌, ℕ, suc, zero, ◌+◌, List, [], ◌∷◌, length, Bool, true, false, refl, sym, subst, ap, ap₂, ◌∙◌, ◌==◌, if◌then◌else◌, inl, inr, cond, arith, eq-eqb, true≢false}
use Rattle.std.specs.Prelude.{min, nat_lt, count_by}
use Rattle.std.specs.List.{fold}
use Rattle.std.proofs.Math.Nat.{min-eq_left}
use Rattle.std.proofs.Math.Numerals.{suc-eq-add-one}
use Rattle.std.proofs.lemmas.Bool.{cases_eq, ne_eqb, lt-ltb, le-ltb, ltb-true, ltb-false}
use Rattle.std.proofs.lemmas.List.Sums.{count_by-le-length, sum_by-cons}
use Rattle.ts_packet.specs.Header.{pid_of}
use Rattle.plugin_notes.specs.PidPackets.{numbers_below, packets_on}
use Rattle.plug_info.proofs.LineLemmas.{fold_below_more}

-- what is not below a number and is another one is past it
past : (p k : ℕ) → k ≤ p → (p == k) ≡ false → k + 1 ≤ p
past p k at_least not_same = elim (cases_eq p k) [
  | inl same ↦ absurd (true≢false (sym (eq-eqb p k same) ∙ not_same))
  | inr other ↦ omega (arith, at_least, other)
]

-- a number that is another one is below the next one where it is below this one
apart : (p k : ℕ) (b : Bool) → nat_lt p k ≡ b → (p == k) ≡ false → cond (nat_lt p k) 1 0 + cond (p == k) 1 0 ≡ cond (nat_lt p (k + 1)) 1 0
apart p k true below not_same =
    ap₂ (λ (a b : Bool). cond a 1 0 + cond b 1 0) below not_same
    ∙ sym (ap (λ (b : Bool). cond b 1 0) (lt-ltb p (k + 1) (omega (arith, ltb-true p k below))))
apart p k false above not_same =
    ap₂ (λ (a b : Bool). cond a 1 0 + cond b 1 0) above not_same
    ∙ sym (ap (λ (b : Bool). cond b 1 0) (le-ltb p (k + 1) (past p k (ltb-false p k above) not_same)))

-- a number is below the next one where it is below this one, or this one itself
one_more : (p k : ℕ) → cond (nat_lt p k) 1 0 + cond (p == k) 1 0 ≡ cond (nat_lt p (k + 1)) 1 0
one_more p k = elim (cases_eq p k) [
  | inl same ↦
      ap₂ (λ (a b : Bool). cond a 1 0 + cond b 1 0) (le-ltb p k (omega (arith, same))) (eq-eqb p k same)
      ∙ sym (ap (λ (b : Bool). cond b 1 0) (lt-ltb p (k + 1) (omega (arith, same))))
  | inr other ↦ apart p k (nat_lt p k) refl (ne_eqb p k other)
]

-- the packets on the PIDs below a number
below : ℕ → List (List ℕ) → ℕ
below k packets = count_by (λ packet. nat_lt (pid_of packet) k) packets

below_none : (k : ℕ) → below k [] ≡ 0
unfolding below
below_none k = refl

below_cons : (k : ℕ) (packet : List ℕ) (packets : List (List ℕ)) → below k (packet ∷ packets) ≡ cond (nat_lt (pid_of packet) k) 1 0 + below k packets
unfolding below
below_cons k packet packets = sum_by-cons (λ p. cond (nat_lt (pid_of p) k) 1 0) packet packets

on_cons : (k : ℕ) (packet : List ℕ) (packets : List (List ℕ)) → packets_on k (packet ∷ packets) ≡ cond (pid_of packet == k) 1 0 + packets_on k packets
on_cons k packet packets = sum_by-cons (λ p. cond (pid_of p == k) 1 0) packet packets

below_more : (k : ℕ) (packets : List (List ℕ)) → below k packets + packets_on k packets ≡ below (k + 1) packets
below_more k [] = omega (arith, below_none k, below_none (k + 1))
below_more k (packet ∷ packets) =
    omega (arith, below_cons k packet packets, on_cons k packet packets, below_cons (k + 1) packet packets, one_more (pid_of packet) k, below_more k packets)

-- some of the packets, by PID
abbrev pub packets_if : (ℕ → Bool) → List (List ℕ) → ℕ → ℕ → ℕ
packets_if has packets n pid = n + (if has pid then packets_on pid packets else 0)

at_most : (b : Bool) (n : ℕ) → (if b then n else 0) ≤ n
at_most true n = omega arith
at_most false n = omega arith

fold_none : (has : ℕ → Bool) (packets : List (List ℕ)) → fold (packets_if has packets) 0 (numbers_below 0) ≡ 0
unfolding numbers_below
fold_none has packets = refl

no_more_than : (has : ℕ → Bool) (packets : List (List ℕ)) (k : ℕ) → fold (packets_if has packets) 0 (numbers_below k) ≤ below k packets
no_more_than has packets zero = omega (arith, fold_none has packets)
no_more_than has packets (suc k) =
    let more : fold (packets_if has packets) 0 (numbers_below k) + (if has k then packets_on k packets else 0) ≡ fold (packets_if has packets) 0 (numbers_below (k + 1)) =
    fold_below_more (packets_if has packets) 0 k in
    subst (λ (n : ℕ). fold (packets_if has packets) 0 (numbers_below n) ≤ below n packets) (sym (suc-eq-add-one k))
    (omega (arith, more, below_more k packets, no_more_than has packets k, at_most (has k) (packets_on k packets)))

-- they are no more than all
below_all : (k : ℕ) (packets : List (List ℕ)) → below k packets ≤ length packets
unfolding below
below_all k packets = count_by-le-length (λ p. nat_lt (pid_of p) k) packets

pub no_more_than_all : (has : ℕ → Bool) (packets : List (List ℕ)) (k : ℕ) → fold (packets_if has packets) 0 (numbers_below k) ≤ length packets
no_more_than_all has packets k = omega (arith, no_more_than has packets k, below_all k packets)

-- a sum that may be no more than all packets is the whole sum
least : (a b c : ℕ) → a ≤ b → c ≡ min a b → c ≡ a
least a b c le is = is ∙ min-eq_left le

pub sum_more : (has : ℕ → Bool) (packets : List (List ℕ)) (k all so_far on sum : ℕ) → all ≡ length packets → so_far ≡ fold (packets_if has packets) 0 (numbers_below k)
    → on ≡ (if has k then packets_on k packets else 0) → sum ≡ min (so_far + on) all → sum ≡ fold (packets_if has packets) 0 (numbers_below (k + 1))
sum_more has packets k all so_far on sum all_is so_far_is on_is is =
    let whole : so_far + on ≡ fold (packets_if has packets) 0 (numbers_below (k + 1)) =
    ap₂ (λ (a b : ℕ). a + b) so_far_is on_is ∙ fold_below_more (packets_if has packets) 0 k in
    least (so_far + on) all sum (omega (arith, whole, all_is, no_more_than_all has packets (k + 1))) is ∙ whole
