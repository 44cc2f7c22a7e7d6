-- Lemmas on the PIDs outside of a reach.
use Rattle.std.proofs.Common.{◌≡◌, ℕ, zero, suc, ◌+◌, ◌-◌, ◌<◌, ◌≤◌, List, [], ◌∷◌, ◌++◌, length, filter, get_or, set, ap, sym, subst, ◌∙◌, inl, inr, refl, Bool, true, false, ◌&&◌, not, if◌then◌else◌, append-nil, arith, get_or-set_same, get_or-set_other}
use Rattle.std.proofs.lemmas.Bool.{cases_eq, cases_lt, ne_eqb}
use Rattle.ts_packet.specs.declared.numbers.TheConstants.{PID_COUNT}
use Rattle.ts_packet.specs.Header.{error_indicator_of, pid_of}
use Rattle.plugin_notes.specs.PidPackets.{numbers_below}
use Rattle.plug_psi.specs.Referred.{refers}
use Rattle.monitor_keys.specs.Looks.{is_look}
use Rattle.monitor_keys.specs.declared.span.Span.{Span}
use Rattle.monitor_orphans.specs.OrphanRow.{IsWithin, LookedBelow, met_in, told_below, told_in}
use Rattle.monitor_orphans.specs.Orphans.{is_on, is_told_with, orphan_with}
use Rattle.monitor_orphans.specs.Reaches.{IsIdle, IsIdleOutside, IsWithinBelow, Reaches, Widens}
use Rattle.monitor_orphans.specs.declared.orphan.Orphan.{Orphan}
use Rattle.monitor_orphans.specs.declared.orphan.Orphan.TheVariants.{Unmet}
use Rattle.monitor_orphans.specs.declared.reach.Reach.{Reach}
use Rattle.monitor_orphans.proofs.Turning.{chosen-next, chosen-none, chosen-same}

-- ---- one PID

either : (b : Bool) (kept : Orphan) → (if b then kept else kept) ≡ kept
either true kept = refl
either false kept = refl

and_false : (b : Bool) → (b && false) ≡ false
and_false true = refl
and_false false = refl

idle_with : (span : Span) (on referred : Bool) → (on && not referred) ≡ false → orphan_with span on referred Unmet ≡ Unmet
idle_with span true true none = either (is_look span) Unmet
idle_with span true false none = cc
idle_with span false true none = either (is_look span) Unmet
idle_with span false false none = either (is_look span) Unmet

idle_told : (span : Span) (on referred : Bool) → (on && not referred) ≡ false → is_told_with span on referred Unmet ≡ false
idle_told span true true none = and_false (is_look span)
idle_told span true false none = cc
idle_told span false true none = and_false (is_look span)
idle_told span false false none = and_false (is_look span)

module _ (span : Span) (packet : List ℕ) (fed : List (List ℕ)) (pids : List Orphan) where
  idle_of : (pid : ℕ) → get_or pids pid Unmet ≡ Unmet → (is_on pid packet && not (refers fed pid)) ≡ false → IsIdle span packet fed pids pid
  idle_of pid unmet none = record {
    unmet = unmet;
    met = ap (orphan_with span (is_on pid packet) (refers fed pid)) unmet ∙ idle_with span (is_on pid packet) (refers fed pid) none;
    told = ap (is_told_with span (is_on pid packet) (refers fed pid)) unmet ∙ idle_told span (is_on pid packet) (refers fed pid) none;
  }

  -- the packet is on another PID
  idle_other : (pid : ℕ) → get_or pids pid Unmet ≡ Unmet → (pid_of packet ≡ pid → ⊥) → IsIdle span packet fed pids pid
  idle_other pid unmet other = idle_of pid unmet
      (ap (λ (b : Bool). (b && not (error_indicator_of packet)) && not (refers fed pid)) (ne_eqb (pid_of packet) pid other))

  -- or a table refers to its PID
  idle_referred : (n : ℕ) → n ≡ pid_of packet → true ≡ refers fed n → (pid : ℕ) → get_or pids pid Unmet ≡ Unmet → IsIdle span packet fed pids pid
  idle_referred n on_pid referred pid unmet = elim (cases_eq (pid_of packet) pid) as (λ _. IsIdle span packet fed pids pid) [
    | inl same ↦ idle_of pid unmet
        (ap (λ (b : Bool). is_on pid packet && not b) (sym (referred ∙ ap (refers fed) (on_pid ∙ same))) ∙ and_false (is_on pid packet))
    | inr other ↦ idle_other pid unmet other
  ]

  module _ (reach : Reach) (within : IsWithin reach pids) where
    pub outside_referred : (n : ℕ) → n ≡ pid_of packet → true ≡ refers fed n → IsIdleOutside span packet fed pids reach
    outside_referred n on_pid referred = record {
      below = λ pid less. idle_referred n on_pid referred pid (within.below pid less);
      above = λ pid le. idle_referred n on_pid referred pid (within.above pid le);
    }

    pub outside_over : (n : ℕ) → n ≡ pid_of packet → (wide : Reach) → Widens reach n wide → IsIdleOutside span packet fed pids wide
    outside_over n on_pid wide is = record {
      below = λ pid less. idle_other pid (within.below pid (omega (arith, is.from, less)))
          (λ same. omega (arith, on_pid, same, is.first, less));
      above = λ pid le. idle_other pid (within.above pid (omega (arith, is.to, le)))
          (λ same. omega (arith, on_pid, same, is.last, le));
    }

-- what is kept of a PID then
pub reaches_met : (span : Span) (packet : List ℕ) (fed : List (List ℕ)) (old : List Orphan) (pid : ℕ) (kept value : Orphan) (on referred : Bool) (from to : Reach)
    → Reaches from pid value to → value ≡ orphan_with span on referred kept → kept ≡ get_or old pid Unmet → on ≡ is_on pid packet
    → referred ≡ refers fed pid → Reaches from pid (met_in span packet fed old pid) to
reaches_met span packet fed old pid kept value on referred from to reaches value_is kept_is on_is referred_is =
    subst (λ (k : Orphan). Reaches from pid k to)
    (value_is
    ∙ (ap (λ (k : Orphan). orphan_with span on referred k) kept_is
    ∙ (ap (λ (b : Bool). orphan_with span b referred (get_or old pid Unmet)) on_is
    ∙ ap (λ (b : Bool). orphan_with span (is_on pid packet) b (get_or old pid Unmet)) referred_is)))
    reaches

-- ---- from the least PID of a reach up to the greatest

-- numbers that a test refuses
chosen_idle : (f : ℕ → Bool) (n m : ℕ) → ((k : ℕ) → n ≤ k → f k ≡ false) → filter f (numbers_below n) ≡ filter f (numbers_below (n + m))
chosen_idle f n zero none = ap (λ (k : ℕ). filter f (numbers_below k)) (let same : n ≡ n + 0 = omega arith in same)
chosen_idle f n (suc m) none =
    chosen_idle f n m none
    ∙ (sym (append-nil (filter f (numbers_below (n + m))))
    ∙ (ap (λ (b : Bool). filter f (numbers_below (n + m)) ++ (if b then (n + m) ∷ [] else [])) (sym (none (n + m) (omega arith)))
    ∙ (sym (chosen-next f (n + m))
    ∙ ap (λ (k : ℕ). filter f (numbers_below k)) (let next : n + m + 1 ≡ n + suc m = omega arith in next))))

module _ (span : Span) (packet : List ℕ) (fed : List (List ℕ)) (old : List Orphan) (reach : Reach) (idle : IsIdleOutside span packet fed old reach) where
  pub looked_first : LookedBelow span packet fed old old reach.from
  looked_first = record {
    done = λ pid less. (idle.below pid less).unmet ∙ sym (idle.below pid less).met;
    left = λ pid le. refl;
  }

  pub told_first : [] ≡ told_below span packet fed old reach.from
  told_first =
      sym (chosen-same (told_in span packet fed old) (λ _. false) reach.from (λ pid less. (idle.below pid less).told)
      ∙ chosen-none (numbers_below reach.from))

  pub within_first : (next : Reach) → IsWithinBelow next old reach.from
  within_first next = record {
    below = λ pid less _. (idle.below pid less).unmet;
    above = λ pid less _. (idle.below pid less).unmet;
  }

  module _ (now : List Orphan) (n : ℕ) (behind : reach.to ≤ n) (bound : n ≤ PID_COUNT) (below : LookedBelow span packet fed old now n) where
    pub looked_last : LookedBelow span packet fed old now PID_COUNT
    looked_last = record {
      done = λ pid less. elim (cases_lt pid n) as (λ _. get_or now pid Unmet ≡ met_in span packet fed old pid) [
        | inl before ↦ below.done pid before
        | inr le ↦ below.left pid le ∙ ((idle.above pid (omega (arith, behind, le))).unmet ∙ sym (idle.above pid (omega (arith, behind, le))).met)
      ];
      left = λ pid le. below.left pid (omega (arith, bound, le));
    }

    pub told_last : (told : List ℕ) → told ≡ told_below span packet fed old n → told ≡ told_below span packet fed old PID_COUNT
    told_last told is =
        is
        ∙ (chosen_idle (told_in span packet fed old) n (PID_COUNT - n) (λ k le. (idle.above k (omega (arith, behind, le))).told)
        ∙ ap (told_below span packet fed old) (let all : n + (PID_COUNT - n) ≡ PID_COUNT = omega (arith, bound) in all))

    pub within_last : (next : Reach) → IsWithinBelow next now n → IsWithin next now
    within_last next within = record {
      below = λ pid less. elim (cases_lt pid n) as (λ _. get_or now pid Unmet ≡ Unmet) [
        | inl before ↦ within.below pid before less
        | inr le ↦ below.left pid le ∙ (idle.above pid (omega (arith, behind, le))).unmet
      ];
      above = λ pid to. elim (cases_lt pid n) as (λ _. get_or now pid Unmet ≡ Unmet) [
        | inl before ↦ within.above pid before to
        | inr le ↦ below.left pid le ∙ (idle.above pid (omega (arith, behind, le))).unmet
      ];
    }

-- with one PID more
module _ (now next : List Orphan) (n : ℕ) (value : Orphan) (within : n < length now) (set_is : next ≡ set now n value) (from to : Reach) (reaches : Reaches from n value to) where
  set_here : get_or next n Unmet ≡ value
  set_here = ap (λ (ks : List Orphan). get_or ks n Unmet) set_is ∙ get_or-set_same now n value Unmet within

  set_other : (pid : ℕ) → (pid ≡ n → ⊥) → get_or next pid Unmet ≡ get_or now pid Unmet
  set_other pid other = ap (λ (ks : List Orphan). get_or ks pid Unmet) set_is ∙ get_or-set_other now n pid value Unmet other

  pub within_more : IsWithinBelow from now n → IsWithinBelow to next (n + 1)
  within_more so_far = record {
    below = λ pid less outside. elim (cases_eq pid n) as (λ _. get_or next pid Unmet ≡ Unmet) [
      | inl same ↦ subst (λ (q : ℕ). get_or next q Unmet ≡ Unmet) (sym same) (set_here ∙ reaches.below (omega (arith, same, outside)))
      | inr other ↦ set_other pid other ∙ so_far.below pid (omega (arith, less, other)) (omega (arith, reaches.from, outside))
    ];
    above = λ pid less outside. elim (cases_eq pid n) as (λ _. get_or next pid Unmet ≡ Unmet) [
      | inl same ↦ subst (λ (q : ℕ). get_or next q Unmet ≡ Unmet) (sym same) (set_here ∙ reaches.above (omega (arith, same, outside)))
      | inr other ↦ set_other pid other ∙ so_far.above pid (omega (arith, less, other)) (omega (arith, reaches.to, outside))
    ];
  }

  -- and of all PIDs
  pub within_set : IsWithin from now → IsWithin to next
  within_set so_far = record {
    below = λ pid outside. elim (cases_eq pid n) as (λ _. get_or next pid Unmet ≡ Unmet) [
      | inl same ↦ subst (λ (q : ℕ). get_or next q Unmet ≡ Unmet) (sym same) (set_here ∙ reaches.below (omega (arith, same, outside)))
      | inr other ↦ set_other pid other ∙ so_far.below pid (omega (arith, reaches.from, outside))
    ];
    above = λ pid outside. elim (cases_eq pid n) as (λ _. get_or next pid Unmet ≡ Unmet) [
      | inl same ↦ subst (λ (q : ℕ). get_or next q Unmet ≡ Unmet) (sym same) (set_here ∙ reaches.above (omega (arith, same, outside)))
      | inr other ↦ set_other pid other ∙ so_far.above pid (omega (arith, reaches.to, outside))
    ];
  }
