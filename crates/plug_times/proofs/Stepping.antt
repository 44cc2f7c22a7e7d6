-- Lemmas on the steps between PCRs, with one more.
use Rattle.std.proofs.Common.{◌≡◌, ℕ, ◌+◌, ◌<◌, ◌≤◌, ◌^◌, List, [], ◌∷◌, ◌++◌, length, filter, ap, sym, ◌∙◌, refl, Bool, true, false, nat_lt, append_assoc, append-nil, None, Some, Option, option_to_list, unwrap_or, arith, length-append}
use Rattle.std.specs.List.{fold}
use Rattle.std.proofs.lemmas.List.Elements.{filter-append}
use Rattle.std.proofs.lemmas.List.Sums.{count_by-le-length, fold-append, length-filter}
use Rattle.plug_times.specs.ClockSteps.{HasStepRoom, IsSteps, above, greater, greatest, last_of, step_between, step_to, steps_from, value_of}
use Rattle.plug_times.specs.declared.clock_steps.ClockSteps.{ClockSteps}
use Rattle.plug_times.specs.declared.limits.TheConstants.{DVB_INTERVAL, LONGEST_INTERVAL}
use Rattle.plug_times.specs.declared.stamp.Stamp.{Stamp}

-- the steps with that to one more
steps-more : (before : Option ℕ) (stamps : List Stamp) (stamp : Stamp) → steps_from before (stamps ++ stamp ∷ []) ≡ steps_from before stamps ++ step_to (last_of before stamps) stamp
steps-more before [] stamp = append-nil (step_to before stamp)
steps-more before (s ∷ stamps) stamp =
    ap (λ (steps : List ℕ). step_to before s ++ steps) (steps-more (Some (value_of s)) stamps stamp)
    ∙ sym (append_assoc (step_to before s) (steps_from (Some (value_of s)) stamps) (step_to (last_of (Some (value_of s)) stamps) stamp))

-- the last one
last-more : (before : Option ℕ) (stamps : List Stamp) (stamp : Stamp) → last_of before (stamps ++ stamp ∷ []) ≡ Some (value_of stamp)
last-more before [] stamp = refl
last-more before (s ∷ stamps) stamp = last-more (Some (value_of s)) stamps stamp

-- there are no more steps than PCRs
one_step : (before : Option ℕ) (value : ℕ) (jumps : Bool) → length (step_between before value jumps) ≤ 1
one_step None value jumps = omega arith
one_step (Some before) value true = omega arith
one_step (Some before) value false = omega arith

few_steps : (before : Option ℕ) (stamps : List Stamp) → length (steps_from before stamps) ≤ length stamps
few_steps before [] = omega arith
few_steps before (s ∷ stamps) = omega (
  arith,
  one_step before (value_of s) s.jumps,
  few_steps (Some (value_of s)) stamps,
  length-append (step_to before s) (steps_from (Some (value_of s)) stamps),
)

-- nor steps above a limit
few_above : (limit : ℕ) (stamps : List Stamp) → above limit (steps_from None stamps) ≤ length stamps
few_above limit stamps = omega (
  arith,
  length-filter (λ (step : ℕ). nat_lt limit step) (steps_from None stamps),
  count_by-le-length (λ (step : ℕ). nat_lt limit step) (steps_from None stamps),
  few_steps None stamps,
)

-- the counts with those of more steps
above-append : (limit : ℕ) (xs ys : List ℕ) → above limit (xs ++ ys) ≡ above limit xs + above limit ys
above-append limit xs ys =
    ap length (filter-append (λ (step : ℕ). nat_lt limit step) xs ys)
    ∙ length-append (filter (λ (step : ℕ). nat_lt limit step) xs) (filter (λ (step : ℕ). nat_lt limit step) ys)

module _ (kept : ClockSteps) (room : HasStepRoom kept) where
  -- one more can be counted
  pub count_fits : kept.count < 2 ^ 63
  count_fits = omega (arith, room.steps.count, room.few)

  pub over40_fits : kept.over40 < 2 ^ 63
  over40_fits = omega (arith, room.steps.over40, few_above DVB_INTERVAL room.clocks, room.few)

  pub over100_fits : kept.over100 < 2 ^ 63
  over100_fits = omega (arith, room.steps.over100, few_above LONGEST_INTERVAL room.clocks, room.few)

-- what is kept with one more
pub steps_with : (kept new : ClockSteps) (clocks : List Stamp) (stamp : Stamp) (clock : ℕ) (jumps : Bool) (step : Option ℕ)
    → stamp.clock ≡ Some clock → stamp.jumps ≡ jumps → IsSteps kept clocks → option_to_list step ≡ step_between kept.last clock jumps
    → new.count ≡ kept.count + 1 → new.last ≡ Some clock → new.longest ≡ fold greater kept.longest (option_to_list step)
    → new.over40 ≡ kept.over40 + above DVB_INTERVAL (option_to_list step) → new.over100 ≡ kept.over100 + above LONGEST_INTERVAL (option_to_list step)
    → IsSteps new (clocks ++ stamp ∷ [])
steps_with kept new clocks stamp clock jumps step clock_is jumps_is is step_is count last longest over40 over100 =
    let xs = steps_from None clocks in
    let ys = option_to_list step in
    let value : value_of stamp ≡ clock = ap (λ (o : Option ℕ). unwrap_or o 0) clock_is in
    let same : step_to (last_of None clocks) stamp ≡ ys =
    ap (λ (l : Option ℕ). step_between l (value_of stamp) stamp.jumps) (sym is.last)
    ∙ (ap (λ (v : ℕ). step_between kept.last v stamp.jumps) value
    ∙ (ap (λ (b : Bool). step_between kept.last clock b) jumps_is ∙ sym step_is)) in
    let more : steps_from None (clocks ++ stamp ∷ []) ≡ xs ++ ys = steps-more None clocks stamp ∙ ap (λ (zs : List ℕ). xs ++ zs) same in
    record {
      count = omega (arith, count, is.count, length-append clocks (stamp ∷ []));
      last = last ∙ (ap (λ (v : ℕ). let o : Option ℕ = Some v in o) (sym value) ∙ sym (last-more None clocks stamp));
      longest = longest
          ∙ (ap (λ (n : ℕ). fold greater n ys) is.longest ∙ (sym (fold-append greater 0 xs ys) ∙ ap greatest (sym more)));
      over40 = over40
          ∙ (ap (λ (n : ℕ). n + above DVB_INTERVAL ys) is.over40 ∙ (sym (above-append DVB_INTERVAL xs ys) ∙ ap (above DVB_INTERVAL) (sym more)));
      over100 = over100
          ∙ (ap (λ (n : ℕ). n + above LONGEST_INTERVAL ys) is.over100 ∙ (sym (above-append LONGEST_INTERVAL xs ys) ∙ ap (above LONGEST_INTERVAL) (sym more)));
    }
