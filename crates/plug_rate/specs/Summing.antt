-- What is kept of the measurements below the mark. This project's own rule.
use Rattle.std.specs.Prelude.{◌≡◌, ◌<◌, ◌^◌, ℕ, List, length, Option, None, Some}
use Rattle.std.specs.List.{list_any}
use Rattle.plug_rate.specs.RateRule.{is_wrong}
use Rattle.plug_rate.specs.RateTexts.{greatest_rate, least_rate}
use Rattle.plug_rate.specs.declared.judged.Judged.{Judged}
use Rattle.plug_rate.specs.declared.sums.Sums.{Sums}

-- the sums are those of these measurements
pub record IsSummed (sums : Sums) (measures : List Judged) : Type 0 where
  pub count : sums.count ≡ length measures
  pub least : sums.least ≡ least_rate measures
  pub greatest : sums.greatest ≡ greatest_rate measures
  pub faults : sums.has_fault ≡ list_any is_wrong measures

-- they are those of some measurements, and one more can be counted
pub record HasSumRoom (sums : Sums) : Type 0 where
  pub measures : List Judged
  pub summed : IsSummed sums measures
  pub few : length measures < 2 ^ 63

-- the best of some numbers and of one more
abbrev pub best_with : (ℕ → ℕ → ℕ) → Option ℕ → ℕ → ℕ
best_with better None n = n
best_with better (Some m) n = better m n
