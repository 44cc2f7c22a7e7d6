-- Lemmas on the sums of measurements, with one more.
use Rattle.std.proofs.Common.{◌≡◌, ℕ, ◌+◌, List, [], ◌∷◌, ◌++◌, length, map, ap, sym, ◌∙◌, refl, Bool, ◌||◌, Option, Some, arith, length-append}
use Rattle.std.specs.List.{list_any, reduce}
use Rattle.std.proofs.Math.Bool.{or-false}
use Rattle.std.proofs.lemmas.List.{map-append}
use Rattle.std.proofs.lemmas.List.Folds.{list_any-append}
use Rattle.std.proofs.lemmas.List.Sums.{fold-append}
use Rattle.plug_rate.specs.RateRule.{is_wrong}
use Rattle.plug_rate.specs.RateTexts.{bitrate_of, greater, lesser, summary_of_rates, summary_text}
use Rattle.plug_rate.specs.Summing.{IsSummed, best_with}
use Rattle.plug_rate.specs.declared.judged.Judged.{Judged}
use Rattle.plug_rate.specs.declared.sums.Sums.{Sums}

-- the best of some numbers with one more
reduce_more : (better : ℕ → ℕ → ℕ) (xs : List ℕ) (x : ℕ) → reduce better (xs ++ x ∷ []) ≡ Some (best_with better (reduce better xs) x)
reduce_more better [] x = refl
reduce_more better (y ∷ ys) x = ap (λ (n : ℕ). let o : Option ℕ = Some n in o) (fold-append better y ys (x ∷ []))

best_more : (better : ℕ → ℕ → ℕ) (measures : List Judged) (judged : Judged)
    → reduce better (map bitrate_of (measures ++ judged ∷ [])) ≡ Some (best_with better (reduce better (map bitrate_of measures)) (bitrate_of judged))
best_more better measures judged =
    ap (reduce better) (map-append bitrate_of measures (judged ∷ [])) ∙ reduce_more better (map bitrate_of measures) (bitrate_of judged)

-- the sums with one more
pub summed_with : (sums new : Sums) (measures : List Judged) (judged : Judged) → IsSummed sums measures → new.count ≡ sums.count + 1
    → new.least ≡ Some (best_with lesser sums.least (bitrate_of judged)) → new.greatest ≡ Some (best_with greater sums.greatest (bitrate_of judged))
    → new.has_fault ≡ (sums.has_fault || is_wrong judged) → IsSummed new (measures ++ judged ∷ [])
summed_with sums new measures judged is count least greatest faults = record {
  count = omega (arith, count, is.count, length-append measures (judged ∷ []));
  least = least
      ∙ (ap (λ (o : Option ℕ). let s : Option ℕ = Some (best_with lesser o (bitrate_of judged)) in s) is.least ∙ sym (best_more lesser measures judged));
  greatest = greatest
      ∙ (ap (λ (o : Option ℕ). let s : Option ℕ = Some (best_with greater o (bitrate_of judged)) in s) is.greatest ∙ sym (best_more greater measures judged));
  faults = faults
      ∙ (ap (λ (b : Bool). b || is_wrong judged) is.faults
      ∙ (ap (λ (b : Bool). list_any is_wrong measures || b) (sym (or-false (is_wrong judged)))
      ∙ sym (list_any-append is_wrong measures (judged ∷ []))));
}

-- the text of the sums is that of the measurements
pub summary_is : (sums : Sums) (measures : List Judged) → IsSummed sums measures → summary_text sums.count sums.least sums.greatest ≡ summary_of_rates measures
summary_is sums measures is =
    ap (λ (n : ℕ). summary_text n sums.least sums.greatest) is.count
    ∙ (ap (λ (o : Option ℕ). summary_text (length measures) o sums.greatest) is.least
    ∙ ap (λ (o : Option ℕ). summary_text (length measures) (reduce lesser (map bitrate_of measures)) o) is.greatest)
