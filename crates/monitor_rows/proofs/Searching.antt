-- What a search for a number finds among the keys of a row.
use Rattle.std.proofs.Common.{◌≡◌, ◌≢◌, ℕ, ◌<◌, ◌≤◌, List, length, get_or, sym, ap, subst, Option, Result, Ok, Err, IfOk, IfErr, IfNone, IfSome, inl, inr, arith}
use Rattle.std.specs.Result.{result_ok}
use Rattle.std.specs.List.{All}
use Rattle.std.specs.List.Sorted.{IsBinarySearchResult, IsNonDecreasingBy, IsSearchInRange}
use Rattle.std.specs.Ordering.{nat_cmp, ordering_index}
use Rattle.std.proofs.lemmas.Bool.{cases_eq, cases_lt}
use Rattle.std.proofs.lemmas.Bool.Decides.{nat_tests}
use Rattle.std.proofs.lemmas.Cmp.{ranked}
use Rattle.std.proofs.lemmas.List.{length-map}
use Rattle.std.proofs.lemmas.List.Sorted.{IsNonDecreasingBy-from_default}
use Rattle.monitor_rows.specs.declared.row_key.RowKey.{RowKey}
use Rattle.monitor_rows.specs.RowStands.{AreAscending, numbers_in}
use Rattle.monitor_rows.proofs.Rowing.{no_key, number_at}

module _ (keys : List RowKey) (n : ℕ) where
  -- the numbers rise along the keys, and so do the comparisons with one
  numbers_rise : AreAscending (numbers_in keys) → (i j : ℕ) → i ≤ j → j < length keys → (get_or keys i no_key).number ≤ (get_or keys j no_key).number
  numbers_rise ascend i j le within = elim (cases_eq i j) [
    | inl same ↦ omega (arith, ap (λ (k : ℕ). (get_or keys k no_key).number) same)
    | inr other ↦
        omega (
          arith,
          ascend i j 0 (omega (arith, le, other)) (omega (arith, within, length-map keys (λ (k : RowKey). k.number))),
          number_at keys i no_key 0 (omega (arith, le, within)),
          number_at keys j no_key 0 within,
        )
  ]

  comparisons_rise : AreAscending (numbers_in keys) → IsNonDecreasingBy (λ (k : RowKey). ordering_index (nat_cmp k.number n)) keys
  comparisons_rise ascend = IsNonDecreasingBy-from_default (λ (k : RowKey). ordering_index (nat_cmp k.number n)) keys no_key (λ i j le within.
      let rise = numbers_rise ascend i j le within in
      grind (arith, nat_tests))

  pub found_at : (r : Result ℕ ℕ) → IsSearchInRange r (length keys) → IsBinarySearchResult (λ (k : RowKey). nat_cmp k.number n) keys r
      → IfOk r (λ i. (i < length keys) × ((d : RowKey) → (get_or keys i d).number ≡ n))
  found_at (Ok i) within equal = (within, λ d. ranked _ n _ (sym (equal d)))
  found_at (Err i) within parted = tt

  pub none_found : (r : Result ℕ ℕ) → IsSearchInRange r (length keys) → IsBinarySearchResult (λ (k : RowKey). nat_cmp k.number n) keys r
      → AreAscending (numbers_in keys) → IfErr r (λ _. All (λ (k : RowKey). k.number ≢ n) keys)
  none_found (Ok i) within equal ascend = tt
  none_found (Err i) within parted ascend = λ j d less same.
      elim (cases_lt j i) [
        | inl before ↦
            omega (arith, same, ranked (get_or keys j d).number n _ (sym ((parted (comparisons_rise ascend)).0 j d (omega arith) before)))
        | inr behind ↦
            omega (arith, same, ranked (get_or keys j d).number n _ (sym ((parted (comparisons_rise ascend)).1 j d behind less)))
      ]

-- as an option
pub ok_found : (keys searched : List RowKey) (n : ℕ) (r : Result ℕ ℕ) (o : Option ℕ) → searched ≡ keys → o ≡ result_ok r → IsSearchInRange r (length searched)
    → IsBinarySearchResult (λ (k : RowKey). nat_cmp k.number n) searched r → IfSome o (λ i. (i < length keys) × ((d : RowKey) → (get_or keys i d).number ≡ n))
ok_found keys searched n r o same is within found =
    subst (λ (p : Option ℕ). IfSome p (λ i. (i < length keys) × ((d : RowKey) → (get_or keys i d).number ≡ n))) (sym is)
    (subst (λ (ks : List RowKey). IfSome (result_ok r) (λ i. (i < length ks) × ((d : RowKey) → (get_or ks i d).number ≡ n))) same (by_answer r (found_at searched n r within found)))
  where
    by_answer : (r : Result ℕ ℕ) → IfOk r (λ i. (i < length searched) × ((d : RowKey) → (get_or searched i d).number ≡ n))
        → IfSome (result_ok r) (λ i. (i < length searched) × ((d : RowKey) → (get_or searched i d).number ≡ n))
    by_answer (Ok i) is = is
    by_answer (Err i) is = tt

pub ok_none : (keys searched : List RowKey) (n : ℕ) (r : Result ℕ ℕ) (o : Option ℕ) → searched ≡ keys → o ≡ result_ok r → IsSearchInRange r (length searched)
    → IsBinarySearchResult (λ (k : RowKey). nat_cmp k.number n) searched r → AreAscending (numbers_in keys) → IfNone o (All (λ (k : RowKey). k.number ≢ n) keys)
ok_none keys searched n r o same is within found ascend =
    subst (λ (p : Option ℕ). IfNone p (All (λ (k : RowKey). k.number ≢ n) keys)) (sym is)
    (subst (λ (ks : List RowKey). IfNone (result_ok r) (All (λ (k : RowKey). k.number ≢ n) ks)) same
    (by_answer r (none_found searched n r within found (subst (λ (ks : List RowKey). AreAscending (numbers_in ks)) (sym same) ascend))))
  where
    by_answer : (r : Result ℕ ℕ) → IfErr r (λ _. All (λ (k : RowKey). k.number ≢ n) searched) → IfNone (result_ok r) (All (λ (k : RowKey). k.number ≢ n) searched)
    by_answer (Ok i) is = tt
    by_answer (Err i) is = is
