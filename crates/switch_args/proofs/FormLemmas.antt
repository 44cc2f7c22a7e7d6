-- Lemmas on words of the form of `tsswitch`.
use Rattle.std.proofs.Common.{◌≡◌, ℕ, zero, suc, ◌+◌, ◌<◌, List, [], ◌∷◌, ◌++◌, length, take, Option, None, Some, refl, ap, sym, ◌∙◌, subst, arith, ◌≤◌, ◌⊎◌, inl, inr}
use Rattle.std.specs.Prelude.{IsSome, option_and_then, codes}
use Rattle.std.proofs.Common.{drop, slice_index_or, map}
use Rattle.plugin_options.specs.Number.{number_within, number_of}
use Rattle.std.proofs.Common.{Result, Ok, Err}
use Rattle.switch_args.specs.declared.reading.Reading.{Reading}
use Rattle.switch_args.specs.declared.settings.SwitchSettings.{SwitchSettings}
use Rattle.switch_args.specs.declared.words.WordsFault.{WordsFault}
use Rattle.switch_args.specs.declared.words.WordsFault.TheVariants.{At, NoMemory}
use Rattle.switch_args.specs.Readings.{given_of, expected_of, EndsAt, ReadsWords}
use Rattle.switch_args.specs.SwitchWords.{Given, Expected, an_option_or_input, the_cycle, the_buffer, the_input_kind, the_input_name, an_input_or_output, the_output_kind, the_output_name, nothing, Place, place, step, place_after, start, may_end, IsBeginning, IsFirstFault, read_of}

-- words after others
pub after-append : (p : Place) (a b : List (List ℕ)) → place_after p (a ++ b) ≡ option_and_then (λ q. place_after q b) (place_after p a)
after-append p [] b = refl
after-append p (w ∷ ws) b = by-step (λ q. after-append q ws b) (step p.given p.expected w)
  where
    by-step : ((q : Place) → place_after q (ws ++ b) ≡ option_and_then (λ r. place_after r b) (place_after q ws)) → (o : Option Place) → option_and_then (λ q. place_after q (ws ++ b)) o ≡ option_and_then (λ q. place_after q b) (option_and_then (λ q. place_after q ws) o)
    by-step law None = refl
    by-step law (Some q) = law q

-- from each place some words lead to an end
finish : (p : Place) → (rest : List (List ℕ)) × IsSome (option_and_then may_end (place_after p rest))
unfolding number_within number_of
finish p = by-expected p.given p.expected
  where
    name : List ℕ
    name = codes "a"

    by-expected : (given : Given) (e : Expected) → (rest : List (List ℕ)) × IsSome (option_and_then may_end (place_after (place given e) rest))
    by-expected given an_option_or_input = (codes "-I" ∷ codes "file" ∷ codes "a" ∷ [], refl)
    by-expected given the_cycle = (codes "1" ∷ codes "-I" ∷ codes "file" ∷ codes "a" ∷ [], refl)
    by-expected given the_buffer = (codes "1" ∷ codes "-I" ∷ codes "file" ∷ codes "a" ∷ [], refl)
    by-expected given the_input_kind = (codes "file" ∷ codes "a" ∷ [], refl)
    by-expected given the_input_name = (codes "a" ∷ [], refl)
    by-expected given an_input_or_output = ([], refl)
    by-expected given the_output_kind = (codes "drop" ∷ [], refl)
    by-expected given the_output_name = (codes "a" ∷ [], refl)
    by-expected given nothing = ([], refl)

begins-at : (words : List (List ℕ)) (p : Place) → place_after start words ≡ Some p → IsBeginning words
begins-at words p e =
    let f = finish p in
    (f.0, subst IsSome (sym (ap (option_and_then may_end) (after-append start words f.0 ∙ ap (option_and_then (λ q. place_after q f.0)) e))) f.1)

take-front : (a b : List (List ℕ)) → take (length a) (a ++ b) ≡ a
take-front [] b = refl
take-front (x ∷ a) b = ap (λ l. x ∷ l) (take-front a b)

take-more : (a : List (List ℕ)) (w : List ℕ) (b : List (List ℕ)) → take (suc (length a)) (a ++ w ∷ b) ≡ a ++ w ∷ []
take-more [] w b = refl
take-more (x ∷ a) w b = ap (λ l. x ∷ l) (take-more a w b)

length-two : (a b : List (List ℕ)) → length (a ++ b) ≡ length a + length b
length-two [] b = omega arith
length-two (x ∷ a) b = (let f = length-two a b in omega (arith, f))

stuck : (before : List (List ℕ)) (word : List ℕ) (p : Place) → place_after start before ≡ Some p → step p.given p.expected word ≡ None → place_after start (before ++ word ∷ []) ≡ None
stuck before word p e none = after-append start before (word ∷ []) ∙ ap (option_and_then (λ q. place_after q (word ∷ []))) e ∙ ap (option_and_then (λ q. place_after q [])) none

pub refused : (words before : List (List ℕ)) (word : List ℕ) (rest : List (List ℕ)) (p : Place) → words ≡ before ++ word ∷ rest → place_after start before ≡ Some p → step p.given p.expected word ≡ None → IsFirstFault words (length before)
refused words before word rest p is e none =
    let l = ap (λ x. length x) is in
    let n = length-two before (word ∷ rest) in
    record {
      within = omega (arith, l, n);
      begins = subst IsBeginning (sym (ap (λ x. take (length before) x) is ∙ take-front before (word ∷ rest))) (begins-at before p e);
      goes_on_no_more = λ lt b.
          let c = subst IsBeginning (ap (λ x. take (suc (length before)) x) is ∙ take-more before word rest) b in
          absurd (let bad = subst IsSome (ap (option_and_then may_end) (after-append start (before ++ word ∷ []) c.0 ∙ ap (option_and_then (λ q. place_after q c.0)) (stuck before word p e none))) c.1 in cc);
      not_whole = λ same. absurd (omega (arith, l, n, same));
    }

pub unfinished : (words : List (List ℕ)) (p : Place) → place_after start words ≡ Some p → may_end p ≡ None → IsFirstFault words (length words)
unfinished words p e none = record {
  within = omega arith;
  begins = subst IsBeginning (sym (take-all words)) (begins-at words p e);
  goes_on_no_more = λ lt b. absurd (omega (arith, lt));
  not_whole = λ same. ap (option_and_then may_end) e ∙ none;
}
  where
    take-all : (l : List (List ℕ)) → take (length l) l ≡ l
    take-all [] = refl
    take-all (x ∷ l) = ap (λ m. x ∷ m) (take-all l)

-- ---- word by word

split-at : {X : Type 0} (xs : List X) (i : ℕ) (d : X) → i < length xs → xs ≡ take i xs ++ slice_index_or xs i d ∷ drop (suc i) xs
split-at [] i d lt = absurd (omega (arith, lt))
split-at (x ∷ xs) zero d lt = refl
split-at (x ∷ xs) (suc i) d lt = ap (λ l. x ∷ l) (split-at xs i d (omega (arith, lt)))

take-next : {X : Type 0} (xs : List X) (i : ℕ) (d : X) → i < length xs → take (suc i) xs ≡ take i xs ++ slice_index_or xs i d ∷ []
take-next [] i d lt = absurd (omega (arith, lt))
take-next (x ∷ xs) zero d lt = refl
take-next (x ∷ xs) (suc i) d lt = ap (λ l. x ∷ l) (take-next xs i d (omega (arith, lt)))

take-length : {X : Type 0} (xs : List X) (i : ℕ) → i < length xs → length (take i xs) ≡ i
take-length [] i lt = absurd (omega (arith, lt))
take-length (x ∷ xs) zero lt = refl
take-length (x ∷ xs) (suc i) lt = ap suc (take-length xs i (omega (arith, lt)))

pub more : (words : List (List ℕ)) (at : ℕ) (p q : Place) (d : List ℕ) → at < length words → place_after start (take at words) ≡ Some p → step p.given p.expected (slice_index_or words at d) ≡ Some q → place_after start (take (suc at) words) ≡ Some q
more words at p q d lt e s =
    ap (place_after start) (take-next words at d lt) ∙ after-append start (take at words) (slice_index_or words at d ∷ []) ∙ ap (option_and_then (λ r. place_after r (slice_index_or words at d ∷ []))) e ∙ ap (option_and_then (λ r. place_after r [])) s

pub no-more : (words : List (List ℕ)) (at : ℕ) (p : Place) (d : List ℕ) → at < length words → place_after start (take at words) ≡ Some p → step p.given p.expected (slice_index_or words at d) ≡ None → IsFirstFault words at
no-more words at p d lt e s = subst (IsFirstFault words) (take-length words at lt) (refused words (take at words) (slice_index_or words at d) (drop (suc at) words) p (split-at words at d lt) e s)

pub map-at : {X Y : Type 0} (f : X → Y) (xs : List X) (i : ℕ) (d : X) → i < length xs → slice_index_or (map f xs) i (f d) ≡ f (slice_index_or xs i d)
map-at f [] i d lt = absurd (omega (arith, lt))
map-at f (x ∷ xs) zero d lt = refl
map-at f (x ∷ xs) (suc i) d lt = map-at f xs i d (omega (arith, lt))

pub map-many : {X Y : Type 0} (f : X → Y) (xs : List X) → length (map f xs) ≡ length xs
map-many f [] = refl
map-many f (x ∷ xs) = ap suc (map-many f xs)

take-whole : {X : Type 0} (l : List X) (n : ℕ) → n ≡ length l → take n l ≡ l
take-whole [] zero e = refl
take-whole [] (suc n) e = absurd (omega (arith, e))
take-whole (x ∷ l) zero e = absurd (omega (arith, e))
take-whole (x ∷ l) (suc n) e = ap (λ m. x ∷ m) (take-whole l n (omega (arith, e)))

pub ends-whole : (words : List (List ℕ)) (at : ℕ) (r : Reading) (result : Result SwitchSettings WordsFault) → at ≡ length words → place_after start (take at words) ≡ Some (place (given_of r) (expected_of r.expected)) → EndsAt r at result → ReadsWords words result
ends-whole words at r (Ok w) many e end = ap (option_and_then may_end) (ap (place_after start) (sym (take-whole words at many)) ∙ e) ∙ end
ends-whole words at r (Err (At word)) many e end = subst (IsFirstFault words) (sym (end.1 ∙ many)) (unfinished words _ (ap (place_after start) (sym (take-whole words at many)) ∙ e) end.0)
ends-whole words at r (Err NoMemory) many e end = tt

-- words of the form have no first fault
pub none-faulty : (words : List (List ℕ)) (n : ℕ) → IsSome (read_of words) → IsFirstFault words n → ⊥
none-faulty words n some fault = elim (split-le n (length words) fault.within) [
  | inl lt ↦ fault.goes_on_no_more lt (drop (suc n) words, subst (λ l. IsSome (read_of l)) (sym (both-parts (suc n) words)) some)
  | inr same ↦ (let bad = subst IsSome (fault.not_whole same) some in cc)
]
  where
    both-parts : (k : ℕ) (l : List (List ℕ)) → take k l ++ drop k l ≡ l
    both-parts zero l = refl
    both-parts (suc k) [] = refl
    both-parts (suc k) (x ∷ l) = ap (λ m. x ∷ m) (both-parts k l)

    split-le : (k m : ℕ) → k ≤ m → (k < m) ⊎ (k ≡ m)
    split-le zero zero le = inr refl
    split-le zero (suc m) le = inl (omega arith)
    split-le (suc k) zero le = absurd (omega (arith, le))
    split-le (suc k) (suc m) le = elim (split-le k m (omega (arith, le))) [ inl lt ↦ inl (omega (arith, lt)) | inr e ↦ inr (ap suc e) ]
