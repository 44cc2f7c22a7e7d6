-- Lemmas on the output, item by item, over a whole list: blocks for `compact`, kept items for `rmorphan`.
use Rattle.std.proofs.Common.{◌≡◌, ℕ, zero, suc, ◌+◌, ◌-◌, ◌*◌, ◌<◌, ◌≤◌, nat_lt, List, [], ◌∷◌, ◌++◌, length, take, drop, filter, slice_get, Bool, Option, None, Some, refl, ap, sym, ◌∙◌, arith, append_assoc, append-nil, length-append, length-drop, length-take}
use Rattle.std.specs.Prelude.{option_to_list}
use Rattle.std.proofs.lemmas.Bool.{cond-true, cond-false, lt-ltb, le-ltb}
use Rattle.std.proofs.lemmas.List.{take-append-drop, take_all, take_at, nil_from_length}
use Rattle.plug_window.specs.DelayRule.{all_given}
use Rattle.plug_window.specs.CompactRule.{ahead, parted, compacted, blocks_parted}
use Rattle.plug_window.specs.RmorphanRule.{picked, delayed}
use Rattle.plug_window.proofs.BlockLemmas.{kinds, in_block}

module _ {X : Type 0} where
  length_take : (n : ℕ) (xs : List X) → n ≤ length xs → length (take n xs) ≡ n
  length_take n xs le = let h = length-take n xs in omega (arith, h)

  -- the output with two lists, one after the other, is the output with each
  pub gives-behind : (given : List X → X → Option X) (before xs ys : List X) → all_given given before (xs ++ ys) ≡ all_given given before xs ++ all_given given (before ++ xs) ys
  gives-behind given before [] ys = ap (λ (row : List X). all_given given row ys) (sym (append-nil before))
  gives-behind given before (x ∷ xs) ys =
      ap (λ (row : List X). option_to_list (given before x) ++ row) (gives-behind given (before ++ x ∷ []) xs ys)
      ∙ (sym (append_assoc (option_to_list (given before x)) (all_given given (before ++ x ∷ []) xs) (all_given given ((before ++ x ∷ []) ++ xs) ys))
      ∙ ap (λ (row : List X). (option_to_list (given before x) ++ all_given given (before ++ x ∷ []) xs) ++ all_given given row ys) (append_assoc before (x ∷ []) xs))

  -- with the first `n` items nothing is output, if nothing is output after fewer than `n`
  pub gives-none : (given : List X → X → Option X) (n : ℕ) → ((before : List X) (x : X) → length before < n → given before x ≡ None) → (before xs : List X) → length before + length xs ≤ n → all_given given before xs ≡ []
  gives-none given n none_ before [] le = refl
  gives-none given n none_ before (x ∷ xs) le =
      let long : length (before ++ x ∷ []) ≡ length before + 1 = length-append before (x ∷ []) in
      ap (λ (o : Option X). option_to_list o ++ all_given given (before ++ x ∷ []) xs) (none_ before x (omega arith))
      ∙ gives-none given n none_ (before ++ x ∷ []) xs (omega arith)

  -- an item of a list and then the next `k` are the next `k` + 1 of the list
  take_next : (row : List X) (j k : ℕ) → option_to_list (slice_get row j) ++ take k (drop (suc j) row) ≡ take (suc k) (drop j row)
  take_next [] zero k = take_all k [] (omega arith)
  take_next [] (suc j) k = take_all k [] (omega arith)
  take_next (x ∷ row) zero k = refl
  take_next (x ∷ row) (suc j) k = take_next row j k

module _ {X : Type 0} (last : X → Bool) (n : ℕ) where
  nothing_first : (before : List X) (x : X) → length before < n → compacted last n before x ≡ None
  nothing_first before x lt = cond-true (nat_lt (length before) n) None _ (lt-ltb (length before) n lt)

  long_parted : (given : List X) → length (parted last given) ≡ length given
  long_parted given = length-append (ahead last given) (filter last given) ∙ kinds last given

  -- in the middle of a block: with further items of it, those of the block before are output from their place on
  gives-within : (front given taken xs : List X) (blocks : ℕ) → length front ≡ blocks * n → length given ≡ n → length taken + length xs ≤ n
      → all_given (compacted last n) (front ++ (given ++ taken)) xs ≡ take (length xs) (drop (length taken) (parted last given))
  gives-within front given taken [] blocks behind whole le = refl
  gives-within front given taken (x ∷ xs) blocks behind whole le =
      let long : length (taken ++ x ∷ []) ≡ length taken + 1 = length-append taken (x ∷ []) in
      let next : length (taken ++ x ∷ []) ≡ suc (length taken) = omega arith in
      ap (λ (o : Option X). option_to_list o ++ all_given (compacted last n) ((front ++ (given ++ taken)) ++ x ∷ []) xs) (in_block last n front given taken (front ++ (given ++ taken)) blocks x refl behind whole (omega arith))
      ∙ (ap (λ (row : List X). option_to_list (slice_get (parted last given) (length taken)) ++ all_given (compacted last n) row xs) (append_assoc front (given ++ taken) (x ∷ []) ∙ ap (λ (row : List X). front ++ row) (append_assoc given taken (x ∷ [])))
      ∙ (ap (λ (row : List X). option_to_list (slice_get (parted last given) (length taken)) ++ row) (gives-within front given (taken ++ x ∷ []) xs blocks behind whole (omega arith))
      ∙ (ap (λ (k : ℕ). option_to_list (slice_get (parted last given) (length taken)) ++ take (length xs) (drop k (parted last given))) next
      ∙ take_next (parted last given) (length taken) (length xs))))

  -- with a complete block, the complete block before it
  gives-block : (front given xs : List X) (blocks : ℕ) → length front ≡ blocks * n → length given ≡ n → length xs ≡ n → all_given (compacted last n) (front ++ given) xs ≡ parted last given
  gives-block front given xs blocks behind whole long =
      let same : length (parted last given) ≡ length given = long_parted given in
      ap (λ (row : List X). all_given (compacted last n) (front ++ row) xs) (sym (append-nil given))
      ∙ (gives-within front given [] xs blocks behind whole (omega arith)
      ∙ take_all (length xs) (parted last given) (omega arith))

  gives-blocks : (count : ℕ) (front given xs more : List X) (blocks : ℕ) → length front ≡ blocks * n → length given ≡ n → length xs ≡ count * n → length more ≡ n
      → all_given (compacted last n) (front ++ given) (xs ++ more) ≡ parted last given ++ blocks_parted last n count xs
  gives-blocks zero front given xs more blocks behind whole long rest =
      let none_ : xs ≡ [] = nil_from_length xs (long ∙ omega arith) in
      ap (λ (row : List X). all_given (compacted last n) (front ++ given) (row ++ more)) none_
      ∙ (gives-block front given more blocks behind whole rest ∙ sym (append-nil (parted last given)))
  gives-blocks (suc count) front given xs more blocks behind whole long rest =
      let first : length (take n xs) ≡ n = length_take n xs (omega arith) in
      let left : length (drop n xs) ≡ count * n = length-drop n xs ∙ omega arith in
      let two : length (front ++ given) ≡ length front + length given = length-append front given in
      let split : xs ++ more ≡ take n xs ++ (drop n xs ++ more) = ap (λ (row : List X). row ++ more) (sym (take-append-drop n xs)) ∙ append_assoc (take n xs) (drop n xs) more in
      ap (all_given (compacted last n) (front ++ given)) split
      ∙ (gives-behind (compacted last n) (front ++ given) (take n xs) (drop n xs ++ more)
      ∙ (ap (λ (row : List X). row ++ all_given (compacted last n) ((front ++ given) ++ take n xs) (drop n xs ++ more)) (gives-block front given (take n xs) blocks behind whole first)
      ∙ ap (λ (row : List X). parted last given ++ row) (gives-blocks count (front ++ given) (take n xs) (drop n xs) more (suc blocks) (omega arith) first left rest)))

  -- with complete blocks and one block more, each of the blocks
  pub blocks-given : (count : ℕ) (xs more : List X) → 1 ≤ n → length xs ≡ count * n → length more ≡ n
      → all_given (compacted last n) [] (xs ++ more) ≡ blocks_parted last n count xs
  blocks-given zero xs more some long rest =
      let none_ : xs ≡ [] = nil_from_length xs (long ∙ omega arith) in
      ap (λ (row : List X). all_given (compacted last n) [] (row ++ more)) none_
      ∙ gives-none (compacted last n) n nothing_first [] more (omega arith)
  blocks-given (suc count) xs more some long rest =
      let first : length (take n xs) ≡ n = length_take n xs (omega arith) in
      let left : length (drop n xs) ≡ count * n = length-drop n xs ∙ omega arith in
      let split : xs ++ more ≡ take n xs ++ (drop n xs ++ more) = ap (λ (row : List X). row ++ more) (sym (take-append-drop n xs)) ∙ append_assoc (take n xs) (drop n xs) more in
      ap (all_given (compacted last n) []) split
      ∙ (gives-behind (compacted last n) [] (take n xs) (drop n xs ++ more)
      ∙ (ap (λ (row : List X). row ++ all_given (compacted last n) (take n xs) (drop n xs ++ more)) (gives-none (compacted last n) n nothing_first [] (take n xs) (omega arith))
      ∙ gives-blocks count [] (take n xs) (drop n xs) more 0 (omega arith) first left rest))

module _ {X : Type 0} (keeps : List X → X → Bool) (n : ℕ) where
  none_first : (before : List X) (x : X) → length before < n → delayed keeps n before x ≡ None
  none_first before x lt = cond-true (nat_lt (length before) n) None _ (lt-ltb (length before) n lt)

  -- of items of which the first has the number `i` among all: those to be kept given the first i + n + 1 of all
  abbrev pub kept_rows : List X → ℕ → List X → List X
  kept_rows all i [] = []
  kept_rows all i (y ∷ ys) = option_to_list (picked (keeps (take (i + n + 1) all)) (Some y)) ++ kept_rows all (i + 1) ys

  here : (done : List X) (y : X) (ys : List X) → slice_get (done ++ y ∷ ys) (length done) ≡ Some y
  here [] y ys = refl
  here (x ∷ done) y ys = here done y ys

  gives-late : (done mid xs : List X) → 1 ≤ n → length mid ≡ n
      → all_given (delayed keeps n) (done ++ mid) xs ≡ kept_rows ((done ++ mid) ++ xs) (length done) (take (length xs) (mid ++ xs))
  gives-late done mid [] some long = refl
  gives-late done [] (x ∷ xs) some long = absurd (omega arith)
  gives-late done (y ∷ mid) (x ∷ xs) some long =
      let before = done ++ y ∷ mid in
      let count : length (done ++ y ∷ mid) ≡ length done + length (y ∷ mid) = length-append done (y ∷ mid) in
      let more : length (mid ++ x ∷ []) ≡ length mid + 1 = length-append mid (x ∷ []) in
      let two : length (before ++ x ∷ []) ≡ length before + 1 = length-append before (x ∷ []) in
      let on : length (done ++ y ∷ []) ≡ length done + 1 = length-append done (y ∷ []) in
      let place : length before - n ≡ length done = omega arith in
      let item : slice_get (before ++ x ∷ []) (length before - n) ≡ Some y =
      ap (slice_get (before ++ x ∷ [])) place ∙ (ap (λ (row : List X). slice_get row (length done)) (append_assoc done (y ∷ mid) (x ∷ [])) ∙ here done y (mid ++ x ∷ [])) in
      let front : take (length done + n + 1) (before ++ x ∷ xs) ≡ before ++ x ∷ [] =
      ap (take (length done + n + 1)) (sym (append_assoc before (x ∷ []) xs)) ∙ take_at (before ++ x ∷ []) xs (length done + n + 1) (omega arith) in
      let shift : before ++ x ∷ [] ≡ (done ++ y ∷ []) ++ (mid ++ x ∷ []) = append_assoc done (y ∷ mid) (x ∷ []) ∙ sym (append_assoc done (y ∷ []) (mid ++ x ∷ [])) in
      let all : ((done ++ y ∷ []) ++ (mid ++ x ∷ [])) ++ xs ≡ before ++ x ∷ xs = ap (λ (row : List X). row ++ xs) (sym shift) ∙ append_assoc before (x ∷ []) xs in
      let given : delayed keeps n before x ≡ picked (keeps (take (length done + n + 1) (before ++ x ∷ xs))) (Some y) =
      cond-false (nat_lt (length before) n) None _ (le-ltb (length before) n (omega arith))
      ∙ (ap (λ (o : Option X). picked (keeps (before ++ x ∷ [])) o) item ∙ ap (λ (row : List X). picked (keeps row) (Some y)) (sym front)) in
      ap (λ (o : Option X). option_to_list o ++ all_given (delayed keeps n) (before ++ x ∷ []) xs) given
      ∙ ap (λ (row : List X). option_to_list (picked (keeps (take (length done + n + 1) (before ++ x ∷ xs))) (Some y)) ++ row)
      (ap (λ (row : List X). all_given (delayed keeps n) row xs) shift
      ∙ (gives-late (done ++ y ∷ []) (mid ++ x ∷ []) xs some (omega arith)
      ∙ (ap (λ (row : List X). kept_rows row (length (done ++ y ∷ [])) (take (length xs) ((mid ++ x ∷ []) ++ xs))) all
      ∙ (ap (λ (k : ℕ). kept_rows (before ++ x ∷ xs) k (take (length xs) ((mid ++ x ∷ []) ++ xs))) on
      ∙ ap (λ (row : List X). kept_rows (before ++ x ∷ xs) (length done + 1) (take (length xs) row)) (append_assoc mid (x ∷ []) xs)))))

  -- with items and `n` more after them, those of the items that are kept
  pub late-given : (xs more : List X) → 1 ≤ n → length more ≡ n → all_given (delayed keeps n) [] (xs ++ more) ≡ kept_rows (xs ++ more) 0 xs
  late-given xs more some long =
      let whole : length (xs ++ more) ≡ length xs + length more = length-append xs more in
      let first : length (take n (xs ++ more)) ≡ n = length_take n (xs ++ more) (omega arith) in
      let rest : length (drop n (xs ++ more)) ≡ length xs = length-drop n (xs ++ more) ∙ omega arith in
      let split : take n (xs ++ more) ++ drop n (xs ++ more) ≡ xs ++ more = take-append-drop n (xs ++ more) in
      ap (all_given (delayed keeps n) []) (sym split)
      ∙ (gives-behind (delayed keeps n) [] (take n (xs ++ more)) (drop n (xs ++ more))
      ∙ (ap (λ (row : List X). row ++ all_given (delayed keeps n) (take n (xs ++ more)) (drop n (xs ++ more))) (gives-none (delayed keeps n) n none_first [] (take n (xs ++ more)) (omega arith))
      ∙ (gives-late [] (take n (xs ++ more)) (drop n (xs ++ more)) some first
      ∙ (ap (λ (row : List X). kept_rows row 0 (take (length (drop n (xs ++ more))) row)) split
      ∙ ap (kept_rows (xs ++ more) 0) (ap (λ (k : ℕ). take k (xs ++ more)) rest ∙ take_at xs more (length xs) refl)))))
