-- Lemmas on how each step of `compact` changes what its delay line keeps.
use Rattle.std.proofs.Common.{◌≡◌, ℕ, zero, suc, ◌+◌, ◌-◌, ◌*◌, ◌/◌, ◌%◌, ◌<◌, ◌≤◌, nat_lt, ◌==◌, List, [], ◌∷◌, ◌++◌, length, take, drop, filter, slice_get, Bool, true, false, not, Option, None, if◌then◌else◌, refl, ap, sym, ◌∙◌, subst, arith, append_assoc, append-nil, length-append, length-drop, add-one}
use Rattle.std.proofs.lemmas.Bool.{cond-true, cond-false, lt-ltb, le-ltb, ltb-true, ltb-false, eqb-true, eqb-false}
use Rattle.std.proofs.lemmas.Nat.{div-mul-add, mod-mul-add}
use Rattle.std.proofs.lemmas.List.{drop_all, drop_at, take_at}
use Rattle.std.proofs.lemmas.List.Elements.{filter-append}
use Rattle.std.proofs.lemmas.List.Filters.{length-filter_both}
use Rattle.plug_window.specs.CompactRule.{ahead, parted, block, compacted}
use Rattle.plug_window.specs.BlockState.{Collected, first_of, shifted, filled, counted, Keeps, CollectsWhere, Collects}

-- what holds for either branch of an `if` holds for the `if`
on_if : {Y : Type 0} (P : Y → Type 0) (b : Bool) (x y : Y) → (b ≡ true → P x) → (b ≡ false → P y) → P (if b then x else y)
on_if P true x y f g = f refl
on_if P false x y f g = g refl

module _ {X : Type 0} where
  pub front_at : (xs ys : List X) (k : ℕ) → k < length xs → slice_get (drop k xs ++ ys) 0 ≡ slice_get xs k
  front_at [] ys k lt = absurd (omega arith)
  front_at (x ∷ xs) ys zero lt = refl
  front_at (x ∷ xs) ys (suc k) lt = front_at xs ys k (omega arith)

  pub within_first : (xs ys : List X) (k : ℕ) → k < length xs → slice_get (xs ++ ys) k ≡ slice_get xs k
  within_first [] ys k lt = absurd (omega arith)
  within_first (x ∷ xs) ys zero lt = refl
  within_first (x ∷ xs) ys (suc k) lt = within_first xs ys k (omega arith)

  past_first : (xs ys : List X) (k : ℕ) → length xs ≤ k → slice_get (xs ++ ys) k ≡ slice_get ys (k - length xs)
  past_first [] ys k le = ap (slice_get ys) (omega arith)
  past_first (x ∷ xs) ys zero le = absurd (omega arith)
  past_first (x ∷ xs) ys (suc k) le = past_first xs ys k (omega arith) ∙ ap (slice_get ys) (omega arith)

  drop_next : (xs ys : List X) (k : ℕ) → k < length xs → drop 1 (drop k xs ++ ys) ≡ drop (suc k) xs ++ ys
  drop_next [] ys k lt = absurd (omega arith)
  drop_next (x ∷ xs) ys zero lt = refl
  drop_next (x ∷ xs) ys (suc k) lt = drop_next xs ys k (omega arith)

module _ {X : Type 0} (last : X → Bool) where
  -- every item is of one of the two kinds
  pub kinds : (xs : List X) → length (ahead last xs) + length (filter last xs) ≡ length xs
  kinds xs = let h : length (filter last xs) + length (ahead last xs) ≡ length xs = length-filter_both last (λ x. not (last x)) (λ x. refl) xs in omega arith

  nought : (k : ℕ) → 0 ≡ 0 - k
  nought k = omega arith

  -- the next item of the block that is output is taken out
  keeps-shift : (given taken : List X) (m : ℕ) (packets nulls : List X) (collected left : ℕ) → m < length given
      → Keeps last given taken m (record { packets = packets; nulls = nulls; collected = collected; left = left; gives = true })
      → Keeps last given taken (suc m) (shifted (record { packets = packets; nulls = nulls; collected = collected; left = left; gives = true }))
  keeps-shift given taken m packets nulls collected left lt k =
      let all : length (ahead last given) + length (filter last given) ≡ length given = kinds given in
      let l : left ≡ length (ahead last given) - m = k.left_is in
      record {
        packets_are = on_if (λ (row : List X). row ≡ drop (suc m) (ahead last given) ++ ahead last taken) (nat_lt 0 left) (drop 1 packets) packets
            (λ yes_. let some : 0 < left = ltb-true 0 left yes_ in ap (drop 1) k.packets_are ∙ drop_next (ahead last given) (ahead last taken) m (omega arith))
            (λ no_. let none_left : left ≤ 0 = ltb-false 0 left no_ in
            k.packets_are ∙ ap (λ (row : List X). row ++ ahead last taken) (drop_all m (ahead last given) (omega arith) ∙ sym (drop_all (suc m) (ahead last given) (omega arith))));
        nulls_are = on_if (λ (row : List X). row ≡ drop (suc m - length (ahead last given)) (filter last given) ++ filter last taken) (nat_lt 0 left) nulls (drop 1 nulls)
            (λ yes_. let some : 0 < left = ltb-true 0 left yes_ in
            let same : m - length (ahead last given) ≡ suc m - length (ahead last given) = omega arith in
            k.nulls_are ∙ ap (λ (j : ℕ). drop j (filter last given) ++ filter last taken) same)
            (λ no_. let none_left : left ≤ 0 = ltb-false 0 left no_ in
            let next : suc (m - length (ahead last given)) ≡ suc m - length (ahead last given) = omega arith in
            ap (drop 1) k.nulls_are ∙ (drop_next (filter last given) (filter last taken) (m - length (ahead last given)) (omega arith)
            ∙ ap (λ (j : ℕ). drop j (filter last given) ++ filter last taken) next));
        left_is = omega arith;
      }

  -- an item is appended to those that are collected
  keeps-fill : (given taken : List X) (m : ℕ) (s : Collected X) (x : X) → Keeps last given taken m s → Keeps last given (taken ++ x ∷ []) m (filled last x s)
  keeps-fill given taken m s x k = record {
    packets_are = ap (λ (row : List X). row ++ ahead last (x ∷ [])) k.packets_are
        ∙ (append_assoc (drop m (ahead last given)) (ahead last taken) (ahead last (x ∷ []))
        ∙ ap (λ (row : List X). drop m (ahead last given) ++ row) (sym (filter-append (λ y. not (last y)) taken (x ∷ []))));
    nulls_are = ap (λ (row : List X). row ++ filter last (x ∷ [])) k.nulls_are
        ∙ (append_assoc (drop (m - length (ahead last given)) (filter last given)) (filter last taken) (filter last (x ∷ []))
        ∙ ap (λ (row : List X). drop (m - length (ahead last given)) (filter last given) ++ row) (sym (filter-append last taken (x ∷ []))));
    left_is = k.left_is;
  }

  -- the next item of the block that is output is the first of its kind: of the packets while one of the block is left
  member : (given taken packets nulls : List X) (collected left : ℕ) → collected < length given
      → Keeps last given taken collected (record { packets = packets; nulls = nulls; collected = collected; left = left; gives = true })
      → (if nat_lt 0 left then slice_get packets 0 else slice_get nulls 0) ≡ slice_get (parted last given) collected
  member given taken packets nulls collected left lt k =
      let all : length (ahead last given) + length (filter last given) ≡ length given = kinds given in
      let l : left ≡ length (ahead last given) - collected = k.left_is in
      on_if (λ (front : Option X). front ≡ slice_get (parted last given) collected) (nat_lt 0 left) (slice_get packets 0) (slice_get nulls 0)
      (λ yes_. let some : 0 < left = ltb-true 0 left yes_ in
      ap (λ (row : List X). slice_get row 0) k.packets_are
      ∙ (front_at (ahead last given) (ahead last taken) collected (omega arith) ∙ sym (within_first (ahead last given) (filter last given) collected (omega arith))))
      (λ no_. let none_left : left ≤ 0 = ltb-false 0 left no_ in
      ap (λ (row : List X). slice_get row 0) k.nulls_are
      ∙ (front_at (filter last given) (filter last taken) (collected - length (ahead last given)) (omega arith) ∙ sym (past_first (ahead last given) (filter last given) collected (omega arith))))

  -- how many items of either kind are kept
  kept : (given taken packets nulls : List X) (m : ℕ) (collected left : ℕ)
      → Keeps last given taken m (record { packets = packets; nulls = nulls; collected = collected; left = left; gives = true })
      → (length packets ≡ (length (ahead last given) - m) + length (ahead last taken)) × (length nulls ≡ (length (filter last given) - (m - length (ahead last given))) + length (filter last taken))
  kept given taken packets nulls m collected left k = (
    ap length k.packets_are ∙ (length-append (drop m (ahead last given)) (ahead last taken) ∙ ap (λ (j : ℕ). j + length (ahead last taken)) (length-drop m (ahead last given))),
    ap length k.nulls_are ∙ (length-append (drop (m - length (ahead last given)) (filter last given)) (filter last taken) ∙ ap (λ (j : ℕ). j + length (filter last taken)) (length-drop (m - length (ahead last given)) (filter last given))),
  )

  module _ (n : ℕ) where
    -- counting while a block is output: the collected items become the block that is output, or wait
    counts-gives : (before given taken came : List X) (blocks : ℕ) (packets nulls : List X) (collected left : ℕ)
        → came ≡ before ++ (given ++ taken) → length before ≡ blocks * n → length given ≡ n → length taken ≡ suc collected → collected < n
        → Keeps last given taken (suc collected) (record { packets = packets; nulls = nulls; collected = collected; left = left; gives = true })
        → Collects last n came (counted n (record { packets = packets; nulls = nulls; collected = collected; left = left; gives = true }))
    counts-gives before given taken came blocks packets nulls collected left is behind whole count below k =
        let all : length (ahead last given) + length (filter last given) ≡ length given = kinds given in
        let packets_left : packets ≡ drop (suc collected) (ahead last given) ++ ahead last taken = k.packets_are in
        let nulls_left : nulls ≡ drop (suc collected - length (ahead last given)) (filter last given) ++ filter last taken = k.nulls_are in
        on_if (λ (s : Collected X). Collects last n came s) (collected + 1 == n)
        (record { packets = packets; nulls = nulls; collected = 0; left = length packets; gives = true })
        (record { packets = packets; nulls = nulls; collected = collected + 1; left = left; gives = true })
        (λ yes_. let at : collected + 1 ≡ n = eqb-true (collected + 1) n yes_ in
        let first : packets ≡ ahead last taken = packets_left ∙ ap (λ (row : List X). row ++ ahead last taken) (drop_all (suc collected) (ahead last given) (omega arith)) in
        let second : nulls ≡ filter last taken = nulls_left ∙ ap (λ (row : List X). row ++ filter last taken) (drop_all (suc collected - length (ahead last given)) (filter last given) (omega arith)) in
        record {
          before = before ++ given;
          given = taken;
          taken = [];
          blocks = suc blocks;
          is = is ∙ (sym (append_assoc before given taken) ∙ ap (λ (row : List X). (before ++ given) ++ row) (sym (append-nil taken)));
          behind = (let two : length (before ++ given) ≡ length before + length given = length-append before given in omega arith);
          whole = omega arith;
          count = refl;
          below = omega arith;
          keeps = record {
            packets_are = first ∙ sym (append-nil (ahead last taken));
            nulls_are = second ∙ (sym (append-nil (filter last taken)) ∙ ap (λ (j : ℕ). drop j (filter last taken) ++ []) (nought (length (ahead last taken))));
            left_is = ap length first ∙ omega arith;
          };
        })
        (λ no_. let other : collected + 1 ≡ n → ⊥ = eqb-false (collected + 1) n no_ in
        let less : collected + 1 < n = omega arith in
        record {
          before = before;
          given = given;
          taken = taken;
          blocks = blocks;
          is = is;
          behind = behind;
          whole = whole;
          count = count ∙ sym (add-one collected);
          below = less;
          keeps = subst (λ (m : ℕ). Keeps last given taken m (record { packets = packets; nulls = nulls; collected = collected + 1; left = left; gives = true })) (sym (add-one collected))
              (record { packets_are = packets_left; nulls_are = nulls_left; left_is = k.left_is });
        })

    -- counting before the first block is complete
    counts-starts : (came : List X) (packets nulls : List X) (collected left : ℕ)
        → length came ≡ suc collected → collected < n → packets ≡ ahead last came → nulls ≡ filter last came
        → Collects last n came (counted n (record { packets = packets; nulls = nulls; collected = collected; left = left; gives = false }))
    counts-starts came packets nulls collected left count below first second =
        on_if (λ (s : Collected X). Collects last n came s) (collected + 1 == n)
        (record { packets = packets; nulls = nulls; collected = 0; left = length packets; gives = true })
        (record { packets = packets; nulls = nulls; collected = collected + 1; left = left; gives = false })
        (λ yes_. let at : collected + 1 ≡ n = eqb-true (collected + 1) n yes_ in
        record {
          before = [];
          given = came;
          taken = [];
          blocks = 0;
          is = sym (append-nil came);
          behind = omega arith;
          whole = omega arith;
          count = refl;
          below = omega arith;
          keeps = record {
            packets_are = first ∙ sym (append-nil (ahead last came));
            nulls_are = second ∙ (sym (append-nil (filter last came)) ∙ ap (λ (j : ℕ). drop j (filter last came) ++ []) (nought (length (ahead last came))));
            left_is = ap length first ∙ omega arith;
          };
        })
        (λ no_. let other : collected + 1 ≡ n → ⊥ = eqb-false (collected + 1) n no_ in
        record { count = count ∙ sym (add-one collected); below = omega arith; packets_are = first; nulls_are = second })

    -- one turn: what is kept of the items that came in becomes what is kept of them and one more
    pub turned : (came : List X) (x : X) (packets nulls : List X) (collected left : ℕ) (gives : Bool)
        → CollectsWhere gives last n came (record { packets = packets; nulls = nulls; collected = collected; left = left; gives = gives })
        → Collects last n (came ++ x ∷ []) (counted n (filled last x (shifted (record { packets = packets; nulls = nulls; collected = collected; left = left; gives = gives }))))
    turned came x packets nulls collected left true h =
        let some : length h.taken ≡ collected = h.count in
        let less : collected < n = h.below in
        let all : length h.given ≡ n = h.whole in
        counts-gives h.before h.given (h.taken ++ x ∷ []) (came ++ x ∷ []) h.blocks _ _ collected _
        (ap (λ (row : List X). row ++ x ∷ []) h.is ∙ (append_assoc h.before (h.given ++ h.taken) (x ∷ []) ∙ ap (λ (row : List X). h.before ++ row) (append_assoc h.given h.taken (x ∷ []))))
        h.behind h.whole (length-append h.taken (x ∷ []) ∙ omega arith) h.below
        (keeps-fill h.given h.taken (suc collected) (shifted (record { packets = packets; nulls = nulls; collected = collected; left = left; gives = true })) x
        (keeps-shift h.given h.taken collected packets nulls collected left (omega arith) h.keeps))
    turned came x packets nulls collected left false h =
        counts-starts (came ++ x ∷ []) _ _ collected left
        (length-append came (x ∷ []) ∙ (ap (λ (k : ℕ). k + 1) h.count ∙ add-one collected)) h.below
        (ap (λ (row : List X). row ++ ahead last (x ∷ [])) h.packets_are ∙ sym (filter-append (λ y. not (last y)) came (x ∷ [])))
        (ap (λ (row : List X). row ++ filter last (x ∷ [])) h.nulls_are ∙ sym (filter-append last came (x ∷ [])))

    -- the item of the block before that the rule outputs, if the items that came in are given as blocks
    pub in_block : (before given taken came : List X) (blocks : ℕ) (x : X) → came ≡ before ++ (given ++ taken) → length before ≡ blocks * n → length given ≡ n → length taken < n
        → compacted last n came x ≡ slice_get (parted last given) (length taken)
    in_block before given taken came blocks x is behind all less =
        let parts : length (before ++ (given ++ taken)) ≡ length before + length (given ++ taken) = length-append before (given ++ taken) in
        let two : length (given ++ taken) ≡ length given + length taken = length-append given taken in
        let whole : length came ≡ length (before ++ (given ++ taken)) = ap length is in
        let long : length came ≡ suc blocks * n + length taken = omega arith in
        let number : length came / n ≡ suc blocks = ap (λ (k : ℕ). k / n) long ∙ div-mul-add (suc blocks) n (length taken) less in
        let place : length came % n ≡ length taken = ap (λ (k : ℕ). k % n) long ∙ mod-mul-add (suc blocks) n (length taken) less in
        let last_block : length came / n - 1 ≡ blocks = omega arith in
        let row : came ++ x ∷ [] ≡ before ++ (given ++ (taken ++ x ∷ [])) =
        ap (λ (row : List X). row ++ x ∷ []) is ∙ (append_assoc before (given ++ taken) (x ∷ []) ∙ ap (λ (row : List X). before ++ row) (append_assoc given taken (x ∷ []))) in
        let is_block : block n blocks (came ++ x ∷ []) ≡ given =
        ap (λ (row : List X). take n (drop (blocks * n) row)) row
        ∙ (ap (take n) (drop_at before (given ++ (taken ++ x ∷ [])) (blocks * n) behind)
        ∙ take_at given (taken ++ x ∷ []) n all) in
        cond-false (nat_lt (length came) n) None _ (le-ltb (length came) n (omega arith))
        ∙ (ap (λ (k : ℕ). slice_get (parted last (block n k (came ++ x ∷ []))) (length came % n)) last_block
        ∙ (ap (λ (row : List X). slice_get (parted last row) (length came % n)) is_block
        ∙ ap (slice_get (parted last given)) place))

    -- the line outputs what the rule outputs
    pub first-is : (came : List X) (x : X) (packets nulls : List X) (collected left : ℕ) (gives : Bool)
        → CollectsWhere gives last n came (record { packets = packets; nulls = nulls; collected = collected; left = left; gives = gives })
        → first_of (record { packets = packets; nulls = nulls; collected = collected; left = left; gives = gives }) ≡ compacted last n came x
    first-is came x packets nulls collected left true h =
        let some : length h.taken ≡ collected = h.count in
        let less : collected < n = h.below in
        let all : length h.given ≡ n = h.whole in
        member h.given h.taken packets nulls collected left (omega arith) h.keeps
        ∙ (ap (slice_get (parted last h.given)) (sym h.count)
        ∙ sym (in_block h.before h.given h.taken came h.blocks x h.is h.behind h.whole (omega arith)))
    first-is came x packets nulls collected left false h =
        let some : length came ≡ collected = h.count in
        let less : collected < n = h.below in
        sym (cond-true (nat_lt (length came) n) None _ (lt-ltb (length came) n (omega arith)))

    -- either queue has a free place for the next item
    pub has_room : (came : List X) (packets nulls : List X) (collected left : ℕ) (gives : Bool)
        → CollectsWhere gives last n came (record { packets = packets; nulls = nulls; collected = collected; left = left; gives = gives })
        → let s = shifted (record { packets = packets; nulls = nulls; collected = collected; left = left; gives = gives }) in (length s.packets < n) × (length s.nulls < n)
    has_room came packets nulls collected left true h =
        let some : length h.taken ≡ collected = h.count in
        let less : collected < n = h.below in
        let all : length h.given ≡ n = h.whole in
        let given_kinds : length (ahead last h.given) + length (filter last h.given) ≡ length h.given = kinds h.given in
        let taken_kinds : length (ahead last h.taken) + length (filter last h.taken) ≡ length h.taken = kinds h.taken in
        let l : left ≡ length (ahead last h.given) - collected = h.keeps.left_is in
        let many = kept h.given h.taken packets nulls collected collected left h.keeps in
        let ps : length packets ≡ (length (ahead last h.given) - collected) + length (ahead last h.taken) = many.0 in
        let ns : length nulls ≡ (length (filter last h.given) - (collected - length (ahead last h.given))) + length (filter last h.taken) = many.1 in
        let less_packets : length (drop 1 packets) ≡ length packets - 1 = length-drop 1 packets in
        let less_nulls : length (drop 1 nulls) ≡ length nulls - 1 = length-drop 1 nulls in (
          on_if (λ (row : List X). length row < n) (nat_lt 0 left) (drop 1 packets) packets
              (λ yes_. let have : 0 < left = ltb-true 0 left yes_ in omega arith)
              (λ no_. let none_left : left ≤ 0 = ltb-false 0 left no_ in omega arith),
          on_if (λ (row : List X). length row < n) (nat_lt 0 left) nulls (drop 1 nulls)
              (λ yes_. let have : 0 < left = ltb-true 0 left yes_ in omega arith)
              (λ no_. let none_left : left ≤ 0 = ltb-false 0 left no_ in omega arith),
        )
    has_room came packets nulls collected left false h =
        let some : length came ≡ collected = h.count in
        let less : collected < n = h.below in
        let all : length (ahead last came) + length (filter last came) ≡ length came = kinds came in
        let ps : length packets ≡ length (ahead last came) = ap length h.packets_are in
        let ns : length nulls ≡ length (filter last came) = ap length h.nulls_are in
        (omega arith, omega arith)
