-- Stages that are driven in parts.
use Rattle.std.proofs.Common.{◌≡◌, ℕ, zero, suc, ◌<◌, List, [], ◌∷◌, ◌++◌, length, set, slice_index_or, refl, ◌∙◌, subst, arith, Bool, true, false}
use Rattle.std.specs.Prelude.{◌&&◌}
use Rattle.cell_land.specs.declared.cell_window.Bases.{Bases}
use Rattle.stage_run.specs.Seeing.{Seeing}
use Rattle.chain_run.specs.Runs.{RunStart}
use Rattle.window_ring.specs.declared.ring.Ring.{Ring}
use Rattle.chain_model.specs.Each.{Each}
use Rattle.window_ring.specs.Seats.{key_of, table_of}
use Rattle.chain_threads.specs.declared.stage.Stage.{Stage}
use Rattle.chain_threads.specs.Standing.{key_at}
use Rattle.chain_threads.specs.Driving.{Holds, IsReady, AreReady, Keeps, AreBeside, Carried, HaveEnded}

-- ---- each of a row

module _ {X : Type 0} (F : X → Type 0) where
  each-front : (xs ys : List X) → Each F (xs ++ ys) → Each F xs
  each-front [] ys all = tt
  each-front (x ∷ xs) ys all = (all.0, each-front xs ys all.1)

  each-back : (xs ys : List X) → Each F (xs ++ ys) → Each F ys
  each-back [] ys all = all
  each-back (x ∷ xs) ys all = each-back xs ys all.1

  each-both : (xs ys : List X) → Each F xs → Each F ys → Each F (xs ++ ys)
  each-both [] ys a b = b
  each-both (x ∷ xs) ys a b = (a.0, each-both xs ys a.1 b)

  pub each_first : (all xs ys : List X) → all ≡ xs ++ ys → Each F all → Each F xs
  each_first all xs ys is e = each-front xs ys (subst (Each F) is e)

  pub each_rest : (all xs ys : List X) → all ≡ xs ++ ys → Each F all → Each F ys
  each_rest all xs ys is e = each-back xs ys (subst (Each F) is e)

  pub each_one : (xs : List X) (d : X) → length xs ≡ 1 → Each F xs → F (slice_index_or xs 0 d)
  each_one [] d e all = absurd (omega (arith, e))
  each_one (x ∷ xs) d e all = all.0

-- ---- rows beside each other

module _ {X : Type 0} (F : X → X → Type 0) where
  beside-same : ((x : X) → F x x) → (xs : List X) → AreBeside F xs xs
  unfolding AreBeside
  beside-same f [] = tt
  beside-same f (x ∷ xs) = (f x, beside-same f xs)

  beside-then : ((x y z : X) → F x y → F y z → F x z) → (xs ys zs : List X) → AreBeside F xs ys → AreBeside F ys zs → AreBeside F xs zs
  unfolding AreBeside
  beside-then f [] [] [] a b = tt
  beside-then f [] [] (z ∷ zs) a b = absurd b
  beside-then f [] (y ∷ ys) zs a b = absurd a
  beside-then f (x ∷ xs) [] zs a b = absurd a
  beside-then f (x ∷ xs) (y ∷ ys) [] a b = absurd b
  beside-then f (x ∷ xs) (y ∷ ys) (z ∷ zs) a b = (f x y z a.0 b.0, beside-then f xs ys zs a.1 b.1)

  beside-joined : (xs xs' ys ys' : List X) → AreBeside F xs xs' → AreBeside F ys ys' → AreBeside F (xs ++ ys) (xs' ++ ys')
  unfolding AreBeside
  beside-joined [] [] ys ys' a b = b
  beside-joined [] (z ∷ zs) ys ys' a b = absurd a
  beside-joined (x ∷ xs) [] ys ys' a b = absurd a
  beside-joined (x ∷ xs) (z ∷ zs) ys ys' a b = (a.0, beside-joined xs zs ys ys' a.1 b)

  pub beside_both : (all xs xs' ys ys' : List X) → xs ++ ys ≡ all → AreBeside F xs xs' → AreBeside F ys ys' → AreBeside F all (xs' ++ ys')
  beside_both all xs xs' ys ys' is a b = subst (λ l. AreBeside F l (xs' ++ ys')) is (beside-joined xs xs' ys ys' a b)

  pub beside_none : (xs : List X) → length xs ≡ 0 → AreBeside F xs xs
  unfolding AreBeside
  beside_none [] e = tt
  beside_none (x ∷ xs) e = absurd (omega (arith, e))

  pub beside_one : (xs : List X) (d new : X) → length xs ≡ 1 → F (slice_index_or xs 0 d) new → AreBeside F xs (set xs 0 new)
  unfolding AreBeside
  beside_one [] d new e k = absurd (omega (arith, e))
  beside_one (x ∷ []) d new e k = (k, tt)
  beside_one (x ∷ y ∷ ys) d new e k = absurd (omega (arith, e))

-- ---- all have ended

module _ {S K P : Type 0} where
  pub over_both : (a b : Bool) (first rest : List (Stage S K P)) → HaveEnded a first → HaveEnded b rest → HaveEnded (a && b) (first ++ rest)
  unfolding HaveEnded
  over_both true b first rest x y = λ e. each-both (λ (s : Stage S K P). s.over ≡ true) first rest (x refl) (y e)
  over_both false b first rest x y = λ e. absurd cc

  pub over_empty : (b : Bool) (stages : List (Stage S K P)) → length stages ≡ 0 → HaveEnded b stages
  unfolding HaveEnded
  over_empty b [] e = λ t. tt
  over_empty b (x ∷ xs) e = absurd (omega (arith, e))

  pub over_one : (stages : List (Stage S K P)) (new : Stage S K P) → length stages ≡ 1 → HaveEnded new.over (set stages 0 new)
  unfolding HaveEnded
  over_one [] new e = absurd (omega (arith, e))
  over_one (x ∷ []) new e = λ t. (t, tt)
  over_one (x ∷ y ∷ ys) new e = absurd (omega (arith, e))

module _ {S K P : Type 0} (see : Seeing S K P) (ring : Ring) where
  -- ---- one stage

  pub kept_same : (s : Stage S K P) → Keeps see ring s s
  unfolding Keeps
  kept_same s = (refl, λ begun base e h. h)

  pub kept_then : (a b c : Stage S K P) → Keeps see ring a b → Keeps see ring b c → Keeps see ring a c
  unfolding Keeps
  kept_then a b c x y = (y.0 ∙ x.0, λ begun base e h. y.1 begun base e (x.1 begun base e h))

  pub kept_open : (a b : Stage S K P) → Keeps see ring a b → (begun : RunStart S K) (base : Bases) → key_of ring ≡ key_at begun base → Holds see begun base (table_of ring) a → Holds see begun base (table_of ring) b
  unfolding Keeps
  kept_open a b k = k.1

  pub one_still_ready : (a b : Stage S K P) → Keeps see ring a b → IsReady see ring a → IsReady see ring b
  unfolding IsReady
  one_still_ready a b k r = (r.0, r.1, r.2, kept_open a b k r.0 r.1 r.2 r.3)

  -- ---- a row

  pub same : (stages : List (Stage S K P)) → Carried see ring stages stages
  same stages = beside-same (Keeps see ring) kept_same stages

  pub then_ : (one two three : List (Stage S K P)) → Carried see ring one two → Carried see ring two three → Carried see ring one three
  then_ one two three a b = beside-then (Keeps see ring) kept_then one two three a b

  pub both : (stages first first' rest rest' : List (Stage S K P)) → first ++ rest ≡ stages → Carried see ring first first' → Carried see ring rest rest' → Carried see ring stages (first' ++ rest')
  both stages first first' rest rest' is a b = beside_both (Keeps see ring) stages first first' rest rest' is a b

  held : (old new : List (Stage S K P)) → Carried see ring old new → (begun : RunStart S K) (base : Bases) → key_of ring ≡ key_at begun base → Each (Holds see begun base (table_of ring)) old → Each (Holds see begun base (table_of ring)) new
  unfolding AreBeside
  held [] [] c begun base e all = tt
  held [] (y ∷ ys) c begun base e all = absurd c
  held (x ∷ xs) [] c begun base e all = absurd c
  held (x ∷ xs) (y ∷ ys) c begun base e all = (kept_open x y c.0 begun base e all.0, held xs ys c.1 begun base e all.1)

  pub still_ready : (old new : List (Stage S K P)) → Carried see ring old new → AreReady see ring old → AreReady see ring new
  unfolding AreReady
  still_ready old new c r = (r.0, r.1, r.2, held old new c r.0 r.1 r.2 r.3)

  pub ready_first : (stages first rest : List (Stage S K P)) → stages ≡ first ++ rest → AreReady see ring stages → AreReady see ring first
  unfolding AreReady
  ready_first stages first rest is r = let Q = Holds see r.0 r.1 (table_of ring) in (r.0, r.1, r.2, each-front Q first rest (subst (Each Q) is r.3))

  pub ready_rest : (stages first rest : List (Stage S K P)) → stages ≡ first ++ rest → AreReady see ring stages → AreReady see ring rest
  unfolding AreReady
  ready_rest stages first rest is r = let Q = Holds see r.0 r.1 (table_of ring) in (r.0, r.1, r.2, each-back Q first rest (subst (Each Q) is r.3))

  -- ---- a row of one

  pub first_ready : (stages : List (Stage S K P)) (d : Stage S K P) → length stages ≡ 1 → AreReady see ring stages → IsReady see ring (slice_index_or stages 0 d)
  unfolding AreReady IsReady
  first_ready stages d e r = (r.0, r.1, r.2, each_one (Holds see r.0 r.1 (table_of ring)) stages d e r.3)

  pub first_carried : (stages : List (Stage S K P)) (d new : Stage S K P) → length stages ≡ 1 → Keeps see ring (slice_index_or stages 0 d) new → Carried see ring stages (set stages 0 new)
  first_carried stages d new e k = beside_one (Keeps see ring) stages d new e k

  -- ---- each is ready by itself

  each-ready : (stages : List (Stage S K P)) (begun : RunStart S K) (base : Bases) → key_of ring ≡ key_at begun base → Each (Holds see begun base (table_of ring)) stages → Each (IsReady see ring) stages
  unfolding IsReady
  each-ready [] begun base e all = tt
  each-ready (x ∷ xs) begun base e all = ((begun, base, e, all.0), each-ready xs begun base e all.1)

  pub each_ready : (stages : List (Stage S K P)) → AreReady see ring stages → Each (IsReady see ring) stages
  unfolding AreReady
  each_ready stages r = each-ready stages r.0 r.1 r.2 r.3

module _ {X : Type 0} (F : X → X → Type 0) where
  -- rows of one length are beside each other where they are at each place
  pub beside_each : (xs ys : List X) → length ys ≡ length xs → ((i : ℕ) (d : X) → i < length xs → F (slice_index_or xs i d) (slice_index_or ys i d)) → AreBeside F xs ys
  unfolding AreBeside
  beside_each [] [] e at = tt
  beside_each [] (y ∷ ys) e at = absurd (omega (arith, e))
  beside_each (x ∷ xs) [] e at = absurd (omega (arith, e))
  beside_each (x ∷ xs) (y ∷ ys) e at = (at 0 x (omega arith), beside_each xs ys (omega (arith, e)) (λ i d lt. at (suc i) d (omega (arith, lt))))

module _ {X : Type 0} (F : X → Type 0) where
  pub each_at : (xs : List X) (i : ℕ) (d : X) → Each F xs → i < length xs → F (slice_index_or xs i d)
  each_at [] i d all lt = absurd (omega (arith, lt))
  each_at (x ∷ xs) zero d all lt = all.0
  each_at (x ∷ xs) (suc i) d all lt = each_at xs i d all.1 (omega (arith, lt))
