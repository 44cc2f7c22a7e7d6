-- Stages that are driven in parts.
use Rattle.std.proofs.Common.{◌≡◌, List, [], ◌∷◌, ◌++◌, length, set, slice_index_or, refl, sym, ap, ◌∙◌, arith, append_assoc, Bool, true, false, ◌&&◌}
use Rattle.cell_land.specs.declared.cell_window.Bases.{Bases}
use Rattle.chain_core.specs.Machine.{Visit}
use Rattle.stage_run.specs.Seeing.{Seeing}
use Rattle.chain_model.specs.Each.{Each}
use Rattle.chain_run.specs.Runs.{RunStart}
use Rattle.window_ring.specs.declared.ring.Ring.{Ring}
use Rattle.window_ring.specs.Seats.{seen_of, key_of, table_of}
use Rattle.chain_threads.specs.Standing.{key_at}
use Rattle.chain_threads.specs.Driving.{AreBeside}
use Rattle.chain_threads.proofs.Carries.{each_first, each_rest, each_one, beside_both, beside_one}
use Rattle.chain_live_threads.specs.declared.live_stage.LiveStage.{LiveStage}
use Rattle.chain_live_threads.specs.Serving.{Serves, HasSeenMore, IsReady, Keeps}
use Rattle.chain_live_threads.specs.Marking.{IsSameBesidesPart}
use Rattle.chain_live_threads.specs.Rows.{HaveEnded, AreReady, Carried}

beside-same : {X : Type 0} (F : X → X → Type 0) → ((x : X) → F x x) → (xs : List X) → AreBeside F xs xs
unfolding AreBeside
beside-same F f [] = tt
beside-same F f (x ∷ xs) = (f x, beside-same F f xs)

beside-then : {X : Type 0} (F : X → X → Type 0) → ((x y z : X) → F x y → F y z → F x z) → (xs ys zs : List X) → AreBeside F xs ys → AreBeside F ys zs → AreBeside F xs zs
unfolding AreBeside
beside-then F f [] [] [] a b = tt
beside-then F f [] [] (z ∷ zs) a b = absurd b
beside-then F f [] (y ∷ ys) zs a b = absurd a
beside-then F f (x ∷ xs) [] zs a b = absurd a
beside-then F f (x ∷ xs) (y ∷ ys) [] a b = absurd b
beside-then F f (x ∷ xs) (y ∷ ys) (z ∷ zs) a b = (f x y z a.0 b.0, beside-then F f xs ys zs a.1 b.1)

each-both : {X : Type 0} (F : X → Type 0) (xs ys : List X) → Each F xs → Each F ys → Each F (xs ++ ys)
each-both F [] ys a b = b
each-both F (x ∷ xs) ys a b = (a.0, each-both F xs ys a.1 b)

module _ {S K P : Type 0} (see : Seeing S K P) (ring : Ring) where
  -- ---- one stage

  pub kept_same : (s : LiveStage S K P) → Keeps see ring s s
  unfolding Keeps
  kept_same s = (refl, λ begun base e h. (h, ([], refl)))

  pub kept_then : (a b c : LiveStage S K P) → Keeps see ring a b → Keeps see ring b c → Keeps see ring a c
  unfolding Keeps
  kept_then a b c x y = (
    y.0 ∙ x.0,
    λ begun base e h.
        let one = x.1 begun base e h in
        let two = y.1 begun base e one.0 in
        (two.0, (two.1.0 ++ one.1.0, two.1.1 ∙ (ap (λ (l : List Visit). two.1.0 ++ l) one.1.1 ∙ sym (append_assoc two.1.0 one.1.0 (seen_of a.seat))))),
  )

  pub kept_open : (a b : LiveStage S K P) → Keeps see ring a b → (begun : RunStart S K) (base : Bases) → key_of ring ≡ key_at begun base
      → Serves see begun base (table_of ring) a → Serves see begun base (table_of ring) b × HasSeenMore see a b
  unfolding Keeps
  kept_open a b k = k.1

  pub kept_number : (a b : LiveStage S K P) → Keeps see ring a b → b.seat.stage ≡ a.seat.stage
  unfolding Keeps
  kept_number a b k = k.0

  pub one_still_ready : (a b : LiveStage S K P) → Keeps see ring a b → IsReady see ring a → IsReady see ring b
  unfolding IsReady
  one_still_ready a b k r = (r.0, r.1, r.2, (kept_open a b k r.0 r.1 r.2 r.3).0)

  -- ---- a row

  pub same : (stages : List (LiveStage S K P)) → Carried see ring stages stages
  same stages = beside-same (Keeps see ring) kept_same stages

  pub then_ : (one two three : List (LiveStage S K P)) → Carried see ring one two → Carried see ring two three → Carried see ring one three
  then_ one two three a b = beside-then (Keeps see ring) kept_then one two three a b

  pub both : (stages first first' rest rest' : List (LiveStage S K P)) → first ++ rest ≡ stages → Carried see ring first first' → Carried see ring rest rest' → Carried see ring stages (first' ++ rest')
  both stages first first' rest rest' is a b = beside_both (Keeps see ring) stages first first' rest rest' is a b

  pub served : (old new : List (LiveStage S K P)) → Carried see ring old new → (begun : RunStart S K) (base : Bases) → key_of ring ≡ key_at begun base
      → Each (Serves see begun base (table_of ring)) old → Each (Serves see begun base (table_of ring)) new
  unfolding AreBeside
  served [] [] c begun base e all = tt
  served [] (y ∷ ys) c begun base e all = absurd c
  served (x ∷ xs) [] c begun base e all = absurd c
  served (x ∷ xs) (y ∷ ys) c begun base e all = ((kept_open x y c.0 begun base e all.0).0, served xs ys c.1 begun base e all.1)

  pub still_ready : (old new : List (LiveStage S K P)) → Carried see ring old new → AreReady see ring old → AreReady see ring new
  unfolding AreReady
  still_ready old new c r = (r.0, r.1, r.2, served old new c r.0 r.1 r.2 r.3)

  pub ready_first : (stages first rest : List (LiveStage S K P)) → stages ≡ first ++ rest → AreReady see ring stages → AreReady see ring first
  unfolding AreReady
  ready_first stages first rest is r = (r.0, r.1, r.2, each_first (Serves see r.0 r.1 (table_of ring)) stages first rest is r.3)

  pub ready_rest : (stages first rest : List (LiveStage S K P)) → stages ≡ first ++ rest → AreReady see ring stages → AreReady see ring rest
  unfolding AreReady
  ready_rest stages first rest is r = (r.0, r.1, r.2, each_rest (Serves see r.0 r.1 (table_of ring)) stages first rest is r.3)

  pub first_ready : (stages : List (LiveStage S K P)) (d : LiveStage S K P) → length stages ≡ 1 → AreReady see ring stages → IsReady see ring (slice_index_or stages 0 d)
  unfolding AreReady IsReady
  first_ready stages d e r = (r.0, r.1, r.2, each_one (Serves see r.0 r.1 (table_of ring)) stages d e r.3)

  pub first_carried : (stages : List (LiveStage S K P)) (d new : LiveStage S K P) → length stages ≡ 1 → Keeps see ring (slice_index_or stages 0 d) new → Carried see ring stages (set stages 0 new)
  first_carried stages d new e k = beside_one (Keeps see ring) stages d new e k

-- ---- all have ended

module _ {S K P : Type 0} where
  pub over_both : (first rest : List (LiveStage S K P)) → HaveEnded true first → HaveEnded true rest → HaveEnded true (first ++ rest)
  unfolding HaveEnded
  over_both first rest x y = λ e. each-both (λ (s : LiveStage S K P). s.over ≡ true) first rest (x refl) (y refl)

  pub over_empty : (b : Bool) (stages : List (LiveStage S K P)) → length stages ≡ 0 → HaveEnded b stages
  unfolding HaveEnded
  over_empty b [] e = λ t. tt
  over_empty b (x ∷ xs) e = absurd (omega (arith, e))

  pub over_joined : (a b c : Bool) (first rest : List (LiveStage S K P)) → c ≡ (a && b) → HaveEnded a first → HaveEnded b rest → HaveEnded c (first ++ rest)
  unfolding HaveEnded
  over_joined true b c first rest is x y = λ e. each-both (λ (s : LiveStage S K P). s.over ≡ true) first rest (x refl) (y (sym is ∙ e))
  over_joined false b c first rest is x y = λ e. absurd (let f : false ≡ true = sym is ∙ e in cc)

  pub over_one : (stages : List (LiveStage S K P)) (new : LiveStage S K P) → length stages ≡ 1 → new.over ≡ true → HaveEnded true (set stages 0 new)
  unfolding HaveEnded
  over_one [] new e is = absurd (omega (arith, e))
  over_one (x ∷ []) new e is = λ t. (is, tt)
  over_one (x ∷ y ∷ ys) new e is = absurd (omega (arith, e))

  pub over_kept : (stages : List (LiveStage S K P)) (d : LiveStage S K P) → length stages ≡ 1 → (slice_index_or stages 0 d).over ≡ true → HaveEnded true stages
  unfolding HaveEnded
  over_kept [] d e is = absurd (omega (arith, e))
  over_kept (x ∷ []) d e is = λ t. (is, tt)
  over_kept (x ∷ y ∷ ys) d e is = absurd (omega (arith, e))

  pub over_none : (stages : List (LiveStage S K P)) → HaveEnded false stages
  unfolding HaveEnded
  over_none stages = λ e. absurd (let f : false ≡ true = e in cc)

  each-over : (old new : List (LiveStage S K P)) → AreBeside IsSameBesidesPart old new → Each (λ (s : LiveStage S K P). s.over ≡ true) old → Each (λ (s : LiveStage S K P). s.over ≡ true) new
  unfolding AreBeside
  each-over [] [] b all = tt
  each-over [] (y ∷ ys) b all = absurd b
  each-over (x ∷ xs) [] b all = absurd b
  each-over (x ∷ xs) (y ∷ ys) b all = (b.0.over ∙ all.0, each-over xs ys b.1 all.1)

  pub over_beside : (b : Bool) (old new : List (LiveStage S K P)) → AreBeside IsSameBesidesPart old new → HaveEnded b old → HaveEnded b new
  unfolding HaveEnded
  over_beside b old new beside over = λ e. each-over old new beside (over e)
