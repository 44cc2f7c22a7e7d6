-- A ring of which no visit was made.
use Rattle.std.proofs.Common.{◌≡◌, ℕ, zero, suc, ◌+◌, ◌<◌, List, [], ◌∷◌, ◌++◌, length, replicate, slice_index_or, sym, refl, ap, ◌∙◌, subst, arith, length-append}
use Rattle.std.proofs.lemmas.List.{get_or_default, length-replicate}
use Rattle.chain_core.specs.declared.core_plan.CorePlan.{CorePlan}
use Rattle.chain_core.specs.Machine.{ChainState, start}
use Rattle.chain_core.specs.ChainRun.{state_after}
use Rattle.chain_core.specs.CoreNumbers.{StandsFor}
use Rattle.window_ring.specs.Hands.{Row, row_of, no_row}
use Rattle.window_ring.specs.declared.state.State.{State}
use Rattle.window_ring.specs.declared.view.Key.{Key}
use Rattle.window_ring.specs.Stands.{Stands, waiting}
use Rattle.window_ring.specs.Views.{land_of}
use Rattle.window_ring.specs.Opening.{IsReady}

pub unvisited : (plan : CorePlan) → state_after plan [] ≡ start
unfolding state_after
unvisited plan = refl

same_at : (r : Row) (n i : ℕ) (d : Row) → i < n → slice_index_or (replicate n r) i d ≡ r
same_at r zero i d lt = absurd (omega (arith, lt))
same_at r (suc n) zero d lt = refl
same_at r (suc n) (suc i) d lt = same_at r n i d (omega (arith, lt))

pub only_one : (l : List State) (x y : State) → l ++ x ∷ [] ≡ y ∷ [] → x ≡ y
only_one [] x y e = ap (λ s. slice_index_or s 0 x) e
only_one (z ∷ zs) x y e = absurd (let n = ap length e in let m = length-append zs (x ∷ []) in omega (arith, n, m))

pub starts : (key : Key) (value : State) (first : Row) (n : ℕ) → value.core.plan ≡ key.plan → StandsFor value.core start → value.links.items ≡ first ∷ replicate n (row_of 0 (land_of key) []) → first.at ≡ 0 → first.land ≡ land_of key
    → length first.cells ≡ key.plan.buffer → length value.links.items ≡ suc (suc key.plan.plugins) → Stands key value []
starts key value first n plan numbers is at land many count =
    let e = sym (unvisited key.plan) in let size = ap length is ∙ ap suc (length-replicate n (row_of 0 (land_of key) [])) in
    record {
      plan_is = plan;
      numbers = subst (StandsFor value.core) e numbers;
      count = count;
      links = λ k le. (ap (λ l. slice_index_or l (suc k) no_row) is ∙ same_at (row_of 0 (land_of key) []) n k no_row (omega (arith, size, count, le))) ∙ ap (λ (s : ChainState). row_of (s.stages (suc k)).taken (land_of key) (waiting s k)) e;
      free_at = (ap (λ l. (slice_index_or l 0 no_row).at) is ∙ at) ∙ ap (λ (s : ChainState). (s.stages 0).taken) e;
      free_land = ap (λ l. (slice_index_or l 0 no_row).land) is ∙ land;
      free_many = subst (λ (s : ChainState). length (slice_index_or value.links.items 0 no_row).cells + (s.stages 0).taken ≡ length (s.stages (suc key.plan.plugins)).given + key.plan.buffer) e
          (let m = ap (λ l. length (slice_index_or l 0 no_row).cells) is in omega (arith, m, many));
    }

-- what was to be guarded, taken apart
module _ (plan : CorePlan) (key : Key) (slots : List State) (ready : IsReady plan key slots) (value : State) (same : value ≡ ready.value) (first : Row) (rest : List Row) (is : value.links.items ≡ first ∷ rest) where
  st : Stands key value []
  st = subst (λ v. Stands key v []) (sym same) ready.stands

  pub all_free : length first.cells ≡ first.land.count
  all_free = let f = ap (λ l. slice_index_or l 0 no_row) is in
      let m : length first.cells + 0 ≡ 0 + key.plan.buffer = subst (λ (s : ChainState). length first.cells + (s.stages 0).taken ≡ length (s.stages (suc key.plan.plugins)).given + key.plan.buffer) (unvisited key.plan)
      (ap (λ (r : Row). length r.cells + ((state_after key.plan []).stages 0).taken) (sym f) ∙ st.free_many) in
      let l : first.land ≡ land_of key = ap (λ (r : Row). r.land) (sym f) ∙ st.free_land in
      let b : first.land.count ≡ key.plan.buffer = ap (λ (x : Rattle.cell_land.specs.Cells.CellLand). x.count) l in omega (arith, m, b)

  pub none_waits : (i : ℕ) (d : Row) → i < length rest → (slice_index_or rest i d).cells ≡ []
  none_waits i d lt =
      let size = sym (ap length is) ∙ st.count in
      let row = ap (λ l. slice_index_or l (suc i) no_row) (sym is) ∙ st.links i (omega (arith, lt, size)) in
      ap (λ (r : Row). r.cells) (get_or_default rest i d no_row lt) ∙ (ap (λ (r : Row). r.cells) row ∙ ap (λ (s : ChainState). waiting s i) (unvisited key.plan))
