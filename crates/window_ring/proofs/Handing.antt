-- The links after a visit are those of the visited state.
use Rattle.std.proofs.Common.{◌≡◌, ◌≢◌, ℕ, suc, ◌+◌, ◌-◌, ◌<◌, ◌≤◌, ◌==◌, if◌then◌else◌, eq-eqb, ne_eqb, List, ◌++◌, length, drop, set, sym, ap, ◌∙◌, subst, arith}
use Rattle.std.proofs.lemmas.List.{get_or-set_same, get_or-set_other, drop-append-le, drop-drop}
use mathlib.Core.Logic.{dite}
use native.Mathlib.Decide.{ℕ_discrete}
use Rattle.cell_land.specs.Cells.{CellLand as Land}
use Rattle.chain_core.specs.declared.core_plan.CorePlan.{CorePlan}
use Rattle.chain_core.specs.Machine.{Visit, ChainState}
use Rattle.chain_core.specs.Laws.{ChangesOneStage}
use Rattle.window_ring.specs.Hands.{Row, row_of, no_row}
use Rattle.window_ring.specs.Stands.{on_link, waiting}

module _ (plan : CorePlan) (s s2 : ChainState) (v : Visit) (changes : ChangesOneStage plan s s2 v) (land : Land) (links : List Row)
    (long : length links ≡ suc (suc plan.plugins)) (is_stage : v.stage ≤ suc plan.plugins)
    (linked : (j : ℕ) → (s.stages (suc j)).taken ≤ length (s.stages j).given)
    (old : (k : ℕ) → k ≤ plan.plugins → on_link links (suc k) ≡ row_of (s.stages (suc k)).taken land (waiting s k)) where
  abbrev next : ℕ
  next = if v.stage == suc plan.plugins then 0 else suc v.stage

  abbrev more : ℕ
  more = (s2.stages v.stage).taken - (s.stages v.stage).taken

  abbrev pub pushed : List Row
  pushed = set links next (row_of (on_link links next).at (on_link links next).land ((on_link links next).cells ++ v.cells))

  abbrev pub pulled : List Row
  pulled = set pushed v.stage (row_of ((on_link pushed v.stage).at + more) (on_link pushed v.stage).land (drop more (on_link pushed v.stage).cells))

  next_out : v.stage ≡ suc plan.plugins → next ≡ 0
  next_out e = ap (λ b. if b then 0 else suc v.stage) (eq-eqb v.stage (suc plan.plugins) e)

  next_in : v.stage ≢ suc plan.plugins → next ≡ suc v.stage
  next_in n = ap (λ b. if b then 0 else suc v.stage) (ne_eqb v.stage (suc plan.plugins) n)

  -- the link after a stage is not the one before it
  apart : v.stage ≢ next
  apart e = dite (ℕ_discrete v.stage (suc plan.plugins)) (λ out. let z = next_out out in omega (arith, e, out, z)) (λ inner. let z = next_in inner in omega (arith, e, z))

  pushed_long : length pushed ≡ length links
  pushed_long = Rattle.std.proofs.Common.length-set links next _

  pub new_links : (k : ℕ) → k ≤ plan.plugins → on_link pulled (suc k) ≡ row_of (s2.stages (suc k)).taken land (waiting s2 k)
  new_links k lt = dite (ℕ_discrete (suc k) v.stage) (λ here. before here) (λ n. dite (ℕ_discrete k v.stage) (λ e. behind n e) (λ m. others n m))
    where
      before : suc k ≡ v.stage → on_link pulled (suc k) ≡ row_of (s2.stages (suc k)).taken land (waiting s2 k)
      before here =
          let low : v.stage < length pushed = omega (arith, pushed_long, long, is_stage) in
          let m : on_link pushed v.stage ≡ row_of (s.stages (suc k)).taken land (waiting s k) = get_or-set_other links next v.stage _ no_row apart ∙ ap (on_link links) (sym here) ∙ old k lt in
          let kept : s2.stages k ≡ s.stages k = changes.others k (λ e. omega (arith, here, e)) in
          let grown : (s.stages (suc k)).taken ≤ (s2.stages (suc k)).taken = subst (λ j. (s.stages j).taken ≤ (s2.stages j).taken) (sym here) changes.no_less in
          let sum : (s.stages (suc k)).taken + ((s2.stages (suc k)).taken - (s.stages (suc k)).taken) ≡ (s2.stages (suc k)).taken = omega (arith, grown) in
          let t : more ≡ (s2.stages (suc k)).taken - (s.stages (suc k)).taken = λ i. (s2.stages (sym here i)).taken - (s.stages (sym here i)).taken in
          ap (on_link pulled) here ∙ get_or-set_same pushed v.stage _ no_row low
          ∙ (λ i. row_of ((m i).at + t i) (m i).land (drop (t i) (m i).cells))
          ∙ (λ i. row_of (sum i) land (drop-drop ((s2.stages (suc k)).taken - (s.stages (suc k)).taken) (s.stages (suc k)).taken (s.stages k).given i))
          ∙ (λ i. row_of (s2.stages (suc k)).taken land (drop (sum i) (sym kept i).given))

      behind : suc k ≢ v.stage → k ≡ v.stage → on_link pulled (suc k) ≡ row_of (s2.stages (suc k)).taken land (waiting s2 k)
      behind n e =
          let is : next ≡ suc k = next_in (λ out. omega (arith, out, e, lt)) ∙ ap suc (sym e) in
          let low : next < length links = omega (arith, is, long, lt) in
          let l : on_link links next ≡ row_of (s.stages (suc k)).taken land (waiting s k) = ap (on_link links) is ∙ old k lt in
          let kept : s2.stages (suc k) ≡ s.stages (suc k) = changes.others (suc k) n in
          let given : (s2.stages k).given ≡ (s.stages k).given ++ v.cells = subst (λ j. (s2.stages j).given ≡ (s.stages j).given ++ v.cells) (sym e) changes.given in
          get_or-set_other pushed v.stage (suc k) _ no_row n ∙ ap (on_link pushed) (sym is) ∙ get_or-set_same links next _ no_row low
          ∙ (λ i. row_of (l i).at (l i).land ((l i).cells ++ v.cells))
          ∙ (λ i. row_of (s.stages (suc k)).taken land (sym (drop-append-le (s.stages (suc k)).taken (s.stages k).given v.cells (linked k)) i))
          ∙ (λ i. row_of (sym kept i).taken land (drop (sym kept i).taken (sym given i)))

      others : suc k ≢ v.stage → k ≢ v.stage → on_link pulled (suc k) ≡ row_of (s2.stages (suc k)).taken land (waiting s2 k)
      others n m =
          let away : suc k ≢ next = λ e. dite (ℕ_discrete v.stage (suc plan.plugins)) (λ out. let z = next_out out in omega (arith, e, z)) (λ inner. let z = next_in inner in m (omega (arith, e, z))) in
          let a : s2.stages (suc k) ≡ s.stages (suc k) = changes.others (suc k) n in let b : s2.stages k ≡ s.stages k = changes.others k m in
          get_or-set_other pushed v.stage (suc k) _ no_row n ∙ get_or-set_other links next (suc k) _ no_row away ∙ old k lt
          ∙ (λ i. row_of (sym a i).taken land (drop (sym a i).taken (sym b i).given))
