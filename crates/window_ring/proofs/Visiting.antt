-- The value's part of a visit.
use Rattle.std.proofs.Common.{◌≡◌, ℕ, suc, ◌==◌, if◌then◌else◌, List, ◌∷◌, sym, ap, ◌∙◌, subst, length-take-le}
use Rattle.chain_core.specs.declared.core_plan.CorePlan.{CorePlan}
use Rattle.chain_core.specs.declared.stage_word.StageWord.{StageWord}
use Rattle.chain_core.specs.Numbers.{MayVisit}
use Rattle.chain_core.specs.Machine.{Visit, visited, ChainState, progress_of_stages}
use Rattle.chain_core.specs.ChainRun.{state_after}
use Rattle.chain_core.specs.CoreNumbers.{progress_of_core}
use Rattle.chain_core.specs.Laws.{ChangesOneStage, NewsHold}
use Rattle.window_ring.specs.declared.state.State.{State}
use Rattle.window_ring.specs.declared.view.Key.{Key}
use Rattle.window_ring.specs.Hands.{Row}
use Rattle.window_ring.specs.Visits.{MayGive}

pub may_visit : (key : Key) (value : State) (history : List Visit) (hand : Row) (stage done : ℕ) (word : StageWord) → MayGive key value history hand stage done word
    → MayVisit value.core.plan (progress_of_core value.core) value.core.told stage done word
may_visit key value history hand stage done word may =
    let n = may.stands.numbers in
    let a = subst (λ k. MayVisit key.plan (progress_of_stages (state_after key.plan history)) (state_after key.plan history).told stage k word) (length-take-le done hand.cells may.done_within) may.allowed in
    let b = subst (λ m. MayVisit key.plan m (state_after key.plan history).told stage done word) (λ i k. sym (n.progress k) i) a in
    let c = subst (λ t. MayVisit key.plan (progress_of_core value.core) t stage done word) (sym n.told) b in
    subst (λ p. MayVisit p (progress_of_core value.core) value.core.told stage done word) (sym may.stands.plan_is) c

pub changed : (plan : CorePlan) (history : List Visit) (v : Visit) → ChangesOneStage plan (state_after plan history) (visited plan (state_after plan history) v) v → ChangesOneStage plan (state_after plan history) (state_after plan (v ∷ history)) v
unfolding state_after
changed plan history v c = c

pub next_is : (stage last plugins next : ℕ) → last ≡ suc plugins → next ≡ (if stage == last then 0 else suc stage) → next ≡ (if stage == suc plugins then 0 else suc stage)
next_is stage last plugins next e is = is ∙ ap (λ n. if stage == n then 0 else suc stage) e

pub held : (plan : CorePlan) (history : List Visit) (v : Visit) → ((k : ℕ) → NewsHold plan (state_after plan (v ∷ history)) k) → (k : ℕ) → NewsHold plan (visited plan (state_after plan history) v) k
unfolding state_after
held plan history v h = h

pub as_after : (plan : CorePlan) (history : List Visit) (v : Visit) (P : ChainState → Type 0) → P (visited plan (state_after plan history) v) → P (state_after plan (v ∷ history))
unfolding state_after
as_after plan history v P p = p
