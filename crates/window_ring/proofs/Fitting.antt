-- What a visit hands on and takes fits the block.
use Rattle.std.proofs.Common.{◌≡◌, ◌≢◌, ℕ, zero, suc, ◌+◌, ◌-◌, ◌^◌, ◌<◌, ◌≤◌, ◌==◌, if◌then◌else◌, eq-eqb, ne_eqb, List, length, take, sym, refl, ap, ◌∙◌, arith, length-take-le, length-drop, length-append}
use mathlib.Core.Logic.{dite}
use native.Mathlib.Decide.{ℕ_discrete}
use Rattle.chain_core.specs.declared.stage_word.StageWord.{StageWord}
use Rattle.chain_core.specs.Machine.{Visit, ChainState}
use Rattle.chain_core.specs.ChainRun.{state_after}
use Rattle.chain_core.specs.Laws.{ChangesOneStage, NewsHold}
use Rattle.window_ring.specs.declared.state.State.{State}
use Rattle.window_ring.specs.declared.view.Key.{Key}
use Rattle.window_ring.specs.Hands.{Row}
use Rattle.window_ring.specs.Stands.{link}
use Rattle.window_ring.specs.Views.{land_of}
use Rattle.window_ring.specs.Visits.{MayGive, giving}

module _ (key : Key) (value : State) (history : List Visit) (hand : Row) (stage done : ℕ) (word : StageWord) (may : MayGive key value history hand stage done word)
    (hold : (k : ℕ) → NewsHold key.plan (state_after key.plan history) k) where
  abbrev s : ChainState
  s = state_after key.plan history

  abbrev n1 : ℕ
  n1 = suc key.plan.plugins

  abbrev B : ℕ
  B = key.plan.buffer

  abbrev G : ℕ → ℕ
  G k = length (s.stages k).given

  abbrev T : ℕ → ℕ
  T k = (s.stages k).taken

  pub linked : (j : ℕ) → T (suc j) ≤ G j
  linked j = (hold (suc j)).taken_within j refl

  falls : (k : ℕ) → T k ≤ T 0
  falls zero = omega arith
  falls (suc k) = let a = linked k in let b = (hold k).given_within in let c = falls k in omega (arith, a, b, c)

  is_stage : stage ≤ n1
  is_stage = may.allowed.is_stage

  given_many : G stage + done ≤ T stage
  given_many = let c = may.hand_is.cells in let d = may.done_within in omega (arith, c, d)

  pub low : hand.at + length hand.cells < 2 ^ 63
  low = let a = may.hand_is.at in let c = may.hand_is.cells in let t = (hold stage).taken_below in omega (arith, a, c, t)

  pub lap_low : hand.at + B < 2 ^ 63
  lap_low = let a = may.hand_is.at in let c = may.hand_is.cells in let t = (hold stage).taken_below in let b = may.valid.buffer in omega (arith, a, c, t, b)

  -- the link before the stage, or the free cells
  pub own_link : (k : ℕ) → k ≤ n1 → ((link value k).at ≡ T k) × ((link value k).land ≡ land_of key)
  own_link zero lt = (may.stands.free_at, may.stands.free_land)
  own_link (suc j) lt = let e = may.stands.links j (omega (arith, lt)) in (ap (λ r. r.at) e, ap (λ r. r.land) e)

  waits : (j : ℕ) → j ≤ key.plan.plugins → length (link value (suc j)).cells + T (suc j) ≡ G j
  waits j lt = let e = ap (λ r. length r.cells) (may.stands.links j lt) ∙ length-drop (T (suc j)) (s.stages j).given in let l = linked j in omega (arith, e, l)

  abbrev next : ℕ
  next = if stage == n1 then 0 else suc stage

  next_out : stage ≡ n1 → next ≡ 0
  next_out e = ap (λ b. if b then 0 else suc stage) (eq-eqb stage n1 e)

  next_in : stage ≢ n1 → next ≡ suc stage
  next_in n = ap (λ b. if b then 0 else suc stage) (ne_eqb stage n1 n)

  pub apart : stage ≢ next
  apart e = dite (ℕ_discrete stage n1) (λ out. let z = next_out out in omega (arith, e, out, z)) (λ inner. let z = next_in inner in omega (arith, e, z))

  pub next_there : next < suc (suc key.plan.plugins)
  next_there = dite (ℕ_discrete stage n1) (λ out. let z = next_out out in omega (arith, z)) (λ inner. let z = next_in inner in let i = is_stage in omega (arith, z, i, inner))

  abbrev lapped : ℕ → ℕ
  lapped k = if k == 0 then hand.at + B else hand.at

  pub give_after : lapped next ≡ (link value next).at + length (link value next).cells
  give_after = dite (ℕ_discrete stage n1)
      (λ out. let z = next_out out in let a = may.hand_is.at in let f = may.stands.free_at in let m = may.stands.free_many in let g : G stage ≡ G n1 = ap G out in
      let sum : hand.at + B ≡ (link value 0).at + length (link value 0).cells = omega (arith, a, f, m, g) in ap lapped z ∙ sum ∙ (λ i. (link value (sym z i)).at + length (link value (sym z i)).cells))
      (λ inner. let z = next_in inner in let a = may.hand_is.at in let i0 = is_stage in let lt : stage ≤ key.plan.plugins = omega (arith, i0, inner) in let w = waits stage lt in let o = (own_link (suc stage) (omega (arith, lt))).0 in
      let not_first : (suc stage == 0) ≡ Rattle.std.proofs.Common.false = ne_eqb (suc stage) 0 (λ e. omega (arith, e)) in
      let sum : hand.at ≡ (link value (suc stage)).at + length (link value (suc stage)).cells = omega (arith, a, w, o) in
      ap lapped z ∙ ap (λ b. if b then hand.at + B else hand.at) not_first ∙ sum ∙ (λ i. (link value (sym z i)).at + length (link value (sym z i)).cells))

  pub give_same : (link value next).land ≡ hand.land
  give_same = (own_link next (let n = next_there in omega (arith, n))).1 ∙ sym may.hand_is.same

  pub give_fits : length (link value next).cells + done ≤ B
  give_fits = dite (ℕ_discrete stage n1)
      (λ out. let z = next_out out in let m = may.stands.free_many in let f = falls stage in let g = given_many in let e : G stage ≡ G n1 = ap G out in let len : length (link value next).cells ≡ length (link value 0).cells = ap (λ k. length (link value k).cells) z in
      omega (arith, m, f, g, e, len))
      (λ inner. let z = next_in inner in let i0 = is_stage in let lt : stage ≤ key.plan.plugins = omega (arith, i0, inner) in let w = waits stage lt in let g = given_many in let h = (hold stage).taken_ahead in let u = (hold (suc stage)).written_within (omega (arith, lt)) in let v = (hold (suc stage)).given_within in
      let len : length (link value next).cells ≡ length (link value (suc stage)).cells = ap (λ k. length (link value k).cells) z in omega (arith, w, g, h, u, v, len))

  -- what lies on the link before the stage
  pub own_low : (k : ℕ) → k ≤ n1 → (link value k).at + length (link value k).cells < 2 ^ 63
  own_low zero lt = let f = may.stands.free_at in let m = may.stands.free_many in let g = (hold n1).given_within in let t = (hold n1).taken_below in let b = may.valid.buffer in omega (arith, f, m, g, t, b)
  own_low (suc j) lt = let w = waits j (omega (arith, lt)) in let o = (own_link (suc j) lt).0 in let g = (hold j).given_within in let t = (hold j).taken_below in omega (arith, w, o, g, t)

  module _ (s2 : ChainState) (changes : ChangesOneStage key.plan s s2 (giving hand stage done word)) (hold2 : (k : ℕ) → NewsHold key.plan s2 k) where
    abbrev more : ℕ
    more = (s2.stages stage).taken - T stage

    pub no_less : T stage ≤ (s2.stages stage).taken
    no_less = changes.no_less

    pub within : (k : ℕ) → k ≡ stage → (s2.stages k).taken - T k ≤ length (link value k).cells
    within zero e =
        let a = (hold2 0).taken_ahead in let b = (hold2 n1).written_within (omega arith) in let o : (s2.stages n1) ≡ (s.stages n1) = changes.others n1 (λ z. omega (arith, z, e)) in let g : length (s2.stages n1).given ≡ G n1 = ap (λ x. length x.given) o in
        let m = may.stands.free_many in omega (arith, a, b, g, m)
    within (suc j) e =
        let i0 = is_stage in let lt : j ≤ key.plan.plugins = omega (arith, i0, e) in let w = waits j lt in let a = (hold2 (suc j)).taken_within j refl in let o : s2.stages j ≡ s.stages j = changes.others j (λ z. omega (arith, z, e)) in
        let g : length (s2.stages j).given ≡ G j = ap (λ x. length x.given) o in omega (arith, w, a, g)

    given2 : length (s2.stages stage).given ≡ G stage + done
    given2 = ap length changes.given ∙ length-append (s.stages stage).given (take done hand.cells) ∙ ap (λ k. G stage + k) (length-take-le done hand.cells may.done_within)

    pub with_after : T stage ≡ (hand.at + done) + (length hand.cells - done)
    with_after = let a = may.hand_is.at in let c = may.hand_is.cells in let d = may.done_within in omega (arith, a, c, d)

    pub with_fits : (length hand.cells - done) + more ≤ B
    with_fits = let a = (hold2 stage).taken_ahead in let b = (hold2 stage).written_within is_stage in let g = given2 in let c = may.hand_is.cells in let d = may.done_within in let l = no_less in omega (arith, a, b, g, c, d, l)
