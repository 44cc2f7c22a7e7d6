-- What a visit leaves of the links, the free cells and the hand.
use Rattle.std.proofs.Common.{◌≡◌, ◌≢◌, ℕ, zero, suc, ◌+◌, ◌-◌, ◌==◌, if◌then◌else◌, List, [], ◌∷◌, ◌++◌, length, take, drop, sym, ap, ◌∙◌, subst, arith, length-take-le, length-drop, length-append, length-set}
use Rattle.std.proofs.lemmas.List.{get_or-set_same, get_or-set_other}
use mathlib.Core.Logic.{dite}
use native.Mathlib.Decide.{ℕ_discrete}
use Rattle.ts_packet.specs.declared.cell.Cell.{Cell}
use Rattle.chain_core.specs.declared.stage_word.StageWord.{StageWord}
use Rattle.chain_core.specs.Machine.{Visit, ChainState}
use Rattle.chain_core.specs.ChainRun.{state_after}
use Rattle.chain_core.specs.Laws.{ChangesOneStage, NewsHold}
use Rattle.window_ring.specs.declared.state.State.{State}
use Rattle.window_ring.specs.declared.view.Key.{Key}
use Rattle.window_ring.specs.Hands.{Row, row_of, no_row}
use Rattle.window_ring.specs.Stands.{on_link}
use Rattle.window_ring.specs.Views.{land_of}
use Rattle.window_ring.specs.Visits.{MayGive, giving}
use Rattle.window_ring.proofs.Fitting as fit
use Rattle.window_ring.proofs.Handing as hands

drop_tail : (xs ys : List Cell) (n : ℕ) → n ≡ length xs → drop n (xs ++ ys) ≡ ys
drop_tail [] ys n e = ap (λ k. drop k ys) e
drop_tail (x ∷ xs) ys zero e = absurd (omega (arith, e))
drop_tail (x ∷ xs) ys (suc n) e = drop_tail xs ys n (omega (arith, e))

pub take_head : (xs ys : List Cell) (n : ℕ) → n ≡ length xs → take n (xs ++ ys) ≡ xs
take_head [] ys n e = ap (λ k. take k ys) e
take_head (x ∷ xs) ys zero e = absurd (omega (arith, e))
take_head (x ∷ xs) ys (suc n) e = ap (λ l. x ∷ l) (take_head xs ys n (omega (arith, e)))

module _ (key : Key) (value : State) (history : List Visit) (hand : Row) (stage done : ℕ) (word : StageWord) (may : MayGive key value history hand stage done word)
    (hold : (k : ℕ) → NewsHold key.plan (state_after key.plan history) k)
    (s2 : ChainState) (changes : ChangesOneStage key.plan (state_after key.plan history) s2 (giving hand stage done word)) (hold2 : (k : ℕ) → NewsHold key.plan s2 k) where
  abbrev s : ChainState
  s = state_after key.plan history

  abbrev v : Visit
  v = giving hand stage done word

  abbrev links : List Row
  links = value.links.items

  abbrev pub pushed : List Row
  pushed = hands.pushed key.plan s s2 v changes (land_of key) links may.stands.count may.allowed.is_stage (fit.linked key value history hand stage done word may hold) may.stands.links

  abbrev pub pulled : List Row
  pulled = hands.pulled key.plan s s2 v changes (land_of key) links may.stands.count may.allowed.is_stage (fit.linked key value history hand stage done word may hold) may.stands.links

  abbrev next : ℕ
  next = if stage == suc key.plan.plugins then 0 else suc stage

  abbrev more : ℕ
  more = (s2.stages stage).taken - (s.stages stage).taken

  apart : stage ≢ next
  apart = fit.apart key value history hand stage done word may hold

  pub pushed_long : length pushed ≡ length links
  pushed_long = length-set links next _

  pub pulled_long : length pulled ≡ suc (suc key.plan.plugins)
  pulled_long = length-set pushed stage _ ∙ pushed_long ∙ may.stands.count

  many : length v.cells ≡ done
  many = length-take-le done hand.cells may.done_within

  after_link : on_link pulled next ≡ row_of (on_link links next).at (on_link links next).land ((on_link links next).cells ++ v.cells)
  after_link = get_or-set_other pushed stage next _ no_row (λ e. apart (sym e)) ∙ get_or-set_same links next _ no_row (let a = fit.next_there key value history hand stage done word may hold in let b = may.stands.count in omega (arith, a, b))

  -- the cells given stand last on the link after the stage
  pub last_cells : drop (length (on_link pulled next).cells - done) (on_link pulled next).cells ≡ v.cells
  last_cells =
      let xs = (on_link links next).cells in
      let n : length (xs ++ v.cells) - done ≡ length xs = let a = length-append xs v.cells in let b = many in omega (arith, a, b) in
      (λ i. drop (length (after_link i).cells - done) (after_link i).cells) ∙ drop_tail xs v.cells (length (xs ++ v.cells) - done) n

  abbrev pub Free : Row → Type 0
  Free r = (r.at ≡ (s2.stages 0).taken) × (r.land ≡ land_of key) × (length r.cells + (s2.stages 0).taken ≡ length (s2.stages (suc key.plan.plugins)).given + key.plan.buffer)

  -- the free cells
  pub new_free : Free (on_link pulled 0)
  new_free = dite (ℕ_discrete stage 0) (λ e. taking e) (λ n. dite (ℕ_discrete stage (suc key.plan.plugins)) (λ e. giving_back n e) (λ m. neither n m))
    where
      taking : stage ≡ 0 → Free (on_link pulled 0)
      taking e =
          let r : Row = on_link links 0 in
          let here : on_link pushed stage ≡ r = get_or-set_other links next stage _ no_row apart ∙ ap (on_link links) e in
          let is : on_link pulled 0 ≡ row_of (r.at + more) r.land (drop more r.cells) = ap (on_link pulled) (sym e) ∙ get_or-set_same pushed stage _ no_row (let a = pushed_long in let b = may.stands.count in let c = may.allowed.is_stage in omega (arith, a, b, c)) ∙ (λ i. row_of ((here i).at + more) (here i).land (drop more (here i).cells)) in
          let o : length (s2.stages (suc key.plan.plugins)).given ≡ length (s.stages (suc key.plan.plugins)).given = ap (λ z. length z.given) (changes.others (suc key.plan.plugins) (λ z. omega (arith, z, e))) in
          let t : (s2.stages 0).taken ≡ (s2.stages stage).taken = ap (λ k. (s2.stages k).taken) (sym e) in let u : (s.stages 0).taken ≡ (s.stages stage).taken = ap (λ k. (s.stages k).taken) (sym e) in
          let less = changes.no_less in let w = fit.within key value history hand stage done word may hold s2 changes hold2 0 (sym e) in let d = length-drop more r.cells in let a = may.stands.free_at in
          let fm = may.stands.free_many in
          subst Free (sym is) (omega (arith, a, t, u, less), may.stands.free_land, omega (arith, d, w, t, u, less, fm, o))

      giving_back : stage ≢ 0 → stage ≡ suc key.plan.plugins → Free (on_link pulled 0)
      giving_back n e =
          let r : Row = on_link links 0 in
          let z : next ≡ 0 = ap (λ b. if b then 0 else suc stage) (Rattle.std.proofs.Common.eq-eqb stage (suc key.plan.plugins) e) in
          let is : on_link pulled 0 ≡ row_of r.at r.land (r.cells ++ v.cells) = ap (on_link pulled) (sym z) ∙ after_link ∙ (λ i. row_of (on_link links (z i)).at (on_link links (z i)).land ((on_link links (z i)).cells ++ v.cells)) in
          let o : (s2.stages 0).taken ≡ (s.stages 0).taken = ap (λ x. x.taken) (changes.others 0 (λ q. n (sym q))) in
          let g : length (s2.stages (suc key.plan.plugins)).given ≡ length (s.stages (suc key.plan.plugins)).given + done =
          subst (λ k. length (s2.stages k).given ≡ length (s.stages k).given + done) e (ap length changes.given ∙ length-append (s.stages stage).given v.cells ∙ ap (λ k. length (s.stages stage).given + k) many) in
          let l = length-append r.cells v.cells in let q = many in let fm = may.stands.free_many in
          subst Free (sym is) (may.stands.free_at ∙ sym o, may.stands.free_land, omega (arith, l, q, o, g, fm))

      neither : stage ≢ 0 → stage ≢ suc key.plan.plugins → Free (on_link pulled 0)
      neither n m =
          let z : next ≡ suc stage = ap (λ b. if b then 0 else suc stage) (Rattle.std.proofs.Common.ne_eqb stage (suc key.plan.plugins) m) in
          let is : on_link pulled 0 ≡ on_link links 0 = get_or-set_other pushed stage 0 _ no_row (λ q. n (sym q)) ∙ get_or-set_other links next 0 _ no_row (λ q. omega (arith, q, z)) in
          let o : (s2.stages 0).taken ≡ (s.stages 0).taken = ap (λ x. x.taken) (changes.others 0 (λ q. n (sym q))) in
          let g : length (s2.stages (suc key.plan.plugins)).given ≡ length (s.stages (suc key.plan.plugins)).given = ap (λ x. length x.given) (changes.others (suc key.plan.plugins) (λ q. m (sym q))) in
          let fm = may.stands.free_many in
          subst Free (sym is) (may.stands.free_at ∙ sym o, may.stands.free_land, omega (arith, o, g, fm))
