-- How far lines were taken away changes nothing else of a stage; and the rows of stages, by their places.
use Rattle.std.proofs.Common.{◌≡◌, ◌≢◌, ℕ, zero, suc, ◌+◌, ◌<◌, ◌≤◌, List, [], ◌∷◌, ◌++◌, length, take, drop, refl, ap, sym, ◌∙◌, arith, inl, inr}
use Rattle.std.specs.Prelude.{slice_index_or, slice_set}
use Rattle.std.proofs.lemmas.Bool.{cases_eq}
use Rattle.std.proofs.lemmas.List.{take-take}
use Rattle.cell_land.specs.declared.cell_window.Bases.{Bases}
use Rattle.atomic_table.specs.Seated.{TableId}
use Rattle.ts_packet.specs.declared.cell.Cell.{Cell}
use Rattle.chain_model.specs.Each.{Each}
use Rattle.chain_model.specs.PluginRule.{PluginRule}
use Rattle.chain_core.specs.Machine.{Visit}
use Rattle.chain_core.specs.ChainRun.{state_after}
use Rattle.plugin_trait.specs.PlacedLines.{placed_after, placed_between}
use Rattle.stage_run.specs.Seeing.{Seeing}
use Rattle.stage_run.specs.PartLists.{PartLists}
use Rattle.chain_run.specs.OneStage.{SoFarUpTo}
use Rattle.chain_run.specs.Runs.{RunStart, told_to}
use Rattle.chain_run.proofs.MarkLemmas.{doing-told, valid-told}
use Rattle.window_ring.specs.Seats.{seen_of}
use Rattle.chain_threads.specs.Standing.{StandsAt, IsOver, gave_by, written_by}
use Rattle.chain_threads.specs.Driving.{AreBeside}
use Rattle.chain_live_threads.specs.declared.live_stage.LiveStage.{LiveStage}
use Rattle.chain_live_threads.specs.Serving.{Serves}
use Rattle.chain_live_threads.specs.Marking.{IsSameBesidesPart}
use Rattle.chain_live_threads.specs.RowTells.{AreNumbered, seen_in_row}

module _ {S K P : Type 0} (see : Seeing S K P) (begun : RunStart S K) (base : Bases) (table : TableId) (told : ℕ → ℕ) (stage : LiveStage S K P)
    (same : (j : ℕ) → suc j ≡ stage.seat.stage → j < begun.plan.plugins → told j ≡ begun.told j) where
  abbrev seen : List Visit
  seen = seen_of stage.seat

  goes : (lists : PartLists) → (st : StandsAt see begun base table stage.seat stage.part stage.done stage.word) × (st.standing.lists ≡ lists)
      → (st : StandsAt see (told_to begun told) base table stage.seat stage.part stage.done stage.word) × (st.standing.lists ≡ lists)
  goes lists g =
      let st = g.0 in (
        record {
          run = valid-told see begun told st.run;
          words = st.words;
          slots = st.slots;
          is_stage = st.is_stage;
          seat_is = st.seat_is;
          standing = record {
            lists = st.standing.lists;
            done_within = st.standing.done_within;
            allowed = st.standing.allowed;
            doing = doing-told see begun told stage.part stage.seat.stage st.standing.lists (gave_by see begun seen stage.seat.stage ++ take stage.done stage.seat.hand.cells) stage.word.ended
                (written_by see begun seen) ((state_after begun.plan seen).stages stage.seat.stage).taken (gave_by see begun seen) (SoFarUpTo begun.plan begun.rules seen) same st.standing.doing;
            kept = st.standing.kept;
            keeps = st.standing.keeps;
            content = st.standing.content;
          };
        },
        g.1,
      )

  ends : (lists : PartLists) → (is : IsOver see begun base table stage.seat stage.part) × (is.over.lists ≡ lists)
      → (is : IsOver see (told_to begun told) base table stage.seat stage.part) × (is.over.lists ≡ lists)
  ends lists g =
      let is = g.0 in (
        record {
          run = valid-told see begun told is.run;
          is_stage = is.is_stage;
          seat_is = is.seat_is;
          over = record {
            lists = is.over.lists;
            ended = is.over.ended;
            doing = doing-told see begun told stage.part stage.seat.stage is.over.lists (gave_by see begun seen stage.seat.stage) ((state_after begun.plan seen).stages stage.seat.stage).ended
                (written_by see begun seen) ((state_after begun.plan seen).stages stage.seat.stage).taken (gave_by see begun seen) (SoFarUpTo begun.plan begun.rules seen) same is.over.doing;
            kept = is.over.kept;
          };
        },
        g.1,
      )

  pub serves-told : Serves see begun base table stage → Serves see (told_to begun told) base table stage
  serves-told s = (s.0, record { goes_on = λ e. goes s.0 (s.1.goes_on e); has_ended = λ e. ends s.0 (s.1.has_ended e); knows = s.1.knows })

-- a member of a row is the same whatever stands for no member
pub any_default : {X : Type 0} (xs : List X) (k : ℕ) (d e : X) → k < length xs → slice_index_or xs k d ≡ slice_index_or xs k e
any_default [] k d e lt = absurd (omega (arith, lt))
any_default (x ∷ xs) zero d e lt = refl
any_default (x ∷ xs) (suc k) d e lt = any_default xs k d e (omega (arith, lt))

pub set_same : {X : Type 0} (xs : List X) (k : ℕ) (y d : X) → k < length xs → slice_index_or (slice_set xs k y) k d ≡ y
set_same [] k y d lt = absurd (omega (arith, lt))
set_same (x ∷ xs) zero y d lt = refl
set_same (x ∷ xs) (suc k) y d lt = set_same xs k y d (omega (arith, lt))

-- ---- places of a row

module _ {S K P : Type 0} where
  pub seen-at : (row : List (LiveStage S K P)) (i : ℕ) (d : LiveStage S K P) → i < length row → seen_in_row row i ≡ seen_of (slice_index_or row i d).seat
  seen-at [] i d lt = absurd (omega (arith, lt))
  seen-at (x ∷ row) zero d lt = refl
  seen-at (x ∷ row) (suc i) d lt = seen-at row i d (omega (arith, lt))

  pub number-at : (k : ℕ) (row : List (LiveStage S K P)) (i : ℕ) (d : LiveStage S K P) → AreNumbered k row → i < length row → (slice_index_or row i d).seat.stage ≡ k + i
  number-at k [] i d are lt = absurd (omega (arith, lt))
  number-at k (x ∷ row) zero d are lt = are.0 ∙ (let e : k ≡ k + 0 = omega arith in e)
  number-at k (x ∷ row) (suc i) d are lt = number-at (suc k) row i d are.1 (omega (arith, lt)) ∙ (let e : suc k + i ≡ k + suc i = omega arith in e)

  -- a row in which one stage has another part
  pub numbered-set : (k : ℕ) (row : List (LiveStage S K P)) (j : ℕ) (new : LiveStage S K P) → AreNumbered k row → IsSameBesidesPart (slice_index_or row j new) new → AreNumbered k (slice_set row j new)
  numbered-set k [] j new are same = tt
  numbered-set k (x ∷ row) zero new are same = (ap (λ seat. seat.stage) same.seat ∙ are.0, are.1)
  numbered-set k (x ∷ row) (suc j) new are same = (are.0, numbered-set (suc k) row j new are.1 same)

  pub seen-set : (row : List (LiveStage S K P)) (j : ℕ) (new : LiveStage S K P) → IsSameBesidesPart (slice_index_or row j new) new → (i : ℕ) → seen_in_row (slice_set row j new) i ≡ seen_in_row row i
  seen-set [] j new same i = refl
  seen-set (x ∷ row) zero new same zero = ap (λ seat. seen_of seat) same.seat
  seen-set (x ∷ row) zero new same (suc i) = refl
  seen-set (x ∷ row) (suc j) new same zero = refl
  seen-set (x ∷ row) (suc j) new same (suc i) = seen-set row j new same i

  same-besides : (x : LiveStage S K P) → IsSameBesidesPart x x
  same-besides x = record { seat = refl; done = refl; word = refl; over = refl; written = refl }

  pub beside-all : (row : List (LiveStage S K P)) → AreBeside IsSameBesidesPart row row
  unfolding AreBeside
  beside-all [] = tt
  beside-all (x ∷ row) = (same-besides x, beside-all row)

  pub beside-set : (row : List (LiveStage S K P)) (j : ℕ) (new : LiveStage S K P) → IsSameBesidesPart (slice_index_or row j new) new → AreBeside IsSameBesidesPart row (slice_set row j new)
  unfolding AreBeside
  beside-set [] j new same = tt
  beside-set (x ∷ row) zero new same = (same, beside-all row)
  beside-set (x ∷ row) (suc j) new same = (same-besides x, beside-set row j new same)

  pub beside-more : (one two three : List (LiveStage S K P)) → AreBeside IsSameBesidesPart one two → AreBeside IsSameBesidesPart two three → AreBeside IsSameBesidesPart one three
  unfolding AreBeside
  beside-more [] [] [] a b = tt
  beside-more [] [] (z ∷ zs) a b = absurd b
  beside-more [] (y ∷ ys) zs a b = absurd a
  beside-more (x ∷ xs) [] zs a b = absurd a
  beside-more (x ∷ xs) (y ∷ ys) [] a b = absurd b
  beside-more (x ∷ xs) (y ∷ ys) (z ∷ zs) a b = (
    record { seat = b.0.seat ∙ a.0.seat; done = b.0.done ∙ a.0.done; word = b.0.word ∙ a.0.word; over = b.0.over ∙ a.0.over; written = b.0.written ∙ a.0.written },
    beside-more xs ys zs a.1 b.1,
  )

  pub beside-long : (row new : List (LiveStage S K P)) → AreBeside IsSameBesidesPart row new → length new ≡ length row
  unfolding AreBeside
  beside-long [] [] a = refl
  beside-long [] (y ∷ ys) a = absurd a
  beside-long (x ∷ xs) [] a = absurd a
  beside-long (x ∷ xs) (y ∷ ys) a = ap suc (beside-long xs ys a.1)

  pub beside-numbers : (k : ℕ) (row new : List (LiveStage S K P)) → AreBeside IsSameBesidesPart row new → AreNumbered k row → AreNumbered k new
  unfolding AreBeside
  beside-numbers k [] [] a are = tt
  beside-numbers k [] (y ∷ ys) a are = absurd a
  beside-numbers k (x ∷ xs) [] a are = absurd a
  beside-numbers k (x ∷ xs) (y ∷ ys) a are = (ap (λ seat. seat.stage) a.0.seat ∙ are.0, beside-numbers (suc k) xs ys a.1 are.1)

  pub beside-seen : (row new : List (LiveStage S K P)) → AreBeside IsSameBesidesPart row new → (i : ℕ) → seen_in_row new i ≡ seen_in_row row i
  unfolding AreBeside
  beside-seen [] [] a i = refl
  beside-seen [] (y ∷ ys) a i = absurd a
  beside-seen (x ∷ xs) [] a i = absurd a
  beside-seen (x ∷ xs) (y ∷ ys) a zero = ap (λ seat. seen_of seat) a.0.seat
  beside-seen (x ∷ xs) (y ∷ ys) a (suc i) = beside-seen xs ys a.1 i

-- each stage of a row but one, and a new one in its place
module _ {S K P : Type 0} (see : Seeing S K P) (begun : RunStart S K) (base : Bases) (table : TableId) where
  pub each-set : (row : List (LiveStage S K P)) (j : ℕ) (new : LiveStage S K P) → Each (Serves see begun base table) row → Serves see begun base table new → Each (Serves see begun base table) (slice_set row j new)
  each-set [] j new all one = tt
  each-set (x ∷ row) zero new all one = (one, all.1)
  each-set (x ∷ row) (suc j) new all one = (all.0, each-set row j new all.1 one)

  -- the same where lines were taken away further
  pub each-told : (told : ℕ → ℕ) (k : ℕ) (row : List (LiveStage S K P)) → AreNumbered (suc k) row
      → ((i : ℕ) → k ≤ i → i < begun.plan.plugins → told i ≡ begun.told i)
      → Each (Serves see begun base table) row → Each (Serves see (told_to begun told) base table) row
  each-told told k [] are same all = tt
  each-told told k (x ∷ row) are same all = (
    serves-told see begun base table told x (λ i e lt. same i (let n = are.0 in omega arith) lt) all.0,
    each-told told (suc k) row are.1 (λ i le lt. same i (omega arith) lt) all.1,
  )

  pub each-told-set : (told : ℕ → ℕ) (k : ℕ) (row : List (LiveStage S K P)) (j : ℕ) (new : LiveStage S K P) → AreNumbered (suc k) row
      → ((i : ℕ) → k ≤ i → i ≢ k + j → i < begun.plan.plugins → told i ≡ begun.told i)
      → Each (Serves see begun base table) row → Serves see (told_to begun told) base table new → Each (Serves see (told_to begun told) base table) (slice_set row j new)
  each-told-set told k [] j new are same all one = tt
  each-told-set told k (x ∷ row) zero new are same all one = (one, each-told told (suc k) row are.1 (λ i le lt. same i (omega arith) (λ e. absurd (omega (arith, le, e))) lt) all.1)
  each-told-set told k (x ∷ row) (suc j) new are same all one = (
    serves-told see begun base table told x (λ i e lt. let n = are.0 in same i (omega arith) (λ f. absurd (omega (arith, e, f, n))) lt) all.0,
    each-told-set told (suc k) row j new are.1 (λ i le apart lt. same i (omega arith) (λ e. apart (omega arith)) lt) all.1 one,
  )

-- the lines between two positions are those by the cells before the second one
pub placed-by-first : (rule : PluginRule) (one other : List Cell) (from to : ℕ) → from ≤ to → take to one ≡ take to other → placed_between rule one from to ≡ placed_between rule other from to
placed-by-first rule one other from to le same =
    let before : take from one ≡ take from other = sym (take-take from to one le) ∙ (ap (take from) same ∙ take-take from to other le) in
    (λ i. placed_after rule (before i) (drop from (same i)))

-- ---- whether all know the same

module _ {S K P : Type 0} where
  pub none-asked : (row : List (LiveStage S K P)) (j written : ℕ) → length row ≤ j + 1 → Rattle.chain_live_threads.specs.RowTakes.AllKnow row j written
  none-asked row j written over = λ i d le lt. absurd (omega (arith, over, le, lt))

  pub one-more : (row : List (LiveStage S K P)) (j written : ℕ) (stage : LiveStage S K P) → j < length row → stage ≡ slice_index_or row j stage → stage.written ≡ written
      → Rattle.chain_live_threads.specs.RowTakes.AllKnow row (j + 1) written → Rattle.chain_live_threads.specs.RowTakes.AllKnow row j written
  one-more row j written stage lt is knows rest = λ i d le few. elim (cases_eq i j) [
    | inl same ↦ ap (λ (n : ℕ). (slice_index_or row n d).written) same ∙ (ap (λ (x : LiveStage S K P). x.written) (any_default row j d stage lt ∙ sym is) ∙ knows)
    | inr apart ↦ rest i d (above i le apart) few
  ]
    where
      above : (i : ℕ) → j ≤ i → i ≢ j → j + 1 ≤ i
      above i le apart = elim (cases_eq i j) [
        | inl same ↦ absurd (apart same)
        | inr other ↦ omega (arith, le, other)
      ]
