-- The stages of a run in threads: their parts and seats put together, and taken apart again.
use Rattle.std.proofs.Common.{◌≡◌, ℕ, zero, suc, ◌+◌, ◌<◌, ◌≤◌, List, [], ◌∷◌, None, ◌++◌, length, take, slice_index_or, refl, sym, ap, ◌∙◌, subst, arith, append-nil, true, false}
use Rattle.cell_land.specs.declared.cell_window.Bases.{Bases}
use Rattle.atomic_table.specs.Seated.{TableId}
use Rattle.stage_run.specs.Seeing.{Seeing}
use Rattle.stage_run.specs.declared.stage_part.StagePart.{StagePart}
use Rattle.chain_run.specs.Runs.{RunStart}
use Rattle.chain_run.specs.OneStage.{Doing}
use Rattle.chain_run.specs.NewRow.{IsNewRow}
use Rattle.window_ring.specs.declared.ring.Ring.{Ring}
use Rattle.window_ring.specs.declared.stage_seat.StageSeat.{StageSeat}
use Rattle.chain_model.specs.Each.{Each}
use Rattle.window_ring.specs.Seats.{key_of, table_of}
use Rattle.window_ring.specs.declared.opening.NewRing.{NewRing}
use Rattle.window_ring.specs.Opening.{IsFresh, IsNew}
use Rattle.chain_threads.specs.declared.stage.Stage.{Stage}
use Rattle.chain_threads.specs.Standing.{key_at}
use Rattle.chain_threads.specs.Turning.{IsNewStage, Ends}
use Rattle.chain_threads.specs.Driving.{Holds, AreReady, Keeps, AreBeside, Carried, HaveEnded}
use Rattle.chain_threads.specs.Beginning.{new_stage, seated, parts_of, seats_of, AreNew}
use Rattle.chain_threads.specs.Over.{EndsAt, AllHaveEnded}
use Rattle.chain_threads.specs.RunLaws.{RunLaws}
use Rattle.chain_threads.proofs.NewLemmas.{new-stands}
use Rattle.chain_threads.proofs.Carries.{each_at, kept_open}

-- ---- a row that was lent

-- the whole row was written
pub take_front : {X : Type 0} (xs ys : List X) (n : ℕ) → n ≡ length xs → take n (xs ++ ys) ≡ xs
take_front [] ys zero e = refl
take_front [] ys (suc n) e = absurd (omega (arith, e))
take_front (x ∷ xs) ys zero e = absurd (omega (arith, e))
take_front (x ∷ xs) ys (suc n) e = ap (λ l. x ∷ l) (take_front xs ys n (omega (arith, e)))

-- ---- none is left

module _ {S K P : Type 0} where
  pub parts_none : (stages : List (Stage S K P)) (parts : List (StagePart S K P)) → length stages ≡ 0 → parts ≡ parts ++ parts_of stages
  parts_none [] parts e = sym (append-nil parts)
  parts_none (x ∷ xs) parts e = absurd (omega (arith, e))

  pub seats_none : (stages : List (Stage S K P)) (seats : List StageSeat) → length stages ≡ 0 → seats ≡ seats ++ seats_of stages
  seats_none [] seats e = sym (append-nil seats)
  seats_none (x ∷ xs) seats e = absurd (omega (arith, e))

  -- ---- by their places

  pub seated_length : (parts : List (StagePart S K P)) (seats : List StageSeat) → length seats ≡ length parts → length (seated parts seats) ≡ length parts
  seated_length [] seats e = refl
  seated_length (p ∷ ps) [] e = absurd (omega (arith, e))
  seated_length (p ∷ ps) (s ∷ ss) e = (let f = seated_length ps ss (omega (arith, e)) in omega (arith, f))

  seated-seat : (parts : List (StagePart S K P)) (seats : List StageSeat) (i : ℕ) (d : Stage S K P) (e : StageSeat) → length seats ≡ length parts → i < length parts → (slice_index_or (seated parts seats) i d).seat ≡ slice_index_or seats i e
  seated-seat [] seats i d e same lt = absurd (omega (arith, lt))
  seated-seat (p ∷ ps) [] i d e same lt = absurd (omega (arith, same))
  seated-seat (p ∷ ps) (s ∷ ss) zero d e same lt = refl
  seated-seat (p ∷ ps) (s ∷ ss) (suc i) d e same lt = seated-seat ps ss i d e (omega (arith, same)) (omega (arith, lt))

  pub parts_length : (stages : List (Stage S K P)) → length (parts_of stages) ≡ length stages
  parts_length [] = refl
  parts_length (s ∷ ss) = (let f = parts_length ss in omega (arith, f))

  pub seats_length : (stages : List (Stage S K P)) → length (seats_of stages) ≡ length stages
  seats_length [] = refl
  seats_length (s ∷ ss) = (let f = seats_length ss in omega (arith, f))

  part-at : (stages : List (Stage S K P)) (i : ℕ) (d : StagePart S K P) (e : Stage S K P) → i < length stages → (slice_index_or stages i e).part ≡ slice_index_or (parts_of stages) i d
  part-at [] i d e lt = absurd (omega (arith, lt))
  part-at (s ∷ ss) zero d e lt = refl
  part-at (s ∷ ss) (suc i) d e lt = part-at ss i d e (omega (arith, lt))

  seat-at : (stages : List (Stage S K P)) (i : ℕ) (d : StageSeat) (e : Stage S K P) → i < length stages → (slice_index_or stages i e).seat ≡ slice_index_or (seats_of stages) i d
  seat-at [] i d e lt = absurd (omega (arith, lt))
  seat-at (s ∷ ss) zero d e lt = refl
  seat-at (s ∷ ss) (suc i) d e lt = seat-at ss i d e (omega (arith, lt))

module _ {X : Type 0} (F : X → X → Type 0) where
  pub beside_length : (xs ys : List X) → AreBeside F xs ys → length ys ≡ length xs
  unfolding AreBeside
  beside_length [] [] b = refl
  beside_length [] (y ∷ ys) b = absurd b
  beside_length (x ∷ xs) [] b = absurd b
  beside_length (x ∷ xs) (y ∷ ys) b = (let f = beside_length xs ys b.1 in omega (arith, f))

  beside-at : (xs ys : List X) (i : ℕ) (d : X) → AreBeside F xs ys → i < length xs → F (slice_index_or xs i d) (slice_index_or ys i d)
  unfolding AreBeside
  beside-at [] [] i d b lt = absurd (omega (arith, lt))
  beside-at [] (y ∷ ys) i d b lt = absurd b
  beside-at (x ∷ xs) [] i d b lt = absurd b
  beside-at (x ∷ xs) (y ∷ ys) zero d b lt = b.0
  beside-at (x ∷ xs) (y ∷ ys) (suc i) d b lt = beside-at xs ys i d b.1 (omega (arith, lt))

-- ---- none has begun

pub key-is : {S K : Type 0} (ring : Ring) (begun : RunStart S K) → (key_of ring).plan ≡ begun.plan → key_of ring ≡ key_at begun (key_of ring).base
key-is ring begun is = ap (λ p. record { plan = p; base = (key_of ring).base }) is

module _ {S K P : Type 0} (see : Seeing S K P) (laws : RunLaws see) (begun : RunStart S K) (base : Bases) (table : TableId) where
  new-holds : (part : StagePart S K P) (seat : StageSeat) → IsNewStage see begun base table part seat → Holds see begun base table (new_stage part seat)
  new-holds part seat n = (λ f. new-stands see laws begun base table part seat n, λ t. absurd (let f : false ≡ true = t in cc))

  each-holds : (parts : List (StagePart S K P)) (seats : List StageSeat) → length seats ≡ length parts
      → ((i : ℕ) (d : StagePart S K P) (e : StageSeat) → i < length parts → IsNewStage see begun base table (slice_index_or parts i d) (slice_index_or seats i e))
      → Each (Holds see begun base table) (seated parts seats)
  each-holds [] seats same new = tt
  each-holds (p ∷ ps) [] same new = absurd (omega (arith, same))
  each-holds (p ∷ ps) (s ∷ ss) same new = (new-holds p s (new 0 p s (omega arith)), each-holds ps ss (omega (arith, same)) (λ i d e lt. new (suc i) d e (omega (arith, lt))))

module _ {S K P : Type 0} (see : Seeing S K P) (begun : RunStart S K) (ring : Ring) (parts : List (StagePart S K P)) (seats : List StageSeat) (n : AreNew see begun ring parts seats) where
  abbrev base : Bases
  base = (key_of ring).base

  abbrev table : TableId
  table = table_of ring

  key : key_of ring ≡ key_at begun base
  key = key-is ring begun n.plan_is

  pub same_number : length seats ≡ length parts
  same_number = (let a = n.row.stages_are in let b = n.all in omega (arith, a, b))

  new-at : (i : ℕ) (d : StagePart S K P) (e : StageSeat) → i < length parts → IsNewStage see begun base table (slice_index_or parts i d) (slice_index_or seats i e)
  new-at i d e lt =
      let le : i ≤ suc begun.plan.plugins = (let a = n.row.stages_are in omega (arith, a, lt)) in
      let fresh : IsFresh (key_of ring) table i (slice_index_or seats i e) = n.fresh i e (let a = same_number in omega (arith, a, lt)) in
      let doing = n.row.new i le in
      record {
        run = n.row.run;
        words = (let a = n.words in omega (arith, a));
        slots = n.slots;
        is_stage = subst (λ k. k ≤ suc begun.plan.plugins) (sym fresh.stage) le;
        fresh = subst (λ k. IsFresh (key_at begun base) table k (slice_index_or seats i e)) (sym fresh.stage) (subst (λ z. IsFresh z table i (slice_index_or seats i e)) key fresh);
        lists = n.row.lists i;
        doing = subst (λ k. Doing see begun (slice_index_or parts i d) k (n.row.lists i) [] None 0 0 (λ _. []) (λ _. Unit {0})) (sym fresh.stage)
            (subst (λ p. Doing see begun p i (n.row.lists i) [] None 0 0 (λ _. []) (λ _. Unit {0})) (sym (n.row.parts_are i d le)) doing);
      }

  all-hold : RunLaws see → Each (Holds see begun base table) (seated parts seats)
  all-hold laws = each-holds see laws begun base table parts seats same_number new-at

  pub are_ready : RunLaws see → AreReady see ring (seated parts seats)
  unfolding AreReady
  are_ready laws = (begun, base, key, all-hold laws)

  -- ---- all have ended

  module _ (laws : RunLaws see) (stages : List (Stage S K P)) (carried : Carried see ring (seated parts seats) stages) (over : HaveEnded true stages) where
    abbrev old : List (Stage S K P)
    old = seated parts seats

    many : length stages ≡ begun.plan.plugins + 2
    many = (let a = beside_length (Keeps see ring) old stages carried in let b = seated_length parts seats same_number in let c = n.row.stages_are in omega (arith, a, b, c))

    module _ (k : ℕ) (le : k ≤ suc begun.plan.plugins) (d : StageSeat) (e : StagePart S K P) where
      abbrev other : Stage S K P
      other = new_stage e d

      abbrev was : Stage S K P
      was = slice_index_or old k other

      abbrev is : Stage S K P
      is = slice_index_or stages k other

      in-parts : k < length parts
      in-parts = (let a = n.row.stages_are in omega (arith, a, le))

      in-old : k < length old
      in-old = (let a = seated_length parts seats same_number in let b = in-parts in omega (arith, a, b))

      in-stages : k < length stages
      in-stages = (let a = many in omega (arith, a, le))

      kept : Keeps see ring was is
      kept = beside-at (Keeps see ring) old stages k other carried in-old

      held : Holds see begun base table is
      held = kept_open see ring was is kept begun base key (each_at (Holds see begun base table) old k other (all-hold laws) in-old)

      ended : Ends see begun base table is
      unfolding HaveEnded
      ended = held.1 (each_at (λ (s : Stage S K P). s.over ≡ true) stages k other (over refl) in-stages)

      number : is.seat.stage ≡ k
      unfolding Keeps
      number = kept.0 ∙ ap (λ (s : StageSeat). s.stage) (seated-seat parts seats k other d same_number in-parts) ∙ (n.fresh k d (let a = same_number in let b = in-parts in omega (arith, a, b))).stage

      ends-at : EndsAt see begun base table k is.seat is.part
      ends-at = record { stage = number; over = ended }

      pub ends_here : EndsAt see begun base table k (slice_index_or (seats_of stages) k d) (slice_index_or (parts_of stages) k e)
      ends_here = subst (λ s. EndsAt see begun base table k s (slice_index_or (parts_of stages) k e)) (seat-at stages k d other in-stages)
          (subst (λ p. EndsAt see begun base table k is.seat p) (part-at stages k e other in-stages) ends-at)

    pub all_ended : AllHaveEnded see begun base table (seats_of stages) (parts_of stages)
    all_ended = record {
      run = n.row.run;
      seats_are = seats_length stages ∙ many;
      parts_are = parts_length stages ∙ many;
      over = λ k d e le. ends_here k le d e;
    }

-- a new row of parts, and a new ring of its plan
pub are_new : {S K P : Type 0} (see : Seeing S K P) (begun : RunStart S K) (parts : List (StagePart S K P)) (new : NewRing) → IsNewRow see begun parts → IsNew begun.plan new
    → AreNew see begun new.ring parts new.seats.items
are_new see begun parts new row r = record {
  row = row;
  plan_is = r.plan_is;
  words = r.words;
  slots = r.slots;
  all = (let a = r.all in omega (arith, a));
  fresh = r.fresh;
}
