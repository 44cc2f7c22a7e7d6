-- The seats go into the root one by one, and their hands together.
use Rattle.std.proofs.Common.{◌≡◌, ◌⊎◌, inl, inr, ⊎_elim, ℕ, zero, suc, ◌+◌, ◌<◌, ◌≤◌, List, [], ◌∷◌, ◌++◌, length, remove, slice_index_or, sym, refl, ap, ◌∙◌, subst, arith, length-append, length-drop}
use Rattle.std.specs.Prelude.{IsSome, Option, Some, option_to_list}
use Rattle.std.proofs.lemmas.Bool.{cases_eq, cases_lt}
use Rattle.std.proofs.lemmas.List.{get_or_push, get_or_append_left}
use Rattle.atomic_table.specs.Seated.{TableId}
use Rattle.atomic_table.specs.Table.{Me}
use Rattle.chain_core.specs.declared.core_plan.CorePlan.{CorePlan}
use Rattle.chain_core.specs.declared.progress.Progress.{Progress}
use Rattle.chain_core.specs.Numbers.{UsersArePlugins}
use Rattle.chain_core.specs.Machine.{Visit, visited, ChainState, progress_of_stages}
use Rattle.chain_core.specs.ChainRun.{ChainRun, state_after, AllEnded}
use Rattle.chain_core.specs.CoreNumbers.{IsValidPlan, progress_of_core}
use Rattle.chain_core.specs.Close.{closed_of}
use Rattle.chain_core.specs.Laws.{ChangesOneStage, LeavesOthers, NewsHold}
use Rattle.window_ring.specs.Hands.{Row, row_of, no_row}
use Rattle.window_ring.specs.declared.state.State.{State}
use Rattle.window_ring.specs.declared.view.Key.{Key}
use Rattle.window_ring.specs.declared.view.View.{View}
use Rattle.window_ring.specs.declared.view.Holding.{Holding}
use Rattle.window_ring.specs.declared.stage_seat.StageSeat.{StageSeat}
use Rattle.window_ring.specs.declared.closing.Left.{Left}
use Rattle.window_ring.specs.Views.{Since, land_of, holding, at_rest, root_view}
use Rattle.chain_model.specs.Each.{Each}
use Rattle.window_ring.specs.Stands.{Stands, waiting}
use Rattle.window_ring.specs.Visits.{IsHandOf}
use Rattle.window_ring.specs.Seats.{busy_of, seen_of}
use Rattle.window_ring.specs.Closing.{Has, CoversAll, Opened, HasEnded, IsDone, Covering, Linked, Parted, Gathered}
use Rattle.window_ring.proofs.Since.{stage_stays, hand_stays}

two_of : (F G : Holding → Type 0) (k : ℕ) (hs : List Holding) → Each F hs → Each G hs → Has k hs → (h : Holding) × (h.stage ≡ k) × F h × G h
two_of F G k [] t u h = absurd h
two_of F G k (x ∷ xs) t u h = ⊎_elim (λ (e : x.stage ≡ k). (x, e, t.0, u.0)) (λ m. two_of F G k xs t.1 u.1 m) h

-- a list from which the first was taken
pub head_off : (l new : List Row) (r : Row) → 0 < length l → r ≡ slice_index_or l 0 r → new ≡ remove l 0 → l ≡ r ∷ new
head_off [] new r lt e n = absurd (omega (arith, lt))
head_off (x ∷ xs) new r lt e n = λ i. sym e i ∷ sym n i

module _ (seats rest : List StageSeat) (last : StageSeat) (is : seats ≡ rest ++ last ∷ []) where
  pub longer : length seats ≡ suc (length rest)
  longer = let e = ap length is in let f = length-append rest (last ∷ []) in omega (arith, e, f)

  pub at_rest_of : (k : ℕ) (d : StageSeat) → k < length rest → slice_index_or seats k d ≡ slice_index_or rest k d
  at_rest_of k d lt = ap (λ l. slice_index_or l k d) is ∙ get_or_append_left rest (last ∷ []) d k lt

  pub at_last : (k : ℕ) (d : StageSeat) → length rest ≡ k → slice_index_or seats k d ≡ last
  at_last k d e = ap (λ l. slice_index_or l k d) is ∙ get_or_push rest last d k e

module _ (key : Key) (table : TableId) (valid : IsValidPlan key.plan)
    (changes : (plan : CorePlan) (state : ChainState) (visit : Visit) → ChangesOneStage plan state (visited plan state visit) visit)
    (leaves : (plan : CorePlan) (visits : List Visit) (visit : Visit) → UsersArePlugins plan → ChainRun plan (visit ∷ visits) → LeavesOthers plan (state_after plan visits) (state_after plan (visit ∷ visits)) visit)
    (hold : (plan : CorePlan) (visits : List Visit) (k : ℕ) → UsersArePlugins plan → ChainRun plan visits → NewsHold plan (state_after plan visits) k) where
  ended_stays : (k : ℕ) (seen history : List Visit) → Since k seen history → HasEnded key k seen → HasEnded key k history
  ended_stays k seen history s e = subst (λ l. HasEnded key k l) (sym s.2) (subst (λ z. IsSome z.ended) (sym (stage_stays key.plan valid.users changes leaves k s.0 seen s.1)) e)

  pub all_ended : (held : List Holding) (value : State) → Opened key held value → Each (λ (h : Holding). HasEnded key h.stage h.seen) held → CoversAll key held → AllEnded value.core.plan (progress_of_core value.core)
  all_ended held value o done all k le =
      let w = two_of (λ (h : Holding). HasEnded key h.stage h.seen) (λ (h : Holding). Since h.stage h.seen o.history) k held done o.since (all k (subst (λ (p : CorePlan). k ≤ suc p.plugins) o.stands.plan_is le)) in
      subst (λ (m : Progress). IsSome m.ended) (sym (o.stands.numbers.progress k)) (subst (λ j. HasEnded key j o.history) w.1 (ended_stays w.0.stage w.0.seen o.history w.3 w.2))

  module _ (history : List Visit) (run : ChainRun key.plan history) where
    abbrev s : ChainState
    s = state_after key.plan history

    abbrev n1 : ℕ
    n1 = suc key.plan.plugins

    abbrev G : ℕ → ℕ
    G k = length (s.stages k).given

    abbrev T : ℕ → ℕ
    T k = (s.stages k).taken

    linked : (j : ℕ) → T (suc j) ≤ G j
    linked j = (hold key.plan history (suc j) valid.users run).taken_within j refl

    within : (k : ℕ) → G k ≤ T k
    within k = (hold key.plan history k valid.users run).given_within

    falls : (k j : ℕ) → j ≤ k → G k ≤ G j
    falls zero j le = let e : j ≡ 0 = omega (arith, le) in subst (λ i. G 0 ≤ G i) (sym e) (omega arith)
    falls (suc k) j le = ⊎_elim (λ same. subst (λ i. G (suc k) ≤ G i) (sym same) (omega arith))
        (λ apart. let a = falls k j (omega (arith, le, apart)) in let b = within (suc k) in let c = linked k in omega (arith, a, b, c)) (cases_eq j (suc k))

    -- what is at the beginning: the free cells
    pub first_left : (value : State) → Stands key value history → (left : Left) → value.links.items ≡ left.all ∷ left.links.items → left.closed ≡ closed_of key.plan (progress_of_stages s) → Parted key s 0 left
    first_left value st left is closed =
        let first : slice_index_or value.links.items 0 no_row ≡ left.all = ap (λ l. slice_index_or l 0 no_row) is in
        let size : suc (length left.links.items) ≡ suc (suc key.plan.plugins) = sym (ap length is) ∙ st.count in
        record {
          closed = closed;
          at = ap (λ (r : Row). r.at) (sym first) ∙ st.free_at;
          land = ap (λ (r : Row). r.land) (sym first) ∙ st.free_land;
          many = ap (λ (r : Row). length r.cells + T 0) (sym first) ∙ st.free_many;
          links = omega (arith, size);
          link = λ i k e lt.
              let le : k ≤ key.plan.plugins = omega (arith, e, lt, size) in let same : suc i ≡ suc k = omega (arith, e) in
              let row : slice_index_or left.links.items i no_row ≡ row_of (T (suc k)) (land_of key) (waiting s k) = (ap (λ l. slice_index_or l (suc i) no_row) (sym is) ∙ ap (λ n. slice_index_or value.links.items n no_row) same) ∙ st.links k le in
              (ap (λ (r : Row). r.at) row, ap (λ (r : Row). r.land) row, (let n = ap (λ (r : Row). length r.cells) row ∙ length-drop (T (suc k)) (s.stages k).given in let l = linked k in omega (arith, n, l)));
        }

    -- the hand of stage `j`, and what lies after it
    module _ (j : ℕ) (stage : j ≤ n1) (left : Left) (p : Parted key s j left) (seat : StageSeat) (done : IsDone key table j seat) (since : Since j (seen_of seat) history) where
      pub hand_is : IsHandOf s j (land_of key) seat.hand
      hand_is = subst (λ l. IsHandOf (state_after key.plan l) j (land_of key) seat.hand) (sym since.2)
          (hand_stays key.plan valid.users changes leaves j (land_of key) seat.hand since.0 (seen_of seat) since.1 (subst (λ k. IsHandOf (state_after key.plan (seen_of seat)) k (land_of key) seat.hand) done.stage done.seat_is.hand_is))

      pub behind : left.all.at ≡ seat.hand.at + length seat.hand.cells
      behind = let a = p.at in let b = hand_is.at in let c = hand_is.cells in omega (arith, a, b, c)

      pub same : left.all.land ≡ seat.hand.land
      same = p.land ∙ sym hand_is.same

      fits_block : length seat.hand.cells + length left.all.cells ≤ key.plan.buffer
      fits_block = let a = p.many in let b = hand_is.cells in let c = falls n1 j stage in omega (arith, a, b, c)

      pub fits : length seat.hand.cells + length left.all.cells ≤ seat.hand.land.count
      fits = subst (λ (l : Rattle.cell_land.specs.Cells.CellLand). length seat.hand.cells + length left.all.cells ≤ l.count) (sym hand_is.same) fits_block

      abbrev both : Row
      both = row_of seat.hand.at seat.hand.land (seat.hand.cells ++ left.all.cells)

      pub whole : j ≡ n1 → length both.cells ≡ both.land.count
      whole e = subst (λ (l : Rattle.cell_land.specs.Cells.CellLand). length both.cells ≡ l.count) (sym hand_is.same)
          (let a = p.many in let b = hand_is.cells in let g : G n1 ≡ G j = ap G (sym e) in let l = length-append seat.hand.cells left.all.cells in omega (arith, a, b, g, l))

      -- the link before it
      module _ (inner : j < n1) (row : Row) (rest : List Row) (is : left.links.items ≡ row ∷ rest) where
        link_is : Linked key s j row
        link_is = subst (λ r. Linked key s j r) (ap (λ l. slice_index_or l 0 no_row) is) (p.link 0 j (omega arith) (let a = ap length is in omega (arith, a)))

        pub link_after : both.at ≡ row.at + length row.cells
        link_after = let a = hand_is.at in let b = link_is.0 in let c = link_is.2 in omega (arith, a, b, c)

        pub link_same : both.land ≡ row.land
        link_same = hand_is.same ∙ sym link_is.1

        pub link_fits : length row.cells + length both.cells ≤ row.land.count
        link_fits = subst (λ (l : Rattle.cell_land.specs.Cells.CellLand). length row.cells + length both.cells ≤ l.count) (sym link_is.1)
            (let a = p.many in let b = hand_is.cells in let c = link_is.2 in let d = falls n1 (suc j) inner in let e = within (suc j) in let l = length-append seat.hand.cells left.all.cells in omega (arith, a, b, c, d, e, l))

        pub parted_more : (new : Left) → new.all ≡ row_of row.at row.land (row.cells ++ both.cells) → new.links.items ≡ rest → new.closed ≡ left.closed → Parted key s (suc j) new
        parted_more new all links closed =
            let size : length left.links.items ≡ suc (length new.links.items) = ap length is ∙ ap (λ (l : List Row). suc (length l)) (sym links) in
            record {
              closed = closed ∙ p.closed;
              at = ap (λ (r : Row). r.at) all ∙ link_is.0;
              land = ap (λ (r : Row). r.land) all ∙ link_is.1;
              many = (let n = ap (λ (r : Row). length r.cells) all in let a = p.many in let b = hand_is.cells in let c = link_is.2 in let l = length-append seat.hand.cells left.all.cells in let m = length-append row.cells both.cells in omega (arith, n, a, b, c, l, m));
              links = (let a = p.links in omega (arith, a, size));
              link = λ i k e lt. subst (λ r. Linked key s k r) (ap (λ l. slice_index_or l (suc i) no_row) is ∙ ap (λ l. slice_index_or l i no_row) (sym links)) (p.link (suc i) k (omega (arith, e)) (omega (arith, lt, size)));
            }

  -- the last seat goes into the root
  module _ (held : List Holding) (seats rest : List StageSeat) (last : StageSeat) (is : seats ≡ rest ++ last ∷ []) (few : length rest ≤ suc key.plan.plugins)
      (seats_are : (k : ℕ) (d : StageSeat) → k < length seats → IsDone key table k (slice_index_or seats k d)) where
    pub last_done : IsDone key table (length rest) last
    last_done = let n = longer seats rest last is in subst (λ x. IsDone key table (length rest) x) (at_last seats rest last is (length rest) last refl) (seats_are (length rest) last (omega (arith, n)))

    pub covering : Each (λ (h : Holding). HasEnded key h.stage h.seen) held → ((k : ℕ) → k ≤ suc key.plan.plugins → (k < length seats) ⊎ Has k held) → Covering key table (holding last.stage (seen_of last) ∷ held) rest
    covering done covers = record {
      valid = valid;
      few = few;
      seats_are = λ k d lt. subst (λ x. IsDone key table k x) (at_rest_of seats rest last is k d lt) (seats_are k d (let n = longer seats rest last is in omega (arith, lt, n)));
      done = (subst (λ k. HasEnded key k (seen_of last)) (sym last_done.stage) last_done.ended, done);
      covers = λ k le. ⊎_elim (λ lt. ⊎_elim (λ below. inl below) (λ above. inr (inl (let n = longer seats rest last is in let e : length rest ≡ k = omega (arith, lt, above, n) in last_done.stage ∙ e))) (cases_lt k (length rest))) (λ h. inr (inr h)) (covers k le);
    }

    module _ (left : Left) (g : Gathered key (holding last.stage (seen_of last) ∷ held) rest left) where
      pub last_since : Since (length rest) (seen_of last) g.history
      last_since = subst (λ k. Since k (seen_of last) g.history) last_done.stage g.held_since.0

      pub since_all : (k : ℕ) (d : StageSeat) → k < length seats → Since k (seen_of (slice_index_or seats k d)) g.history
      since_all k d lt = ⊎_elim (λ below. subst (λ x. Since k (seen_of x) g.history) (sym (at_rest_of seats rest last is k d below)) (g.seats_since k d below))
          (λ above. let n = longer seats rest last is in let e : length rest ≡ k = omega (arith, lt, above, n) in
          subst (λ x. Since k (seen_of x) g.history) (sym (at_last seats rest last is k d e)) (subst (λ i. Since i (seen_of last) g.history) e last_since)) (cases_lt k (length rest))

-- what the laws of the machine promise
pub record Laws : Type 0 where
  pub changes : (plan : CorePlan) (state : ChainState) (visit : Visit) → ChangesOneStage plan state (visited plan state visit) visit
  pub leaves : (plan : CorePlan) (visits : List Visit) (visit : Visit) → UsersArePlugins plan → ChainRun plan (visit ∷ visits) → LeavesOthers plan (state_after plan visits) (state_after plan (visit ∷ visits)) visit
  pub hold : (plan : CorePlan) (visits : List Visit) (k : ℕ) → UsersArePlugins plan → ChainRun plan visits → NewsHold plan (state_after plan visits) k

-- the last seat was taken off the row, and went into the root
pub record Taken (key : Key) (table : TableId) (made : ℕ) (held : List Holding) (seats rest : List StageSeat) (last : StageSeat) (root : Me State View) : Type 0 where
  pub laws : Laws
  pub valid : IsValidPlan key.plan
  pub is : seats ≡ rest ++ last ∷ []
  pub few : length rest ≤ suc key.plan.plugins
  pub seats_are : (k : ℕ) (d : StageSeat) → k < length seats → IsDone key table k (slice_index_or seats k d)
  pub root_is : root ≡ (root_view key made (holding last.stage (seen_of last) ∷ held), [])
  pub more : Covering key table (holding last.stage (seen_of last) ∷ held) rest

pub taken : {key : Key} {table : TableId} {made : ℕ} {held : List Holding} {seats rest : List StageSeat} {last : StageSeat} {root : Me State View} {popped : Option StageSeat} → Laws → IsValidPlan key.plan
    → ((k : ℕ) (d : StageSeat) → k < length seats → IsDone key table k (slice_index_or seats k d)) → length seats ≤ suc (suc key.plan.plugins)
    → Each (λ (h : Holding). HasEnded key h.stage h.seen) held → ((k : ℕ) → k ≤ suc key.plan.plugins → (k < length seats) ⊎ Has k held)
    → seats ≡ rest ++ option_to_list popped → popped ≡ Some last
    → ((k : ℕ) (seen : List Visit) (busy : List ℕ) → last.seat.me ≡ (at_rest key k seen busy, []) → root ≡ (root_view key made (holding k seen ∷ held), [])) → Taken key table made held seats rest last root
taken {key} {table} {made} {held} {seats} {rest} {last} {root} {popped} laws valid seats_are many done covers items some joined =
    let is : seats ≡ rest ++ last ∷ [] = items ∙ ap (λ r. rest ++ option_to_list r) some in
    let few : length rest ≤ suc key.plan.plugins = let n = longer seats rest last is in omega (arith, n, many) in
    record {
      laws = laws;
      valid = valid;
      is = is;
      few = few;
      seats_are = seats_are;
      root_is = joined last.stage (seen_of last) (busy_of last) (last_done key table valid laws.changes laws.leaves laws.hold held seats rest last is few seats_are).seat_is.rests;
      more = covering key table valid laws.changes laws.leaves laws.hold held seats rest last is few seats_are done covers;
    }

-- the hands of the others and the cells after them are together: the last hand comes before them
module _ {key : Key} {table : TableId} {made : ℕ} {held : List Holding} {seats rest : List StageSeat} {last : StageSeat} {root : Me State View} (t : Taken key table made held seats rest last root)
    {left : Left} (g : Gathered key (holding last.stage (seen_of last) ∷ held) rest left) where
  abbrev o : Laws
  o = t.laws

  done : IsDone key table (length rest) last
  done = last_done key table t.valid o.changes o.leaves o.hold held seats rest last t.is t.few t.seats_are

  since : Since (length rest) (seen_of last) g.history
  since = last_since key table t.valid o.changes o.leaves o.hold held seats rest last t.is t.few t.seats_are left g

  pub last_after : left.all.at ≡ last.hand.at + length last.hand.cells
  last_after = behind key table t.valid o.changes o.leaves o.hold g.history g.run (length rest) t.few left g.parted last done since

  pub last_same : left.all.land ≡ last.hand.land
  last_same = same key table t.valid o.changes o.leaves o.hold g.history g.run (length rest) t.few left g.parted last done since

  pub last_fits : length last.hand.cells + length left.all.cells ≤ last.hand.land.count
  last_fits = fits key table t.valid o.changes o.leaves o.hold g.history g.run (length rest) t.few left g.parted last done since

  abbrev with_last : Row
  with_last = row_of last.hand.at last.hand.land (last.hand.cells ++ left.all.cells)

  pub all_since : (k : ℕ) (d : StageSeat) → k < length seats → Since k (seen_of (slice_index_or seats k d)) g.history
  all_since = since_all key table t.valid o.changes o.leaves o.hold held seats rest last t.is t.few t.seats_are left g

  -- with the last stage's hand it is the whole block
  pub all_cells : length seats ≡ suc (suc key.plan.plugins) → (both : Row) → both ≡ with_last → length both.cells ≡ both.land.count
  all_cells all both is = subst (λ (r : Row). length r.cells ≡ r.land.count) (sym is)
      (whole key table t.valid o.changes o.leaves o.hold g.history g.run (length rest) t.few left g.parted last done since (let n = longer seats rest last t.is in omega (arith, n, all)))

  pub no_links : length seats ≡ suc (suc key.plan.plugins) → length left.links.items ≡ 0
  no_links all = let n = longer seats rest last t.is in let m = g.parted.links in omega (arith, n, all, m)

  -- before it lies the link to its stage
  module _ (few : length seats ≤ suc key.plan.plugins) where
    inner : length rest < suc key.plan.plugins
    inner = let n = longer seats rest last t.is in omega (arith, n, few)

    pub some_link : 0 < length left.links.items
    some_link = let m = g.parted.links in let n = inner in omega (arith, m, n)

    module _ {row : Row} {rows : List Row} (row_is : row ≡ slice_index_or left.links.items 0 row) (rows_are : rows ≡ remove left.links.items 0) (both : Row) (both_is : both ≡ with_last) where
      linked_is : left.links.items ≡ row ∷ rows
      linked_is = head_off left.links.items rows row some_link row_is rows_are

      pub before_after : both.at ≡ row.at + length row.cells
      before_after = ap (λ (r : Row). r.at) both_is ∙ link_after key table t.valid o.changes o.leaves o.hold g.history g.run (length rest) t.few left g.parted last done since inner row rows linked_is

      pub before_same : both.land ≡ row.land
      before_same = ap (λ (r : Row). r.land) both_is ∙ link_same key table t.valid o.changes o.leaves o.hold g.history g.run (length rest) t.few left g.parted last done since inner row rows linked_is

      pub before_fits : length row.cells + length both.cells ≤ row.land.count
      before_fits = subst (λ (r : Row). length row.cells + length r.cells ≤ row.land.count) (sym both_is)
          (link_fits key table t.valid o.changes o.leaves o.hold g.history g.run (length rest) t.few left g.parted last done since inner row rows linked_is)

      pub gathered_more : (new : Left) → new.all ≡ row_of row.at row.land (row.cells ++ both.cells) → new.links.items ≡ rows → new.closed ≡ left.closed → Gathered key held seats new
      gathered_more new all links closed = record {
        history = g.history;
        run = g.run;
        held_since = g.held_since.1;
        seats_since = all_since;
        parted = subst (λ j. Parted key (state_after key.plan g.history) j new) (sym (longer seats rest last t.is))
            (parted_more key table t.valid o.changes o.leaves o.hold g.history g.run (length rest) t.few left g.parted last done since inner row rows linked_is new
            (all ∙ ap (λ (r : Row). row_of row.at row.land (row.cells ++ r.cells)) both_is) links closed);
      }
