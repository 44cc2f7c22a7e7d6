-- The stages of a run in two threads: their parts and seats put together, and taken apart again.
use Rattle.std.proofs.Common.{◌≡◌, ℕ, zero, suc, ◌+◌, ◌<◌, ◌≤◌, List, [], ◌∷◌, None, ◌++◌, length, take, slice_index_or, refl, sym, ap, ◌∙◌, subst, arith, append-nil, true}
use Rattle.std.proofs.lemmas.List.{length-map}
use Rattle.cell_land.specs.declared.cell_window.Bases.{Bases}
use Rattle.atomic_table.specs.Seated.{TableId}
use Rattle.chain_model.specs.Each.{Each}
use Rattle.chain_model.specs.PluginRule.{PluginRule}
use Rattle.chain_model.specs.Reports.{NamedRule, rules_of}
use Rattle.chain_core.specs.Machine.{Visit}
use Rattle.chain_core.specs.ChainRun.{state_after}
use Rattle.stage_run.specs.Seeing.{Seeing}
use Rattle.stage_run.specs.declared.stage_part.StagePart.{StagePart}
use Rattle.chain_live.proofs.LineLaws.{only-met}
use Rattle.chain_rounds.specs.Round.{AreNames}
use Rattle.chain_rounds.specs.declared.told_line.ToldLine.{ToldLine}
use Rattle.chain_run.specs.Runs.{RunStart, told_to}
use Rattle.chain_run.specs.OneStage.{Doing}
use Rattle.chain_run.specs.Ran.{IsValidRun}
use Rattle.chain_run.proofs.MarkLemmas.{valid-told}
use Rattle.chain_tells.specs.Taking.{met_in}
use Rattle.window_ring.specs.declared.ring.Ring.{Ring}
use Rattle.window_ring.specs.declared.stage_seat.StageSeat.{StageSeat}
use Rattle.window_ring.specs.Opening.{IsFresh}
use Rattle.window_ring.specs.Seats.{seen_of, key_of, table_of}
use Rattle.chain_threads.specs.Standing.{key_at, written_by}
use Rattle.chain_threads.specs.Turning.{IsNewStage}
use Rattle.chain_threads.specs.Beginning.{AreNew}
use Rattle.chain_threads.specs.Over.{EndsAt, AllHaveEnded}
use Rattle.chain_threads.specs.RunLaws.{RunLaws}
use Rattle.chain_threads.proofs.Carries.{each_at}
use Rattle.chain_threads.proofs.SeatLemmas.{key-is, same_number}
use Rattle.chain_live_threads.specs.declared.live_stage.LiveStage.{LiveStage}
use Rattle.chain_live_threads.specs.Serving.{Serves}
use Rattle.chain_live_threads.specs.Rows.{HaveEnded}
use Rattle.chain_live_threads.specs.RowStages.{seated, parts_of, seats_of}
use Rattle.chain_live_threads.specs.RowTells.{AreNumbered, seen_in_row, met_by, RowHasTold}
use Rattle.chain_live_threads.specs.RowTakes.{RowServes}
use Rattle.chain_live_threads.specs.AllWent.{after_first, AllServe, AllWent}
use Rattle.chain_live_threads.specs.Ending.{SeatsHaveTold}
use Rattle.chain_live_threads.proofs.AllLemmas.{rest-serves}
use Rattle.chain_live_threads.proofs.ServeLemmas.{serves-new}
use Rattle.chain_live_threads.proofs.ToldLemmas.{number-at, seen-at}

module _ {S K P : Type 0} where
  pub parts-none : (stages : List (LiveStage S K P)) (parts : List (StagePart S K P)) → length stages ≡ 0 → parts ≡ parts ++ parts_of stages
  parts-none [] parts e = sym (append-nil parts)
  parts-none (x ∷ xs) parts e = absurd (omega (arith, e))

  pub seats-none : (stages : List (LiveStage S K P)) (seats : List StageSeat) → length stages ≡ 0 → seats ≡ seats ++ seats_of stages
  seats-none [] seats e = sym (append-nil seats)
  seats-none (x ∷ xs) seats e = absurd (omega (arith, e))

  pub seated-length : (parts : List (StagePart S K P)) (seats : List StageSeat) → length seats ≡ length parts → length (seated parts seats) ≡ length parts
  seated-length [] seats e = refl
  seated-length (p ∷ ps) [] e = absurd (omega (arith, e))
  seated-length (p ∷ ps) (s ∷ ss) e = (let f = seated-length ps ss (omega (arith, e)) in omega (arith, f))

  pub parts-length : (stages : List (LiveStage S K P)) → length (parts_of stages) ≡ length stages
  parts-length [] = refl
  parts-length (s ∷ ss) = (let f = parts-length ss in omega (arith, f))

  pub seats-length : (stages : List (LiveStage S K P)) → length (seats_of stages) ≡ length stages
  seats-length [] = refl
  seats-length (s ∷ ss) = (let f = seats-length ss in omega (arith, f))

  part-at : (stages : List (LiveStage S K P)) (i : ℕ) (d : StagePart S K P) (e : LiveStage S K P) → i < length stages → (slice_index_or stages i e).part ≡ slice_index_or (parts_of stages) i d
  part-at [] i d e lt = absurd (omega (arith, lt))
  part-at (s ∷ ss) zero d e lt = refl
  part-at (s ∷ ss) (suc i) d e lt = part-at ss i d e (omega (arith, lt))

  seat-at : (stages : List (LiveStage S K P)) (i : ℕ) (d : StageSeat) (e : LiveStage S K P) → i < length stages → (slice_index_or stages i e).seat ≡ slice_index_or (seats_of stages) i d
  seat-at [] i d e lt = absurd (omega (arith, lt))
  seat-at (s ∷ ss) zero d e lt = refl
  seat-at (s ∷ ss) (suc i) d e lt = seat-at ss i d e (omega (arith, lt))

  numbered-seated : (k : ℕ) (parts : List (StagePart S K P)) (seats : List StageSeat) → length seats ≡ length parts → ((i : ℕ) (e : StageSeat) → i < length parts → (slice_index_or seats i e).stage ≡ k + i) → AreNumbered k (seated parts seats)
  numbered-seated k [] seats same at = tt
  numbered-seated k (p ∷ ps) [] same at = absurd (omega (arith, same))
  numbered-seated k (p ∷ ps) (s ∷ ss) same at = (
    at 0 s (omega arith) ∙ (let e : k + 0 ≡ k = omega arith in e),
    numbered-seated (suc k) ps ss (omega (arith, same)) (λ i e lt. at (suc i) e (omega (arith, lt)) ∙ (let f : k + suc i ≡ suc k + i = omega arith in f)),
  )

-- ---- none has begun

module _ {S K P : Type 0} (see : Seeing S K P) (laws : RunLaws see) (begun : RunStart S K) (ring : Ring) (parts : List (StagePart S K P)) (seats : List StageSeat) (n : AreNew see begun ring parts seats) where
  abbrev base : Bases
  base = (key_of ring).base

  abbrev table : TableId
  table = table_of ring

  pub key : key_of ring ≡ key_at begun base
  key = key-is ring begun n.plan_is

  abbrev many-seats : length seats ≡ length parts
  many-seats = same_number see begun ring parts seats n

  new-at : (i : ℕ) (d : StagePart S K P) (e : StageSeat) → i < length parts → IsNewStage see begun base table (slice_index_or parts i d) (slice_index_or seats i e)
  new-at i d e lt =
      let le : i ≤ suc begun.plan.plugins = (let a = n.row.stages_are in omega (arith, a, lt)) in
      let fresh : IsFresh (key_of ring) table i (slice_index_or seats i e) = n.fresh i e (let a = many-seats in omega (arith, a, lt)) in
      let doing = n.row.new i le in
      record {
        run = n.row.run;
        words = (let a = n.words in omega (arith, a));
        slots = n.slots;
        is_stage = subst (λ k. k ≤ suc begun.plan.plugins) (sym fresh.stage) le;
        fresh = subst (λ k. IsFresh (key_at begun base) table k (slice_index_or seats i e)) (sym fresh.stage) (subst (λ z. IsFresh z table i (slice_index_or seats i e)) key fresh);
        lists = n.row.lists i;
        doing = subst (λ k. Doing see begun (slice_index_or parts i d) k (n.row.lists i) [] None 0 0 (λ _. []) (λ _. Unit {0})) (sym fresh.stage)
            (subst (λ p. Doing see begun p i (n.row.lists i) [] None 0 0 (λ _. []) (λ _. Unit {0})) (sym (n.row.parts_are i d le)) doing);
      }

  each-serves : (parts : List (StagePart S K P)) (seats : List StageSeat) → length seats ≡ length parts
      → ((i : ℕ) (d : StagePart S K P) (e : StageSeat) → i < length parts → IsNewStage see begun base table (slice_index_or parts i d) (slice_index_or seats i e))
      → Each (Serves see begun base table) (seated parts seats)
  each-serves [] seats same new = tt
  each-serves (p ∷ ps) [] same new = absurd (omega (arith, same))
  each-serves (p ∷ ps) (s ∷ ss) same new = (serves-new see begun base table laws p s (new 0 p s (omega arith)), each-serves ps ss (omega (arith, same)) (λ i d e lt. new (suc i) d e (omega (arith, lt))))

  pub all-serve : Each (Serves see begun base table) (seated parts seats)
  all-serve = each-serves parts seats many-seats new-at

  pub numbered : AreNumbered 0 (seated parts seats)
  numbered = numbered-seated 0 parts seats many-seats (λ i e lt. (n.fresh i e (let a = many-seats in omega (arith, a, lt))).stage ∙ (let f : i ≡ 0 + i = omega arith in f))

  pub many : length (seated parts seats) ≡ begun.plan.plugins + 2
  many = (let b = seated-length parts seats many-seats in let c = n.row.stages_are in omega (arith, b, c))

  pub all-new : AllServe see begun base table (seated parts seats)
  all-new = record { numbers = numbered; many = many; rules_are = n.row.run.rules_are; serve = all-serve }

-- told nothing yet
pub told-nothing : {S K P L : Type 0} (see : Seeing S K P) (begun : RunStart S K) (base : Bases) (table : TableId) (plugins : List NamedRule) (name_of : ℕ → List ℕ) (hears : L → L → List ToldLine → Type 0) (first : L)
    (row : List (LiveStage S K P)) → begun.rules ≡ rules_of plugins → AreNames name_of 0 plugins → RowServes see (told_to begun (λ _. 0)) base table row
    → RowHasTold see begun base table plugins name_of hears first first 0 row
told-nothing see begun base table plugins name_of hears first row rules names s = record {
  rows = [];
  heard = refl;
  tells = record { rules = rules; names = names; numbers = s.numbers; many = s.many; serve = s.serve; none = λ e. refl; within = λ j lt. omega arith; lines = refl };
}

-- ---- all have ended

some-of : {X : Type 0} (xs : List X) → 0 < length xs → X
some-of [] lt = absurd (omega (arith, lt))
some-of (x ∷ xs) lt = x

module _ {S K P : Type 0} (see : Seeing S K P) (begun : RunStart S K) (base : Bases) (table : TableId) (stages : List (LiveStage S K P)) (s : AllServe see begun base table stages) where
  over-at : (k : ℕ) (d : LiveStage S K P) → k < length stages → Each (λ (stage : LiveStage S K P). stage.over ≡ true) stages
      → EndsAt see begun base table k (slice_index_or stages k d).seat (slice_index_or stages k d).part
  over-at k d lt over = record {
    stage = number-at 0 stages k d s.numbers lt ∙ (let e : 0 + k ≡ k = omega arith in e);
    over = ((each_at (Serves see begun base table) stages k d s.serve lt).1.has_ended (each_at (λ (stage : LiveStage S K P). stage.over ≡ true) stages k d over lt)).0;
  }

  pub all-ended : HaveEnded true stages → IsValidRun begun → AllHaveEnded see begun base table (seats_of stages) (parts_of stages)
  unfolding HaveEnded
  all-ended over valid =
      let x : LiveStage S K P = some-of stages (let m = s.many in omega (arith, m)) in
      record {
        run = valid;
        seats_are = seats-length stages ∙ s.many;
        parts_are = parts-length stages ∙ s.many;
        over = λ k d e le.
            let lt : k < length stages = let m = s.many in omega (arith, m, le) in
            subst (λ (z : StageSeat). EndsAt see begun base table k z (slice_index_or (parts_of stages) k e)) (seat-at stages k d x lt)
            (subst (λ (p : StagePart S K P). EndsAt see begun base table k (slice_index_or stages k x).seat p) (part-at stages k e x lt)
            (over-at k x lt (over refl)));
      }

-- what the row told, in words of the seats
module _ {S K P L : Type 0} (see : Seeing S K P) (begun : RunStart S K) (base : Bases) (table : TableId) (plugins : List NamedRule) (name_of : ℕ → List ℕ) (hears : L → L → List ToldLine → Type 0) (first now : L) (w : ℕ) where
  seats-told : (input : LiveStage S K P) (row : List (LiveStage S K P)) → length plugins ≡ begun.plan.plugins → RowHasTold see begun base table plugins name_of hears first now w row
      → SeatsHaveTold see begun plugins name_of hears first now w (seats_of (input ∷ row))
  seats-told input row are t =
      let seen-is : (j : ℕ) (d : StageSeat) → j < begun.plan.plugins → seen_in_row row j ≡ seen_of (slice_index_or (seats_of (input ∷ row)) (suc j) d) =
      (λ j d lt. let many = t.tells.many in seen-at row j input (omega (arith, lt, many)) ∙ ap seen_of (seat-at row j d input (omega (arith, lt, many)))) in
      record {
        rules = t.tells.rules;
        names = t.tells.names;
        rows = t.rows;
        heard = t.heard;
        none = t.tells.none;
        within = λ j d lt. subst (λ (seen : List Visit). w ≤ written_by see begun seen) (seen-is j d lt) (t.tells.within j lt);
        lines = λ d. t.tells.lines ∙ only-met plugins (met_by see begun row) (λ j. met_in (state_after begun.plan (seen_of (slice_index_or (seats_of (input ∷ row)) (suc j) d))) j) w
            (λ j lt. ap (λ (seen : List Visit). take w (met_in (state_after begun.plan seen) j)) (seen-is j d (omega (arith, lt, are))));
      }

  pub all-told : (stages : List (LiveStage S K P)) → length stages ≡ begun.plan.plugins + 2 → length begun.rules ≡ begun.plan.plugins → begun.rules ≡ rules_of plugins
      → RowHasTold see begun base table plugins name_of hears first now w (after_first stages) → SeatsHaveTold see begun plugins name_of hears first now w (seats_of stages)
  all-told [] many are rules t = absurd (omega (arith, many))
  all-told (x ∷ row) many are rules t =
      seats-told x row (sym (length-map plugins (λ (plugin : NamedRule). plugin.rule)) ∙ (sym (ap (λ (l : List PluginRule). length l) rules) ∙ are)) t

-- ---- from the first turn to the last

module _ {S K P L : Type 0} (see : Seeing S K P) (laws : RunLaws see) (begun : RunStart S K) (ring : Ring) (parts : List (StagePart S K P)) (seats : List StageSeat) (n : AreNew see (told_to begun (λ _. 0)) ring parts seats)
    (hears : L → L → List ToldLine → Type 0) (was now : L) (told : ℕ) (stages : List (LiveStage S K P)) (went : AllWent see ring hears was now 0 told (seated parts seats) stages) where
  new-serve : AllServe see (told_to begun (λ _. 0)) (key_of ring).base (table_of ring) (seated parts seats)
  new-serve = all-new see laws (told_to begun (λ _. 0)) ring parts seats n

  served : AllServe see (told_to begun (λ _. told)) (key_of ring).base (table_of ring) stages
  served = went.serves begun (key_of ring).base (key see laws (told_to begun (λ _. 0)) ring parts seats n) new-serve

  -- as many stages as there were
  pub as-many : length stages ≡ length (seated parts seats)
  as-many = served.many ∙ sym new-serve.many

  pub parts-ended : AllHaveEnded see (told_to begun (λ _. told)) (key_of ring).base (table_of ring) (seats_of stages) (parts_of stages)
  parts-ended = all-ended see (told_to begun (λ _. told)) (key_of ring).base (table_of ring) stages served went.ended (valid-told see (told_to begun (λ _. 0)) (λ _. told) n.row.run)

  pub parts-told : (plugins : List NamedRule) (name_of : ℕ → List ℕ) → begun.rules ≡ rules_of plugins → AreNames name_of 0 plugins → SeatsHaveTold see begun plugins name_of hears was now told (seats_of stages)
  parts-told plugins name_of rules names =
      all-told see begun (key_of ring).base (table_of ring) plugins name_of hears was now told stages served.many served.rules_are rules
      (went.tells begun (key_of ring).base plugins name_of was (key see laws (told_to begun (λ _. 0)) ring parts seats n)
      (told-nothing see begun (key_of ring).base (table_of ring) plugins name_of hears was (after_first (seated parts seats)) rules names
      (rest-serves see (told_to begun (λ _. 0)) (key_of ring).base (table_of ring) (seated parts seats) new-serve)))
