-- What the stages told each for itself is right of the one run that they made.
--
-- That their visits are one run is proved as for a chain with a thread for each stage, but here the visits are in sight: each seat
-- has seen a part of them.
use Rattle.std.proofs.Common.{◌≡◌, ℕ, zero, suc, ◌+◌, ◌<◌, ◌≤◌, List, [], ◌∷◌, ◌++◌, length, map, take, refl, inl, inr, if◌then◌else◌, sym, ap, ◌∙◌, subst, arith, append_assoc}
use Rattle.std.specs.Prelude.{IsSome, slice_index_or, nat_le}
use Rattle.std.proofs.lemmas.Bool.{cases_lt, cond-true, cond-false, le-leb, lt-leb}
use Rattle.std.proofs.lemmas.List.{length-map, take-take}
use Rattle.cell_land.specs.declared.cell_window.Bases.{Bases}
use Rattle.atomic_table.specs.Seated.{TableId}
use Rattle.chain_model.specs.Apply.{StageList}
use Rattle.chain_model.specs.PluginRule.{PluginRule}
use Rattle.chain_model.specs.Reports.{NamedRule}
use Rattle.chain_core.specs.Stages.{stages_of}
use Rattle.chain_core.specs.declared.closed.Closed.{Closed}
use Rattle.chain_core.specs.declared.core_plan.CorePlan.{CorePlan}
use Rattle.chain_core.specs.Numbers.{UsersArePlugins, written_of}
use Rattle.chain_core.specs.Machine.{ChainState, StageState, Visit, progress_of_stages}
use Rattle.chain_core.specs.ChainRun.{ChainRun, state_after, took}
use Rattle.chain_core.specs.Keeps.{AllKeep, KeptRun}
use Rattle.stage_run.specs.Seeing.{Seeing}
use Rattle.stage_run.specs.declared.stage_part.StagePart.{StagePart}
use Rattle.stage_run.specs.PartLists.{PartLists}
use Rattle.stage_run.specs.PartStands.{PartGives}
use Rattle.stage_run.specs.Parts.{IsListOf}
use Rattle.chain_live.specs.LiveReports.{lines_below}
use Rattle.chain_live.proofs.LineLaws.{only-met}
use Rattle.chain_live_order.proofs.OrderLaws.{prints-same}
use Rattle.chain_rounds.specs.Told.{shown}
use Rattle.chain_rounds.specs.declared.told_line.ToldLine.{ToldLine}
use Rattle.chain_run.specs.Runs.{RunStart}
use Rattle.chain_run.specs.OneStage.{SoFarUpTo, Doing, StandsIn}
use Rattle.chain_run.specs.Ran.{Ran, HasClosed}
use Rattle.chain_run.specs.StageLaws.{Premise, premise}
use Rattle.chain_run.specs.StageLaws.Premise.{HeldSoFar, GivenBy}
use Rattle.chain_run.proofs.NumberLaws as numbers
use Rattle.chain_tells.specs.Live.{lines_of_rows}
use Rattle.chain_tells.specs.Taking.{met_in}
use Rattle.chain_tells.proofs.MetLemmas.{written-is, met-first, met-stays, given-stays}
use Rattle.window_ring.specs.declared.stage_seat.StageSeat.{StageSeat}
use Rattle.window_ring.specs.Views.{Since}
use Rattle.window_ring.specs.Seats.{seen_of}
use Rattle.window_ring.specs.Closing.{ClosedOf}
use Rattle.window_ring.specs.OneRun.{HasKept}
use Rattle.chain_threads.specs.Standing.{key_at, Over}
use Rattle.chain_threads.specs.Over.{EndsAt, AllHaveEnded}
use Rattle.chain_threads.specs.RunLaws.{RunLaws}
use Rattle.chain_threads.proofs.Numbers.{earlier_run, given-taken, taken-given}
use Rattle.chain_threads.proofs.TurnLemmas.{grows_over, more_over}
use Rattle.chain_live_threads.specs.Ending.{SeatsHaveTold}

-- the run that was closed made the visits of which each seat has seen a part
pub record HasClosedBy {S K P : Type 0} (see : Seeing S K P) (begun : RunStart S K) (parts : List (StagePart S K P)) (seats : List StageSeat) (closed : Closed) : Type 0 where
  pub has : HasClosed see begun parts closed
  pub since : (k : ℕ) (d : StageSeat) → k ≤ suc begun.plan.plugins → Since k (seen_of (slice_index_or seats k d)) has.ran.visits

-- a number of a stage, whatever number is given
abbrev clamp : ℕ → ℕ → ℕ
clamp most k = if nat_le k most then k else most

clamp-le : (most k : ℕ) → clamp most k ≤ most
clamp-le most k =
    elim (cases_lt most k) [
      | inl lt ↦ subst (λ n. n ≤ most) (sym (cond-false (nat_le k most) k most (lt-leb k most lt))) (omega arith)
      | inr le ↦ subst (λ n. n ≤ most) (sym (cond-true (nat_le k most) k most (le-leb k most le))) le
    ]

clamp-same : (most k : ℕ) → k ≤ most → clamp most k ≡ k
clamp-same most k le = cond-true (nat_le k most) k most (le-leb k most le)

-- a member of a list is the same whatever stands for no member
any-default : {X : Type 0} (xs : List X) (k : ℕ) (d e : X) → k < length xs → slice_index_or xs k d ≡ slice_index_or xs k e
any-default [] k d e lt = absurd (omega arith)
any-default (x ∷ xs) zero d e lt = refl
any-default (x ∷ xs) (suc k) d e lt = any-default xs k d e (omega arith)

-- a member of a list that has some
some-of : {X : Type 0} (xs : List X) → 0 < length xs → X
some-of [] lt = absurd (omega (arith, lt))
some-of (x ∷ xs) lt = x

module _ {S K P : Type 0} (see : Seeing S K P) (begun : RunStart S K) (base : Bases) (table : TableId) (seats : List StageSeat) (parts : List (StagePart S K P)) (are : AllHaveEnded see begun base table seats parts) where
  abbrev plan : CorePlan
  plan = begun.plan

  module _ (laws : RunLaws see)
      (one : (plan : CorePlan) (rules : List PluginRule) (input : StageList) (history : List Visit) → ((k : ℕ) → k ≤ suc plan.plugins → HasKept plan rules input k history) → ChainRun plan history → AllKeep plan rules input history)
      (seat0 : StageSeat) (part0 : StagePart S K P) (history : List Visit) (run : ChainRun begun.plan history)
      (since : (k : ℕ) (d : StageSeat) → k ≤ suc begun.plan.plugins → Since k (seen_of (slice_index_or seats k d)) history) where
    abbrev s : ChainState
    s = state_after plan history

    abbrev part : ℕ → StagePart S K P
    part k = slice_index_or parts k part0

    abbrev seen : ℕ → List Visit
    seen k = seen_of (slice_index_or seats k seat0)

    module _ (k : ℕ) (le : k ≤ suc plan.plugins) where
      at : EndsAt see begun base table k (slice_index_or seats k seat0) (part k)
      at = are.over k seat0 part0 le

      abbrev own : Over see begun k (seen k) (part k)
      own = subst (λ i. Over see begun i (seen k) (part k)) at.stage at.over.over

      later : List Visit
      later = (since k seat0 le).0

      is-later : history ≡ later ++ seen k
      unfolding later
      is-later = (since k seat0 le).2

      run-later : ChainRun plan (later ++ seen k)
      run-later = subst (ChainRun plan) is-later run

      same_k : s.stages k ≡ (state_after plan (seen k)).stages k
      unfolding later
      same_k = ap (λ (l : List Visit). (state_after plan l).stages k) is-later ∙ laws.seats.stays plan k later (seen k) are.run.valid.users (since k seat0 le).1

      pub ended : IsSome (s.stages k).ended
      ended = subst (λ (z : StageState). IsSome z.ended) (sym same_k) own.ended

      -- what it stands for, in words of the one run
      now : (known : Premise S K P) → ((input : StageList) → premise see begun known input → SoFarUpTo plan begun.rules (seen k) input) → StandsIn see begun (part k) k own.lists s (premise see begun known)
      now known less =
          let old : ChainState = state_after plan (seen k) in
          subst (λ (z : StageState). Doing see begun (part k) k own.lists z.given z.ended (written_of plan (progress_of_stages s)) z.taken (λ j. (s.stages j).given) (premise see begun known)) (sym same_k)
          (laws.stages.more begun (part k) k own.lists (old.stages k).given (old.stages k).ended (written_of plan (progress_of_stages old)) (written_of plan (progress_of_stages s)) (old.stages k).taken (old.stages k).taken
          (λ j. (old.stages j).given) (λ j. (s.stages j).given) (HeldSoFar (seen k)) known
          (subst (λ (l : List Visit). written_of plan (progress_of_stages old) ≤ written_of plan (progress_of_stages (state_after plan l))) (sym is-later) (grows_over laws.machine plan are.run.valid.users later (seen k) run-later))
          (omega arith)
          (λ j e. let m = more_over laws.machine plan are.run.valid.users later (seen k) run-later j in (
            m.0,
            ap (λ (l : List Visit). ((state_after plan l).stages j).given) is-later ∙ m.1,
            (let r = earlier_run plan later (seen k) run-later in let a = given-taken laws.machine plan are.run.valid.users (seen k) r k in let b = subst (λ i. (old.stages i).taken ≤ length (old.stages j).given) e (taken-given laws.machine plan are.run.valid.users (seen k) r j) in omega (arith, a, b)),
          ))
          less own.doing)

    -- the lists that each stage stands for, as a function of its number
    abbrev place : ℕ → ℕ
    place = clamp (suc plan.plugins)

    in_place : (k : ℕ) → place k ≤ suc plan.plugins
    in_place = clamp-le (suc plan.plugins)

    here : (k : ℕ) → k ≤ suc plan.plugins → place k ≡ k
    here = clamp-same (suc plan.plugins)

    its : (k : ℕ) → Over see begun (place k) (seen (place k)) (part (place k))
    its k = own (place k) (in_place k)

    lists : ℕ → PartLists
    lists k = (its k).lists

    abbrev Gives : StageList → Type 0
    Gives = PartGives see (part 0) (lists 0)

    stands : (k : ℕ) → k ≤ suc plan.plugins → (known : Premise S K P) → ((input : StageList) → premise see begun known input → SoFarUpTo plan begun.rules (seen (place k)) input) → StandsIn see begun (part k) k (lists k) s (premise see begun known)
    unfolding lists its
    stands k le known less = subst (λ i. StandsIn see begun (part i) i (lists k) s (premise see begun known)) (here k le) (now (place k) (in_place k) known less)

    is_list : (input : StageList) → Gives input → IsListOf see.source begun.from begun.stuffing input
    is_list input gives = ((stands 0 (omega arith) (HeldSoFar (seen (place 0))) (λ i x. x)).input refl).is_list input gives

    has-kept : (input : StageList) → Gives input → (k : ℕ) → k ≤ suc plan.plugins → HasKept plan begun.rules input k history
    unfolding lists later
    has-kept input gives k le =
        subst (λ i. HasKept plan begun.rules input i history) (here k le) (
          seen (place k),
          (later (place k) (in_place k), (since (place k) seat0 (in_place k)).1, is-later (place k) (in_place k)),
          (its k).kept input (λ first. let zero_is : 0 ≡ k = first ∙ here k le in
              subst (λ i. PartGives see (part (place i)) (lists i) input) zero_is (subst (λ i. PartGives see (part i) (lists 0) input) (sym (here 0 (omega arith))) gives)),
        )

    kept : (input : StageList) → Gives input → AllKeep plan begun.rules input history
    kept input gives = one plan begun.rules input history (has-kept input gives) run

    -- the chain theorem holds of what each stage has seen
    so-far : (k : ℕ) (le : k ≤ suc plan.plugins) (input : StageList) → Gives input → SoFarUpTo plan begun.rules (seen k) input
    so-far k le input gives x q e =
        laws.stages.so_far begun input history are.run (is_list input gives) (kept input gives) run (later k le ++ x) q
        (is-later k le ∙ (ap (λ (l : List Visit). later k le ++ l) e ∙ sym (append_assoc (later k le) x q)))

    ran : Ran see begun parts
    ran = record {
      valid_run = are.run;
      stages_are = are.parts_are;
      visits = history;
      part = part;
      lists = lists;
      by = record {
        parts_are = λ k d le. any-default parts k d part0 (let a = are.parts_are in omega arith);
        run = run;
        kept = kept;
        stands = λ k le. stands k le (GivenBy (part 0) (lists 0)) (so-far (place k) (in_place k));
      };
    }

  -- the run that was closed made the visits of which each seat has seen a part
  pub closed-by : (laws : RunLaws see)
      (one : (plan : CorePlan) (rules : List PluginRule) (input : StageList) (history : List Visit) → ((k : ℕ) → k ≤ suc plan.plugins → HasKept plan rules input k history) → ChainRun plan history → AllKeep plan rules input history)
      (closed : Closed) → ClosedOf (key_at begun base) seats closed → HasClosedBy see begun parts seats closed
  unfolding ran
  closed-by laws one closed is =
      let seat0 = some-of seats (let a = are.seats_are in omega (arith, a)) in
      let part0 = some-of parts (let a = are.parts_are in omega (arith, a)) in
      record {
        has = record {
          ran = ran laws one seat0 part0 is.history is.run is.since;
          over = ended laws one seat0 part0 is.history is.run is.since;
          closed_is = is.closed_is;
        };
        since = is.since;
      }

-- what was told, by what each seat has seen, are the lines of the run without faults
module _ {S K P L : Type 0} (see : Seeing S K P) (laws : RunLaws see) (begun : RunStart S K) (plugins : List NamedRule) (name_of : ℕ → List ℕ) (hears : L → L → List ToldLine → Type 0) (first now : L) (w : ℕ)
    (seats : List StageSeat) (many_seats : length seats ≡ begun.plan.plugins + 2) (t : SeatsHaveTold see begun plugins name_of hears first now w seats) (users : UsersArePlugins begun.plan)
    (history : List Visit) (run : ChainRun begun.plan history) (since : (k : ℕ) (d : StageSeat) → k ≤ suc begun.plan.plugins → Since k (seen_of (slice_index_or seats k d)) history)
    (input : StageList) (kept : KeptRun begun.plan begun.rules input history) where
  seat0 : StageSeat
  seat0 = some-of seats (omega (arith, many_seats))

  abbrev run_plan : CorePlan
  run_plan = begun.plan

  abbrev state : ChainState
  state = state_after run_plan history

  abbrev seat_seen : ℕ → List Visit
  seat_seen j = seen_of (slice_index_or seats (suc j) seat0)

  many : length plugins ≡ run_plan.plugins
  many = sym (length-map plugins (λ (plugin : NamedRule). plugin.rule)) ∙ (sym (ap (λ (l : List PluginRule). length l) t.rules) ∙ kept.plugins)

  module _ (j : ℕ) (lt : j < run_plan.plugins) where
    after_told : List Visit
    after_told = (since (suc j) seat0 (omega (arith, lt))).0

    is-told : history ≡ after_told ++ seat_seen j
    unfolding after_told
    is-told = (since (suc j) seat0 (omega (arith, lt))).2

    run-told : ChainRun run_plan (after_told ++ seat_seen j)
    run-told = subst (ChainRun run_plan) is-told run

    given-early : w ≤ length ((state_after run_plan (seat_seen j)).stages (suc run_plan.plugins)).given
    given-early = let a = written-is laws.machine run_plan users (seat_seen j) (earlier_run run_plan after_told (seat_seen j) run-told) in let b = t.within j seat0 lt in omega (arith, a, b)

    given-late : w ≤ length (state.stages (suc run_plan.plugins)).given
    given-late = subst (λ (l : List Visit). w ≤ length ((state_after run_plan l).stages (suc run_plan.plugins)).given) (sym is-told)
        (given-stays laws.machine run_plan users after_told (seat_seen j) run-told w given-early)

    met-late : take w (met_in (state_after run_plan (seat_seen j)) j) ≡ take w (met_in state j)
    met-late = met-stays laws.machine run_plan users after_told (seat_seen j) run-told w j lt given-early ∙ ap (λ (l : List Visit). take w (met_in (state_after run_plan l) j)) (sym is-told)

  pub given-all : w ≤ length (state.stages (suc run_plan.plugins)).given
  given-all = by run_plan.plugins refl
    where
      by : (n : ℕ) → n ≡ run_plan.plugins → w ≤ length (state.stages (suc run_plan.plugins)).given
      by zero none = let z = t.none (sym none) in omega (arith, z)
      by (suc n) some = given-late 0 (omega (arith, some))

  as-taken : (j : ℕ) → j < length plugins → take w (met_in (state_after run_plan (seat_seen j)) j) ≡ take w (took state (suc j))
  as-taken j lt0 =
      let lt : j < run_plan.plugins = let m = many in omega (arith, lt0, m) in
      let a : length (state.stages (suc run_plan.plugins)).given ≤ length (state.stages (suc j)).given = numbers.given-falls laws.machine run_plan users history run (suc run_plan.plugins) (suc j) (omega (arith, lt)) in
      let b : length (state.stages (suc j)).given ≤ (state.stages (suc j)).taken = numbers.given-taken laws.machine run_plan users history run (suc j) in
      let c = given-all in
      met-late j lt
      ∙ (met-first laws.machine run_plan users history run w j lt c
      ∙ sym (take-take w (state.stages (suc j)).taken (state.stages j).given (omega (arith, a, b, c))))

  pub told-right : map (shown name_of) (lines_of_rows t.rows) ≡ lines_below (record { input = input; plugins = plugins; users = stages_of run_plan.users }) w
  told-right =
      t.lines seat0
      ∙ (only-met plugins (λ j. met_in (state_after run_plan (seat_seen j)) j) (λ j. took state (suc j)) w as-taken
      ∙ prints-same run_plan plugins input (stages_of run_plan.users) history (subst (λ (rules : List PluginRule). KeptRun run_plan rules input history) t.rules kept) w given-all)
