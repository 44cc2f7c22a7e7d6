-- What the stages did each for itself is one run.
use Rattle.std.proofs.Common.{◌≡◌, ℕ, zero, suc, ◌<◌, ◌≤◌, List, [], ◌∷◌, ◌++◌, length, refl, inl, inr, if◌then◌else◌, sym, ap, ◌∙◌, subst, arith, append_assoc}
use Rattle.std.specs.Prelude.{IsSome, slice_index_or, nat_le}
use Rattle.std.proofs.lemmas.Bool.{cases_lt, cond-true, cond-false, le-leb, lt-leb}
use Rattle.cell_land.specs.declared.cell_window.Bases.{Bases}
use Rattle.atomic_table.specs.Seated.{TableId}
use Rattle.chain_model.specs.PluginRule.{PluginRule}
use Rattle.chain_model.specs.Apply.{StageList}
use Rattle.chain_core.specs.declared.closed.Closed.{Closed}
use Rattle.chain_core.specs.declared.core_plan.CorePlan.{CorePlan}
use Rattle.chain_core.specs.Close.{closed_of}
use Rattle.chain_core.specs.Numbers.{written_of}
use Rattle.chain_core.specs.Machine.{ChainState, StageState, Visit, progress_of_stages}
use Rattle.chain_core.specs.ChainRun.{ChainRun, state_after}
use Rattle.chain_core.specs.Keeps.{AllKeep}
use Rattle.stage_run.specs.Seeing.{Seeing}
use Rattle.stage_run.specs.declared.stage_part.StagePart.{StagePart}
use Rattle.stage_run.specs.PartLists.{PartLists}
use Rattle.stage_run.specs.PartStands.{PartGives}
use Rattle.stage_run.specs.Parts.{IsListOf}
use Rattle.chain_run.specs.Runs.{RunStart}
use Rattle.chain_run.specs.OneStage.{SoFarUpTo, Doing, StandsIn}
use Rattle.chain_run.specs.Ran.{Ran, HasClosed}
use Rattle.window_ring.specs.declared.stage_seat.StageSeat.{StageSeat}
use Rattle.window_ring.specs.Views.{Since}
use Rattle.window_ring.specs.Seats.{seen_of}
use Rattle.window_ring.specs.Closing.{IsWhole, ClosedOf}
use Rattle.window_ring.specs.OneRun.{HasKept}
use Rattle.chain_threads.specs.Standing.{key_at, Over}
use Rattle.chain_threads.specs.Over.{EndsAt, AllHaveEnded}
use Rattle.chain_run.specs.StageLaws.{Premise, premise}
use Rattle.chain_run.specs.StageLaws.Premise.{HeldSoFar, GivenBy}
use Rattle.chain_threads.specs.RunLaws.{RunLaws}
use Rattle.chain_threads.proofs.Numbers.{earlier_run, given-taken, taken-given}
use Rattle.chain_threads.proofs.TurnLemmas.{grows_over, more_over}

-- a number of a stage, whatever number is given
abbrev clamp : ℕ → ℕ → ℕ
clamp most k = if nat_le k most then k else most

clamp-le : (most k : ℕ) → clamp most k ≤ most
clamp-le most k =
    elim (cases_lt most k) [
      | inl lt ↦ subst (λ n. n ≤ most) (sym (cond-false (nat_le k most) k most (lt-leb k most lt))) (omega arith)
      | inr le ↦ subst (λ n. n ≤ most) (sym (cond-true (nat_le k most) k most (le-leb k most le))) le
    ]

clamp-same : (most k : ℕ) → k ≤ most → clamp most k ≡ k
clamp-same most k le = cond-true (nat_le k most) k most (le-leb k most le)

-- a member of a list is the same whatever stands for no member
any-default : {X : Type 0} (xs : List X) (k : ℕ) (d e : X) → k < length xs → slice_index_or xs k d ≡ slice_index_or xs k e
any-default [] k d e lt = absurd (omega arith)
any-default (x ∷ xs) zero d e lt = refl
any-default (x ∷ xs) (suc k) d e lt = any-default xs k d e (omega arith)

-- a member of a list that has some
some-of : {X : Type 0} (xs : List X) → 0 < length xs → X
some-of [] lt = absurd (omega arith)
some-of (x ∷ xs) lt = x

module _ {S K P : Type 0} (see : Seeing S K P) (begun : RunStart S K) (base : Bases) (table : TableId) (seats : List StageSeat) (parts : List (StagePart S K P)) (are : AllHaveEnded see begun base table seats parts) where
  abbrev plan : CorePlan
  plan = begun.plan

  -- the ring can be closed
  pub whole : IsWhole (key_at begun base) table seats
  whole = record {
    valid = are.run.valid;
    all = (let a = are.seats_are in omega arith);
    seats_are = λ k d lt. let o = are.over k d (some-of parts (let b = are.parts_are in omega arith)) (let a = are.seats_are in omega arith) in
        record { stage = o.stage; seat_is = o.over.seat_is; ended = subst (λ i. IsSome ((state_after plan (seen_of (slice_index_or seats k d))).stages i).ended) o.stage o.over.over.ended };
  }

  module _ (laws : RunLaws see)
      (one : (plan : CorePlan) (rules : List PluginRule) (input : StageList) (history : List Visit) → ((k : ℕ) → k ≤ suc plan.plugins → HasKept plan rules input k history) → ChainRun plan history → AllKeep plan rules input history)
      (seat0 : StageSeat) (part0 : StagePart S K P) (history : List Visit) (run : ChainRun begun.plan history)
      (since : (k : ℕ) (d : StageSeat) → k ≤ suc begun.plan.plugins → Since k (seen_of (slice_index_or seats k d)) history) where
    abbrev s : ChainState
    s = state_after plan history

    abbrev part : ℕ → StagePart S K P
    part k = slice_index_or parts k part0

    abbrev seen : ℕ → List Visit
    seen k = seen_of (slice_index_or seats k seat0)

    module _ (k : ℕ) (le : k ≤ suc plan.plugins) where
      at : EndsAt see begun base table k (slice_index_or seats k seat0) (part k)
      at = are.over k seat0 part0 le

      abbrev own : Over see begun k (seen k) (part k)
      own = subst (λ i. Over see begun i (seen k) (part k)) at.stage at.over.over

      later : List Visit
      later = (since k seat0 le).0

      is-later : history ≡ later ++ seen k
      unfolding later
      is-later = (since k seat0 le).2

      run-later : ChainRun plan (later ++ seen k)
      run-later = subst (ChainRun plan) is-later run

      same_k : s.stages k ≡ (state_after plan (seen k)).stages k
      unfolding later
      same_k = ap (λ (l : List Visit). (state_after plan l).stages k) is-later ∙ laws.seats.stays plan k later (seen k) are.run.valid.users (since k seat0 le).1

      pub ended : IsSome (s.stages k).ended
      ended = subst (λ (z : StageState). IsSome z.ended) (sym same_k) own.ended

      -- what it stands for, in words of the one run
      now : (known : Premise S K P) → ((input : StageList) → premise see begun known input → SoFarUpTo plan begun.rules (seen k) input) → StandsIn see begun (part k) k own.lists s (premise see begun known)
      now known less =
          let old : ChainState = state_after plan (seen k) in
          subst (λ (z : StageState). Doing see begun (part k) k own.lists z.given z.ended (written_of plan (progress_of_stages s)) z.taken (λ j. (s.stages j).given) (premise see begun known)) (sym same_k)
          (laws.stages.more begun (part k) k own.lists (old.stages k).given (old.stages k).ended (written_of plan (progress_of_stages old)) (written_of plan (progress_of_stages s)) (old.stages k).taken (old.stages k).taken
          (λ j. (old.stages j).given) (λ j. (s.stages j).given) (HeldSoFar (seen k)) known
          (subst (λ (l : List Visit). written_of plan (progress_of_stages old) ≤ written_of plan (progress_of_stages (state_after plan l))) (sym is-later) (grows_over laws.machine plan are.run.valid.users later (seen k) run-later))
          (omega arith)
          (λ j e. let m = more_over laws.machine plan are.run.valid.users later (seen k) run-later j in (
            m.0,
            ap (λ (l : List Visit). ((state_after plan l).stages j).given) is-later ∙ m.1,
            (let r = earlier_run plan later (seen k) run-later in let a = given-taken laws.machine plan are.run.valid.users (seen k) r k in let b = subst (λ i. (old.stages i).taken ≤ length (old.stages j).given) e (taken-given laws.machine plan are.run.valid.users (seen k) r j) in omega (arith, a, b)),
          ))
          less own.doing)

    -- the lists that each stage stands for, as a function of its number
    abbrev place : ℕ → ℕ
    place = clamp (suc plan.plugins)

    in_place : (k : ℕ) → place k ≤ suc plan.plugins
    in_place = clamp-le (suc plan.plugins)

    here : (k : ℕ) → k ≤ suc plan.plugins → place k ≡ k
    here = clamp-same (suc plan.plugins)

    its : (k : ℕ) → Over see begun (place k) (seen (place k)) (part (place k))
    its k = own (place k) (in_place k)

    lists : ℕ → PartLists
    lists k = (its k).lists

    abbrev Gives : StageList → Type 0
    Gives = PartGives see (part 0) (lists 0)

    stands : (k : ℕ) → k ≤ suc plan.plugins → (known : Premise S K P) → ((input : StageList) → premise see begun known input → SoFarUpTo plan begun.rules (seen (place k)) input) → StandsIn see begun (part k) k (lists k) s (premise see begun known)
    unfolding lists its
    stands k le known less = subst (λ i. StandsIn see begun (part i) i (lists k) s (premise see begun known)) (here k le) (now (place k) (in_place k) known less)

    is_list : (input : StageList) → Gives input → IsListOf see.source begun.from begun.stuffing input
    is_list input gives = ((stands 0 (omega arith) (HeldSoFar (seen (place 0))) (λ i x. x)).input refl).is_list input gives

    has-kept : (input : StageList) → Gives input → (k : ℕ) → k ≤ suc plan.plugins → HasKept plan begun.rules input k history
    unfolding lists later
    has-kept input gives k le =
        subst (λ i. HasKept plan begun.rules input i history) (here k le) (
          seen (place k),
          (later (place k) (in_place k), (since (place k) seat0 (in_place k)).1, is-later (place k) (in_place k)),
          (its k).kept input (λ first. let zero_is : 0 ≡ k = first ∙ here k le in
              subst (λ i. PartGives see (part (place i)) (lists i) input) zero_is (subst (λ i. PartGives see (part i) (lists 0) input) (sym (here 0 (omega arith))) gives)),
        )

    kept : (input : StageList) → Gives input → AllKeep plan begun.rules input history
    kept input gives = one plan begun.rules input history (has-kept input gives) run

    -- the chain theorem holds of what each stage has seen
    so-far : (k : ℕ) (le : k ≤ suc plan.plugins) (input : StageList) → Gives input → SoFarUpTo plan begun.rules (seen k) input
    so-far k le input gives x q e =
        laws.stages.so_far begun input history are.run (is_list input gives) (kept input gives) run (later k le ++ x) q
        (is-later k le ∙ (ap (λ (l : List Visit). later k le ++ l) e ∙ sym (append_assoc (later k le) x q)))

    pub ran : Ran see begun parts
    ran = record {
      valid_run = are.run;
      stages_are = are.parts_are;
      visits = history;
      part = part;
      lists = lists;
      by = record {
        parts_are = λ k d le. any-default parts k d part0 (let a = are.parts_are in omega arith);
        run = run;
        kept = kept;
        stands = λ k le. stands k le (GivenBy (part 0) (lists 0)) (so-far (place k) (in_place k));
      };
    }

    pub has-closed : (closed : Closed) → closed ≡ closed_of plan (progress_of_stages s) → HasClosed see begun parts closed
    unfolding ran
    has-closed closed is = record { ran = ran; over = ended; closed_is = is }

  pub together : (laws : RunLaws see)
      (one : (plan : CorePlan) (rules : List PluginRule) (input : StageList) (history : List Visit) → ((k : ℕ) → k ≤ suc plan.plugins → HasKept plan rules input k history) → ChainRun plan history → AllKeep plan rules input history)
      (closed : Closed) → ClosedOf (key_at begun base) seats closed → HasClosed see begun parts closed
  together laws one closed is =
      has-closed laws one (some-of seats (let a = are.seats_are in omega arith)) (some-of parts (let a = are.parts_are in omega arith)) is.history is.run is.since closed is.closed_is
