-- The progress of the stages through a turn: what is left to do falls, or nothing has moved.
use Rattle.std.proofs.Common.{◌≡◌, ◌≢◌, ◌⊎◌, ℕ, zero, suc, ◌+◌, ◌-◌, ◌^◌, ◌<◌, ◌≤◌, Bool, true, false, List, [], length, Option, None, refl, ap, sym, ◌∙◌, subst, arith, inl, inr, append-nil, if◌then◌else◌}
use Rattle.std.specs.Prelude.{is_some}
use Rattle.std.proofs.lemmas.Bool.{cases_eq, cases_lt}
use Rattle.chain_core.specs.declared.core_plan.CorePlan.{CorePlan}
use Rattle.chain_core.specs.declared.progress.Progress.{Progress}
use Rattle.chain_core.specs.declared.stage_end.StageEnd.{StageEnd}
use Rattle.chain_core.specs.Numbers.{StagesProgress, UsersArePlugins, reach_of, takes_of}
use Rattle.chain_core.specs.Machine.{ChainState, StageState, Visit, progress_of_stages, visit_of, visited}
use Rattle.chain_core.specs.ChainRun.{ChainRun, state_after, AllEnded}
use Rattle.chain_core.specs.CoreNumbers.{CoreNumbers, IsValidPlan, StandsFor, progress_of_core}
use Rattle.chain_core.specs.Laws.{IsQuiet}
use Rattle.chain_core.proofs.Stepping.{visited-same, visited-other}
use Rattle.chain_run.specs.Runs.{nothing_told}
use Rattle.chain_run.specs.SerialRuns.{still_of, remaining_work, IsIdleOrOver}
use Rattle.chain_run.proofs.TurnLemmas.{quiet-mark, quiet-agreed}

-- the progress when a stage took of what waits, gave nothing and reported nothing
abbrev taking_progress : CorePlan → StagesProgress → ℕ → Progress
taking_progress plan progress k = record {
  given = (progress k).given;
  taken = (progress k).taken + takes_of plan progress k;
  agreed = (progress k).agreed;
  ended = (progress k).ended;
}

pub record TakesAlone (plan : CorePlan) (old new : StagesProgress) (k : ℕ) : Type 0 where
  pub others : (j : ℕ) → j ≢ k → new j ≡ old j
  pub here : new k ≡ taking_progress plan old k

-- the progress as one function
pub as-progress : (core : CoreNumbers) (state : ChainState) → StandsFor core state → progress_of_core core ≡ progress_of_stages state
as-progress core state stands = λ i j. stands.progress j i

pub takes-alone : (plan : CorePlan) (core new : CoreNumbers) (state : ChainState) (k : ℕ) → StandsFor core state → StandsFor new (visited plan state (visit_of k [] nothing_told)) → (state.stages k).ended ≡ None → TakesAlone plan (progress_of_core core) (progress_of_core new) k
takes-alone plan core new state k stands stands_new open_ = record {
  others = λ j apart. stands_new.progress j ∙ (ap (λ (s : StageState). record { given = length s.given; taken = s.taken; agreed = s.agreed; ended = s.ended }) (visited-other plan state (visit_of k [] nothing_told) j apart) ∙ sym (stands.progress j));
  here = stands_new.progress k ∙ (here-state ∙ sym (ap (λ (progress : StagesProgress). taking_progress plan progress k) (as-progress core state stands)));
}
  where
    here-state : progress_of_stages (visited plan state (visit_of k [] nothing_told)) k ≡ taking_progress plan (progress_of_stages state) k
    here-state =
        ap (λ (s : StageState). record { given = length s.given; taken = s.taken; agreed = s.agreed; ended = s.ended }) (visited-same plan state (visit_of k [] nothing_told))
        ∙ (λ i. record {
          given = length (append-nil (state.stages k).given i);
          taken = (state.stages k).taken + takes_of plan (λ j. quiet-mark plan state k open_ j i) k;
          agreed = quiet-agreed plan state k open_ (state.stages k).agreed i;
          ended = sym open_ i;
        })

taken-same : (mark : Progress) (n : ℕ) → n ≡ 0 → record { given = mark.given; taken = mark.taken + n; agreed = mark.agreed; ended = mark.ended } ≡ mark
taken-same mark n e =
    let same : mark.taken + n ≡ mark.taken = omega arith in
    λ i. record { given = mark.given; taken = same i; agreed = mark.agreed; ended = mark.ended }

-- where a stage took nothing, all progress are as they were
pub same-progress : (plan : CorePlan) (old new : StagesProgress) (k : ℕ) → TakesAlone plan old new k → takes_of plan old k ≡ 0 → new ≡ old
same-progress plan old new k took none = λ i j. same j i
  where
    same : (j : ℕ) → new j ≡ old j
    same j =
        elim (cases_eq j k) [
          | inl here ↦ subst (λ n. new n ≡ old n) (sym here) (took.here ∙ taken-same (old k) (takes_of plan old k) none)
          | inr apart ↦ took.others j apart
        ]

-- nothing waits for a stage whose hands are empty after it took
module _ (plan : CorePlan) (old new : StagesProgress) (k : ℕ) (took : TakesAlone plan old new k) (held : (old k).given ≤ (old k).taken) (empty : (new k).taken ≤ (new k).given) where
  pub takes-none : takes_of plan old k ≡ 0
  takes-none =
      let a : (new k).taken ≡ (old k).taken + takes_of plan old k = ap (λ (m : Progress). m.taken) took.here in
      let b : (new k).given ≡ (old k).given = ap (λ (m : Progress). m.given) took.here in
      omega arith

  pub none-waits : 1 ≤ plan.most → reach_of plan old k ≤ (old k).taken
  none-waits some = let a = takes-none in omega arith

-- ---- what is left to do

pub still-same : (old new : StagesProgress) (n : ℕ) → ((j : ℕ) → still_of (new j) ≡ still_of (old j)) → remaining_work new n ≡ remaining_work old n
still-same old new zero same = refl
still-same old new (suc n) same = omega (arith, still-same old new n same, same n)

still-before : (old new : StagesProgress) (k n : ℕ) → n ≤ k → ((j : ℕ) → j ≢ k → still_of (new j) ≡ still_of (old j)) → remaining_work new n ≡ remaining_work old n
still-before old new k zero le same = refl
still-before old new k (suc n) le same = omega (arith, still-before old new k n (omega arith) same, same n (λ e. absurd (omega (arith, e))))

pub still-falls : (old new : StagesProgress) (k n : ℕ) → k < n → ((j : ℕ) → j ≢ k → still_of (new j) ≡ still_of (old j)) → still_of (new k) < still_of (old k) → remaining_work new n < remaining_work old n
still-falls old new k zero lt same less = absurd (omega arith)
still-falls old new k (suc n) lt same less =
    elim (cases_eq k n) [
      | inl here ↦ (let a = still-before old new k n (omega arith) same in let b : still_of (new n) < still_of (old n) = subst (λ i. still_of (new i) < still_of (old i)) here less in omega arith)
      | inr apart ↦ (let a = still-falls old new k n (lower k n lt apart) same less in let b = same n (λ e. apart (sym e)) in omega arith)
    ]
  where
    lower : (k n : ℕ) → k < suc n → k ≢ n → k < n
    lower k n lt' apart =
        elim (cases_lt k n) [
          | inl fine ↦ fine
          | inr far ↦ absurd (apart (omega arith))
        ]

pub still-less : (mark new : Progress) (done : ℕ) → mark.ended ≡ None → new.given ≡ mark.given + done → mark.given + done ≤ 2 ^ 60 → (0 < done) ⊎ (is_some new.ended ≡ true) → still_of new < still_of mark
still-less mark new done open_ given within moved =
    let a : still_of mark ≡ (2 ^ 60 - mark.given) + 1 = ap (λ (o : Option StageEnd). (2 ^ 60 - mark.given) + (if is_some o then 0 else 1)) open_ in
    elim moved [
      | inl some ↦ (let b : still_of new ≤ (2 ^ 60 - new.given) + 1 = at-most-one new (is_some new.ended) in omega arith)
      | inr over ↦ (let b : still_of new ≡ (2 ^ 60 - new.given) + 0 = ap (λ (b : Bool). (2 ^ 60 - new.given) + (if b then 0 else 1)) over in omega arith)
    ]
  where
    at-most-one : (m : Progress) (b : Bool) → (2 ^ 60 - m.given) + (if b then 0 else 1) ≤ (2 ^ 60 - m.given) + 1
    at-most-one m true = omega arith
    at-most-one m false = omega arith

-- ---- the turns of all stages

-- what the turns of the stages below a number have come to
pub record Turned (plan : CorePlan) (start new : StagesProgress) (n stage : ℕ) (moved : Bool) : Type 0 where
  pub moves : moved ≡ true → remaining_work new n < remaining_work start n
  pub rests : moved ≡ false → new ≡ start
  pub idle : moved ≡ false → (j : ℕ) → j < stage → IsIdleOrOver plan start j

pub one-more : (plan : CorePlan) (start old new : StagesProgress) (n stage : ℕ) (was turn now : Bool) → ((turn ≡ true) × (now ≡ true)) ⊎ ((turn ≡ false) × (now ≡ was)) → Turned plan start old n stage was
    → (turn ≡ true → remaining_work new n < remaining_work old n) → (turn ≡ false → new ≡ old) → (turn ≡ false → IsIdleOrOver plan new stage)
    → Turned plan start new n (stage + 1) now
one-more plan start old new n stage was turn now (inl moved) before less same idle = record {
  moves = λ e. (let a = less moved.0 in let b = at-most was before in omega arith);
  rests = λ e. (let f : true ≡ false = sym moved.1 ∙ e in cc);
  idle = λ e. (let f : true ≡ false = sym moved.1 ∙ e in cc);
}
  where
    at-most : (b : Bool) → Turned plan start old n stage b → remaining_work old n ≤ remaining_work start n
    at-most true t = let a = t.moves refl in omega arith
    at-most false t = let a : remaining_work old n ≡ remaining_work start n = ap (λ (m : StagesProgress). remaining_work m n) (t.rests refl) in omega arith
one-more plan start old new n stage was turn now (inr rested) before less same idle = record {
  moves = λ e. (let a = before.moves (sym rested.1 ∙ e) in let b : remaining_work new n ≡ remaining_work old n = ap (λ (m : StagesProgress). remaining_work m n) (same rested.0) in omega arith);
  rests = λ e. same rested.0 ∙ before.rests (sym rested.1 ∙ e);
  idle = λ e j lt. elim (cases_lt j stage) [
    | inl below ↦ before.idle (sym rested.1 ∙ e) j below
    | inr here ↦ (let at : stage ≡ j = omega arith in subst (λ i. IsIdleOrOver plan start i) at (subst (λ (m : StagesProgress). IsIdleOrOver plan m stage) (same rested.0 ∙ before.rests (sym rested.1 ∙ e)) (idle rested.0)))
  ];
}

-- where every stage is idle or over, all are over
pub over-of : (plan : CorePlan) (core : CoreNumbers) (visits : List Visit) → core.plan ≡ plan → IsValidPlan plan → ChainRun plan visits → StandsFor core (state_after plan visits)
    → ((plan : CorePlan) (visits : List Visit) → UsersArePlugins plan → 1 ≤ plan.buffer → ChainRun plan visits → IsQuiet plan (state_after plan visits) → AllEnded plan (progress_of_stages (state_after plan visits)))
    → ((k : ℕ) → k ≤ suc plan.plugins → IsIdleOrOver plan (progress_of_core core) k) → AllEnded core.plan (progress_of_core core)
over-of plan core visits plan_is valid run stands law idle =
    let state : ChainState = state_after plan visits in
    let idle-state : (k : ℕ) → k ≤ suc plan.plugins → IsIdleOrOver plan (progress_of_stages state) k =
    subst (λ (m : StagesProgress). (k : ℕ) → k ≤ suc plan.plugins → IsIdleOrOver plan m k) (as-progress core state stands) idle in
    let quiet : IsQuiet plan state = record {
      took_all = λ k le open_. (idle-state k le open_).took_all;
      gave_all = λ k le open_. (idle-state k le open_).gave_all;
      not_following = λ k le open_. (idle-state k le open_).not_following;
      input_below = λ open_. (idle-state 0 (omega arith) open_).input_below refl;
    } in
    subst (λ (p : CorePlan). AllEnded p (progress_of_core core)) (sym plan_is)
    (subst (λ (m : StagesProgress). AllEnded plan m) (sym (as-progress core state stands)) (law plan visits valid.users valid.some_buffer run quiet))
