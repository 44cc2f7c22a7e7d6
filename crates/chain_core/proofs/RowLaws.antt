-- Rows of endings, a stage more.
use Rattle.std.proofs.Common.{◌≡◌, ℕ, zero, suc, ◌+◌, List, [], ◌∷◌, ◌++◌, Option, Some, None, refl, ap, sym, ◌∙◌, add-one, length, arith}
use Rattle.std.specs.Prelude.{find, unwrap_or, option_to_list}
use Rattle.std.specs.Option.{option_or}
use Rattle.std.specs.List.{last_or}
use Rattle.chain_model.specs.declared.cause.Cause.{Cause}
use Rattle.chain_model.specs.Cut.{Ending, is_until, causes_at, cause_among}
use Rattle.chain_core.specs.declared.closed.Closed.{Closed}
use Rattle.chain_core.specs.declared.core_plan.CorePlan.{CorePlan}
use Rattle.chain_core.specs.declared.progress.Progress.{Progress}
use Rattle.chain_core.specs.Numbers.{StagesProgress, limit_of}
use Rattle.chain_core.specs.Close.{lesser_if, least_among, ending_of_progress, told_endings, closed_of}
use Rattle.chain_core.specs.CoreNumbers.{progress_in, endings_before}
use Rattle.chain_core.proofs.Endings.{until_at, last_at, causes_at-append, find-append, last_or-append}

before-more : (progress : StagesProgress) (n : ℕ) → endings_before progress (n + 1) ≡ endings_before progress n ++ ending_of_progress n (progress n)
before-more progress n = ap (endings_before progress) (add-one n)

least-append : (least : Option ℕ) (xs ys : List Ending) → least_among least (xs ++ ys) ≡ least_among (least_among least xs) ys
least-append least [] ys = refl
least-append least (x ∷ xs) ys = least-append (Some (lesser_if least x.at)) xs ys

pub least-more : (progress : StagesProgress) (n : ℕ) (limit least : Option ℕ) → least ≡ least_among limit (endings_before progress n) → least_among least (ending_of_progress n (progress n)) ≡ least_among limit (endings_before progress (n + 1))
least-more progress n limit least is =
    ap (λ (o : Option ℕ). least_among o (ending_of_progress n (progress n))) is
    ∙ (sym (least-append limit (endings_before progress n) (ending_of_progress n (progress n))) ∙ ap (least_among limit) (sym (before-more progress n)))

pub until-more : (progress : StagesProgress) (cut n : ℕ) (until : Option Cause) → until ≡ until_at cut (endings_before progress n) → option_or until (until_at cut (ending_of_progress n (progress n))) ≡ until_at cut (endings_before progress (n + 1))
until-more progress cut n until is =
    ap (λ (o : Option Cause). option_or o (until_at cut (ending_of_progress n (progress n)))) is
    ∙ (sym (ap (find is_until) (causes_at-append cut (endings_before progress n) (ending_of_progress n (progress n))) ∙ find-append is_until (causes_at cut (endings_before progress n)) (causes_at cut (ending_of_progress n (progress n))))
    ∙ ap (until_at cut) (sym (before-more progress n)))

last-one : (here last : Option Cause) → option_or here last ≡ last_or last (option_to_list here)
last-one None last = refl
last-one (Some x) last = refl

pub last-more : (progress : StagesProgress) (cut n : ℕ) (here last : Option Cause) → option_to_list here ≡ causes_at cut (ending_of_progress n (progress n)) → last ≡ last_at cut (endings_before progress n) → option_or here last ≡ last_at cut (endings_before progress (n + 1))
last-more progress cut n here last is was =
    last-one here last ∙ (ap (λ (causes : List Cause). last_or last causes) is
    ∙ (ap (λ (o : Option Cause). last_or o (causes_at cut (ending_of_progress n (progress n)))) was
    ∙ (sym (ap (λ (causes : List Cause). last_or None causes) (causes_at-append cut (endings_before progress n) (ending_of_progress n (progress n))) ∙ last_or-append None (causes_at cut (endings_before progress n)) (causes_at cut (ending_of_progress n (progress n))))
    ∙ ap (last_at cut) (sym (before-more progress n)))))

told-before : (progress : StagesProgress) (n : ℕ) → endings_before progress (suc n) ≡ told_endings progress n
told-before progress zero = refl
told-before progress (suc j) =
    ap (λ (row : List Ending). row ++ ending_of_progress (suc j) (progress (suc j))) (told-before progress j)

-- the close by the loops is the close of the progress
pub closed-is : (plan : CorePlan) (progress : List Progress) (limit : Option ℕ) (cut : ℕ) (why : Cause) → length progress ≡ plan.plugins + 2 → limit ≡ limit_of plan (progress_in progress) → cut ≡ unwrap_or (least_among limit (endings_before (progress_in progress) (length progress))) 0 → why ≡ cause_among cut limit (endings_before (progress_in progress) (length progress)) → ◌≡◌ {A = Closed} (record { cut = cut; cause = why }) (closed_of plan (progress_in progress))
closed-is plan progress limit cut why size is_limit is_cut is_why =
    let rows : endings_before (progress_in progress) (length progress) ≡ told_endings (progress_in progress) (suc plan.plugins) = ap (endings_before (progress_in progress)) (size ∙ (let e : plan.plugins + 2 ≡ suc (suc plan.plugins) = omega arith in e)) ∙ told-before (progress_in progress) (suc plan.plugins) in
    let cut' : cut ≡ unwrap_or (least_among (limit_of plan (progress_in progress)) (told_endings (progress_in progress) (suc plan.plugins))) 0 = is_cut ∙ (λ i. unwrap_or (least_among (is_limit i) (rows i)) 0) in
    let why' : why ≡ cause_among (unwrap_or (least_among (limit_of plan (progress_in progress)) (told_endings (progress_in progress) (suc plan.plugins))) 0) (limit_of plan (progress_in progress)) (told_endings (progress_in progress) (suc plan.plugins)) = is_why ∙ (λ i. cause_among (cut' i) (is_limit i) (rows i)) in
    λ i. record { cut = cut' i; cause = why' i }
