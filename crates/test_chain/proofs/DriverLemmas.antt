-- Lemmas on what the core receives by a visit.
use Rattle.std.proofs.Common.{◌≡◌, ◌≢◌, ℕ, suc, ◌+◌, List, length, replicate, Option, inl, inr, sym, refl, ap, ◌∙◌, arith}
use Rattle.std.proofs.lemmas.Bool.{cases_eq}
use Rattle.std.proofs.lemmas.List.{length-replicate}
use Rattle.ts_packet.specs.declared.cell.Cell.{Cell}
use Rattle.ts_packet.specs.Cells.{Dropped}
use Rattle.chain_core.specs.declared.core_plan.CorePlan.{CorePlan}
use Rattle.chain_core.specs.declared.progress.Progress.{Progress}
use Rattle.chain_core.specs.declared.news.News.{News}
use Rattle.chain_core.specs.declared.stage_word.StageWord.{StageWord}
use Rattle.chain_core.specs.Numbers.{limit_of, news_of}
use Rattle.chain_core.specs.Machine.{ChainState, StageState, Visit, visit_of, visited}
use Rattle.chain_core.specs.Laws.{ChangesOneStage}
use Rattle.chain_core.specs.CoreNumbers.{CoreNumbers, StandsFor, progress_of_core}
use Rattle.chain_core.proofs.CoreLaws.{stands-progress}

-- a stage with these numbers
abbrev stage_of : Progress → StageState
stage_of p = record { given = replicate p.given Dropped; taken = p.taken; agreed = p.agreed; ended = p.ended }

-- a state for which the core stands
abbrev pub state_of : CoreNumbers → ChainState
state_of core = record { stages = λ k. stage_of (progress_of_core core k); told = core.told }

-- a number of cells
abbrev pub cells_of : ℕ → List Cell
cells_of n = replicate n Dropped

same_numbers : (p : Progress) → p ≡ record { given = length (replicate p.given Dropped); taken = p.taken; agreed = p.agreed; ended = p.ended }
same_numbers p = ap (λ n. record { given = n; taken = p.taken; agreed = p.agreed; ended = p.ended }) (sym (length-replicate p.given Dropped))

pub stands_first : (core : CoreNumbers) → StandsFor core (state_of core)
stands_first core = record { progress = λ k. same_numbers (progress_of_core core k); told = refl }

module _ (changes : (plan : CorePlan) (state : ChainState) (visit : Visit) → ChangesOneStage plan state (visited plan state visit) visit) (old new : CoreNumbers) (stage done : ℕ) (word : StageWord) (news : News)
    (after : (state : ChainState) (cells : List Cell) → length cells ≡ done → StandsFor old state → StandsFor new (visited old.plan state (visit_of stage cells word))) (numbers : news ≡ news_of old.plan (progress_of_core new) stage) where
  abbrev visit : Visit
  visit = visit_of stage (cells_of done) word

  abbrev next : ChainState
  next = visited old.plan (state_of old) visit

  stands : StandsFor new next
  stands = after (state_of old) (cells_of done) (length-replicate done Dropped) (stands_first old)

  pub limit_now : limit_of old.plan (progress_of_core new) ≡ news.limit
  limit_now = sym (ap (λ (n : News). n.limit) numbers)

  pub told_output : stage ≡ suc old.plan.plugins → new.told ≡ news.limit
  told_output is = stands.told ∙ (changes old.plan (state_of old) visit).told is ∙ sym (ap (λ f. limit_of old.plan f) (stands-progress new next stands)) ∙ limit_now

  pub told_other : stage ≢ suc old.plan.plugins → new.told ≡ old.told
  told_other is = stands.told ∙ (changes old.plan (state_of old) visit).not_told is

  -- the limit that the output received last, by the cases of the stage
  pub told_is : (plugins : ℕ) (before result : Option ℕ) → plugins ≡ old.plan.plugins → old.told ≡ before → (stage ≡ plugins + 1 → result ≡ news.limit) → (stage ≢ plugins + 1 → result ≡ before) → new.told ≡ result
  told_is plugins before result same was output other =
      elim (cases_eq stage (plugins + 1)) [
        | inl is ↦ told_output (omega (arith, is, same)) ∙ sym (output is)
        | inr apart ↦ told_other (λ e. apart (omega (arith, e, same))) ∙ was ∙ sym (other apart)
      ]
