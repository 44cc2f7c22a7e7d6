-- One visit more: what its stage stands for then, and that all other stages stand for what they stood for.
use Rattle.std.proofs.Common.{◌≡◌, ◌≢◌, ℕ, suc, ◌<◌, ◌≤◌, ◌==◌, if◌then◌else◌, List, [], ◌∷◌, ◌++◌, length, take, drop, Option, None, ap, sym, ◌∙◌, subst, arith, inl, inr, le_trans}
use Rattle.std.specs.Prelude.{slice_index_or, slice_set}
use Rattle.std.proofs.lemmas.Bool.{cases_eq, cond-true, cond-false, eq-eqb, ne_eqb}
use Rattle.std.proofs.lemmas.List.{get_or-set_same, get_or-set_other, take-append-le}
use Rattle.std.proofs.Math.Seq.{drop-append-le}
use Rattle.ts_packet.specs.declared.cell.Cell.{Cell}
use Rattle.ts_packet.specs.Cells.{Live, Dropped}
use Rattle.chain_model.specs.Apply.{StageList}
use Rattle.chain_core.specs.declared.stage_end.StageEnd.{StageEnd}
use Rattle.chain_core.specs.declared.stage_word.StageWord.{StageWord}
use Rattle.chain_core.specs.Numbers.{written_of}
use Rattle.chain_core.specs.Machine.{ChainState, StageState, Visit, progress_of_stages, visit_of, Allowed}
use Rattle.chain_core.specs.ChainRun.{ChainRun, state_after}
use Rattle.chain_core.specs.CoreNumbers.{CoreNumbers, IsValidPlan, StandsFor}
use Rattle.chain_core.specs.Keeps.{Keeps}
use Rattle.stage_run.specs.Seeing.{Seeing}
use Rattle.stage_run.specs.declared.stage_part.StagePart.{StagePart}
use Rattle.stage_run.specs.PartLists.{PartLists}
use Rattle.stage_run.specs.PartStands.{PartGives}
use Rattle.chain_model.specs.Written.{IsPartOfFirst}
use Rattle.chain_model.specs.InputRead.{MayRead}
use Rattle.chain_run.specs.Slots.{slot, HoldsFrom}
use Rattle.chain_run.specs.Runs.{nothing_told, between, RunStart}
use Rattle.chain_run.specs.OneStage.{Doing, StandsIn}
use Rattle.chain_run.specs.SerialRuns.{RunsBy}
use Rattle.chain_run.specs.Laws.{MachineLaws}
use Rattle.chain_run.proofs.NumberLaws.{given-falls, stage-other, written-grows, given-more}

-- ---- functions that are changed at one place

abbrev pub set_at : {X : Type 0} → (ℕ → X) → ℕ → X → ℕ → X
set_at f k x j = if j == k then x else f j

pub set_at-same : {X : Type 0} (f : ℕ → X) (k : ℕ) (x : X) (j : ℕ) → j ≡ k → set_at f k x j ≡ x
set_at-same f k x j e = cond-true (j == k) x (f j) (eq-eqb j k e)

pub set_at-other : {X : Type 0} (f : ℕ → X) (k : ℕ) (x : X) (j : ℕ) → j ≢ k → set_at f k x j ≡ f j
set_at-other f k x j apart = cond-false (j == k) x (f j) (ne_eqb j k apart)

-- what holds of the new values at that place, and of the old ones elsewhere
pub pick : {X Y : Type 0} (Q : X → Y → Type 0) (f : ℕ → X) (g : ℕ → Y) (k : ℕ) (x : X) (y : Y) (j : ℕ) → (j ≡ k → Q x y) → (j ≢ k → Q (f j) (g j)) → Q (set_at f k x j) (set_at g k y j)
pick Q f g k x y j here there =
    elim (cases_eq j k) [
      | inl same ↦ subst (λ a. Q a (set_at g k y j)) (sym (set_at-same f k x j same)) (subst (λ b. Q x b) (sym (set_at-same g k y j same)) (here same))
      | inr apart ↦ subst (λ a. Q a (set_at g k y j)) (sym (set_at-other f k x j apart)) (subst (λ b. Q (f j) b) (sym (set_at-other g k y j apart)) (there apart))
    ]

-- ---- small facts

pub may_read-more : (buffer cut more bytes : ℕ) → cut ≤ more → MayRead buffer cut bytes → MayRead buffer more bytes
may_read-more buffer cut more bytes le (inl few) = inl (omega arith)
may_read-more buffer cut more bytes le (inr far) = inr (let a = far.0 in omega arith, far.1)

pub part-more : (xs ys : List Cell) (cut : List ℕ) → IsPartOfFirst xs cut → IsPartOfFirst (xs ++ ys) cut
part-more [] ys cut is = absurd is
part-more (Dropped ∷ xs) ys cut is = absurd is
part-more (Live packet labels ∷ xs) ys cut is = is

module _ {S K P : Type 0} (see : Seeing S K P) (begun : RunStart S K) where
  -- what a stage stands for is not changed by what the others do
  pub doing-more : (part : StagePart S K P) (k : ℕ) (lists : PartLists) (given : List Cell) (ended : Option StageEnd) (low low' taken taken' : ℕ) (before before' : ℕ → List Cell) (Gives Gives' : StageList → Type 0)
      → low ≤ low' → taken ≤ taken' → ((j : ℕ) → suc j ≡ k → (more : List Cell) × (before' j ≡ before j ++ more) × (length given ≤ length (before j))) → ((input : StageList) → Gives' input → Gives input)
      → Doing see begun part k lists given ended low taken before Gives → Doing see begun part k lists given ended low' taken' before' Gives'
  doing-more part k lists given ended low low' taken taken' before before' Gives Gives' le le' grown less d =
      let met_more : (j : ℕ) → suc j ≡ k → lists.met ≡ take (length given) (before j) → lists.met ≡ take (length given) (before' j) = λ j e met.
      let g = grown j e in met ∙ sym (ap (take (length given)) g.1 ∙ take-append-le (length given) (before j) g.0 g.2) in
      record {
        stands_for = d.stands_for;
        given_is = d.given_is;
        mark = le_trans d.mark le;
        memory = d.memory;
        input = λ e. let i = d.input e in record { kind = i.kind; stuffing_is = i.stuffing_is; stream = i.stream; source = i.source; within = may_read-more begun.plan.buffer low low' (length lists.read) le i.within; is_list = i.is_list };
        plugin = λ j e lt. let p = d.plugin j e lt in record { kind = p.kind; rule_is = p.rule_is; room_is = p.room_is; met = met_more j e p.met; since = p.since };
        output = λ e. let o = d.output e in record {
          kind = o.kind;
          stream = o.stream;
          met = met_more begun.plan.plugins e o.met;
          sink = o.sink;
          failed = λ is. let f = o.failed is in let g = grown begun.plan.plugins e in record {
            few = (let a = f.few in omega (arith, a, le'));
            part = subst (λ (l : List Cell). IsPartOfFirst l lists.cut) (sym (ap (drop (length given)) g.1 ∙ drop-append-le (length given) (before begun.plan.plugins) g.0 g.2)) (part-more (drop (length given) (before begun.plan.plugins)) g.0 lists.cut f.part);
            late = λ input gives. f.late input (less input gives);
          };
        };
      }

  -- ---- a visit

  module _ (laws : MachineLaws) (valid : IsValidPlan begun.plan) (core new_core : CoreNumbers) (parts : List (StagePart S K P)) (cells new_cells : List Cell) (visits : List Visit) (part : ℕ → StagePart S K P) (lists : ℕ → PartLists)
      (by : RunsBy see begun core parts cells visits part lists)
      (k : ℕ) (given : List Cell) (word : StageWord) (is_stage : k ≤ suc begun.plan.plugins)
      (allowed : Allowed begun.plan (state_after begun.plan visits) (visit_of k given word))
      (new_part : StagePart S K P) (after : PartLists) where
    abbrev pub old : ChainState
    old = state_after begun.plan visits

    abbrev pub new : ChainState
    new = state_after begun.plan (visit_of k given word ∷ visits)

    abbrev pub run : ChainRun begun.plan (visit_of k given word ∷ visits)
    run = (by.ran.run, allowed)

    abbrev pub Gives : StageList → Type 0
    Gives input = PartGives see (set_at part k new_part 0) (set_at lists k after 0) input

    -- what the visited stage stands for now
    pub record Own : Type 0 where
      pub less : 0 ≡ k → (input : StageList) → PartGives see new_part after input → PartGives see (part 0) (lists 0) input
      pub keeps : (input : StageList) → PartGives see (part 0) (lists 0) input → Gives input → Keeps begun.plan begun.rules input old (visit_of k given word)
      pub going : (input : StageList) → PartGives see (part 0) (lists 0) input → Gives input → (new.stages k).ended ≡ None → Keeps begun.plan begun.rules input new (visit_of k [] nothing_told)
      pub stands : StandsIn see begun new_part k after new Gives
      pub buffer : (j : ℕ) → j ≤ begun.plan.plugins → HoldsFrom (slot new_cells) (length (new.stages (suc j)).given) (between new j)

    module _ (numbers : StandsFor new_core new) (long : suc begun.plan.plugins < length parts) (own : Own) where
      less-all : (input : StageList) → Gives input → PartGives see (part 0) (lists 0) input
      less-all =
          pick (λ p l. (input : StageList) → PartGives see p l input → PartGives see (part 0) (lists 0) input) part lists k new_part after 0 own.less (λ apart input gives. gives)

      other : (j : ℕ) → j ≢ k → new.stages j ≡ old.stages j
      other = stage-other laws begun.plan valid.users visits (visit_of k given word) run

      grows : written_of begun.plan (progress_of_stages old) ≤ written_of begun.plan (progress_of_stages new)
      grows = written-grows laws begun.plan valid.users visits (visit_of k given word) run

      more : (j : ℕ) → (l : List Cell) × ((new.stages j).given ≡ (old.stages j).given ++ l)
      more = given-more laws begun.plan valid.users visits (visit_of k given word) run

      falls : (j : ℕ) → length (old.stages (suc j)).given ≤ length (old.stages j).given
      falls j = given-falls laws begun.plan valid.users visits by.ran.run (suc j) j (omega arith)

      going : (input : StageList) → Gives input → (j : ℕ) → (new.stages j).ended ≡ None → Keeps begun.plan begun.rules input new (visit_of j [] nothing_told)
      going input gives j ended =
          elim (cases_eq j k) [
            | inl same ↦ subst (λ i. Keeps begun.plan begun.rules input new (visit_of i [] nothing_told)) (sym same) (own.going input (less-all input gives) gives (subst (λ i. (new.stages i).ended ≡ None) same ended))
            | inr apart ↦ (laws.leaves begun.plan visits (visit_of k given word) valid.users run).keeps begun.rules input (visit_of j [] nothing_told) apart (by.going input (less-all input gives) j (ap (λ (s : StageState). s.ended) (sym (other j apart)) ∙ ended))
          ]

      -- a stage that was not visited stands for what it stood for
      others : (j : ℕ) → j ≤ suc begun.plan.plugins → j ≢ k → StandsIn see begun (part j) j (lists j) new Gives
      others j le apart =
          subst (λ (z : StageState). Doing see begun (part j) j (lists j) z.given z.ended (written_of begun.plan (progress_of_stages new)) z.taken (λ i. (new.stages i).given) Gives) (sym (other j apart))
          (doing-more (part j) j (lists j) (old.stages j).given (old.stages j).ended (written_of begun.plan (progress_of_stages old)) (written_of begun.plan (progress_of_stages new)) (old.stages j).taken (old.stages j).taken
          (λ i. (old.stages i).given) (λ i. (new.stages i).given) (PartGives see (part 0) (lists 0)) Gives grows (omega arith)
          (λ i e. ((more i).0, (more i).1, subst (λ n. length (old.stages n).given ≤ length (old.stages i).given) e (falls i))) less-all (by.ran.stands j le))

      parts_are : (j : ℕ) (d : StagePart S K P) → j ≤ suc begun.plan.plugins → slice_index_or (slice_set parts k new_part) j d ≡ set_at part k new_part j
      parts_are j d le =
          elim (cases_eq j k) [
            | inl same ↦ (let lt : k < length parts = omega arith in ap (λ i. slice_index_or (slice_set parts k new_part) i d) same ∙ (get_or-set_same parts k new_part d lt ∙ sym (set_at-same part k new_part j same)))
            | inr apart ↦ get_or-set_other parts k j new_part d apart ∙ (by.ran.parts_are j d le ∙ sym (set_at-other part k new_part j apart))
          ]

      -- what all stages stand for then
      pub stepped : RunsBy see begun new_core (slice_set parts k new_part) new_cells (visit_of k given word ∷ visits) (set_at part k new_part) (set_at lists k after)
      stepped = record {
        ran = record {
          parts_are = parts_are;
          run = run;
          kept = λ input gives. (by.ran.kept input (less-all input gives), own.keeps input (less-all input gives) gives);
          stands = λ j le. pick (λ p l. StandsIn see begun p j l new Gives) part lists k new_part after j
              (λ same. subst (λ i. StandsIn see begun new_part i after new Gives) (sym same) own.stands) (others j le);
        };
        numbers = numbers;
        going = going;
        buffer = own.buffer;
      }
