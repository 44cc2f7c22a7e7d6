-- A plugin that is given a mark, or of which lines are taken away, between two turns.
use Rattle.std.proofs.Common.{◌≡◌, ◌≢◌, ℕ, zero, suc, ◌+◌, ◌<◌, ◌≤◌, List, length, ◌==◌, if◌then◌else◌, Bool, Option, refl, ap, sym, ◌∙◌, subst, arith, inl, inr}
use Rattle.std.specs.Prelude.{slice_set, slice_index_or}
use Rattle.std.proofs.lemmas.Bool.{cases_eq, eq-eqb, ne_eqb}
use Rattle.std.proofs.lemmas.List.{get_or-set_same, get_or-set_other, length-set}
use Rattle.ts_packet.specs.declared.cell.Cell.{Cell}
use Rattle.chain_model.specs.Apply.{StageList}
use Rattle.chain_core.specs.declared.stage_end.StageEnd.{StageEnd}
use Rattle.chain_core.specs.CoreNumbers.{CoreNumbers}
use Rattle.chain_core.specs.Numbers.{written_of}
use Rattle.chain_core.specs.Machine.{Visit, ChainState, progress_of_stages}
use Rattle.chain_core.specs.ChainRun.{state_after}
use Rattle.stage_run.specs.Seeing.{Seeing}
use Rattle.stage_run.specs.declared.stage_part.StagePart.{StagePart}
use Rattle.stage_run.specs.PartLists.{PartLists}
use Rattle.stage_run.specs.PartStands.{PartGives}
use Rattle.stage_run.specs.Noting.{Noted}
use Rattle.chain_run.specs.Runs.{RunStart, told_to}
use Rattle.chain_run.specs.OneStage.{IsInput, IsOutput, Failed, Doing, StandsIn}
use Rattle.chain_run.specs.Ran.{IsValidRun, RanBy}
use Rattle.chain_run.specs.Working.{IsRunning}

-- what is known of a run but how far lines were taken away is not changed by that
module _ {S K P : Type 0} (see : Seeing S K P) (begun : RunStart S K) (told : ℕ → ℕ) where
  input-told : (part : StagePart S K P) (lists : PartLists) (low : ℕ) → IsInput see begun part lists low → IsInput see (told_to begun told) part lists low
  input-told part lists low i = record { kind = i.kind; stuffing_is = i.stuffing_is; stream = i.stream; source = i.source; within = i.within; is_list = i.is_list }

  failed-told : (lists : PartLists) (given before : List Cell) (taken : ℕ) (Gives : StageList → Type 0) → Failed see begun lists given before taken Gives → Failed see (told_to begun told) lists given before taken Gives
  failed-told lists given before taken Gives f = record { few = f.few; part = f.part; late = f.late }

  output-told : (part : StagePart S K P) (lists : PartLists) (given before : List Cell) (ended : Option StageEnd) (taken : ℕ) (Gives : StageList → Type 0)
      → IsOutput see begun part lists given before ended taken Gives → IsOutput see (told_to begun told) part lists given before ended taken Gives
  output-told part lists given before ended taken Gives o =
      record { kind = o.kind; stream = o.stream; met = o.met; sink = o.sink; failed = λ is. failed-told lists given before taken Gives (o.failed is) }

  pub doing-told : (part : StagePart S K P) (k : ℕ) (lists : PartLists) (given : List Cell) (ended : Option StageEnd) (low taken : ℕ) (gave : ℕ → List Cell) (Gives : StageList → Type 0)
      → ((j : ℕ) → suc j ≡ k → j < begun.plan.plugins → told j ≡ begun.told j)
      → Doing see begun part k lists given ended low taken gave Gives → Doing see (told_to begun told) part k lists given ended low taken gave Gives
  doing-told part k lists given ended low taken gave Gives same d = record {
    stands_for = d.stands_for;
    given_is = d.given_is;
    mark = d.mark;
    memory = d.memory;
    input = λ e. input-told part lists low (d.input e);
    plugin = λ j e lt. let p = d.plugin j e lt in record { kind = p.kind; rule_is = p.rule_is; room_is = p.room_is; met = p.met; since = p.since ∙ sym (same j e lt) };
    output = λ e. output-told part lists given (gave begun.plan.plugins) ended taken Gives (d.output e);
  }

  pub valid-told : IsValidRun begun → IsValidRun (told_to begun told)
  valid-told r = record { valid = r.valid; rules_are = r.rules_are; rooms_are = r.rooms_are; agree_late = r.agree_late }

-- one plugin is given a mark, or its lines are taken away
module _ {S K P : Type 0} (see : Seeing S K P) (begun : RunStart S K) (told : ℕ → ℕ) (parts : List (StagePart S K P)) (visits : List Visit)
    (part : ℕ → StagePart S K P) (lists : ℕ → PartLists) (ran : RanBy see begun parts visits part lists)
    (stages : length parts ≡ begun.plan.plugins + 2) (j : ℕ) (lt : j < begun.plan.plugins) (new : StagePart S K P)
    (change : PartLists → PartLists) (Allows : PartLists → Type 0) (noted : Noted see (part (suc j)) new change Allows) (allows : Allows (lists (suc j)))
    (met_same : (change (lists (suc j))).met ≡ (lists (suc j)).met) (given_same : (change (lists (suc j))).given ≡ (lists (suc j)).given)
    (low : (change (lists (suc j))).mark ≤ written_of begun.plan (progress_of_stages (state_after begun.plan visits)))
    (own : (change (lists (suc j))).from ≡ told j) (others : (i : ℕ) → i ≢ j → told i ≡ begun.told i) where
  abbrev pub part_now : ℕ → StagePart S K P
  part_now zero = part zero
  part_now (suc k) = if k == j then new else part (suc k)

  abbrev pub lists_now : ℕ → PartLists
  lists_now zero = lists zero
  lists_now (suc k) = if k == j then change (lists (suc j)) else lists (suc k)

  abbrev state : ChainState
  state = state_after begun.plan visits

  abbrev Gives : StageList → Type 0
  Gives = PartGives see (part 0) (lists 0)

  part-is : (k : ℕ) (d : StagePart S K P) → k ≤ suc begun.plan.plugins → slice_index_or (slice_set parts (suc j) new) k d ≡ part_now k
  part-is zero d le = get_or-set_other parts (suc j) zero new d (λ e. absurd (omega arith)) ∙ ran.parts_are zero d le
  part-is (suc k) d le =
      elim (cases_eq k j) [
        | inl same ↦ ap (λ (i : ℕ). slice_index_or (slice_set parts (suc j) new) (suc i) d) same
            ∙ (get_or-set_same parts (suc j) new d (omega (arith, stages))
            ∙ sym (ap (λ (b : Bool). if b then new else part (suc k)) (eq-eqb k j same)))
        | inr apart ↦ get_or-set_other parts (suc j) (suc k) new d (λ e. apart (omega arith))
            ∙ (ran.parts_are (suc k) d le
            ∙ sym (ap (λ (b : Bool). if b then new else part (suc k)) (ne_eqb k j apart)))
      ]

  doing : StandsIn see (told_to begun told) new (suc j) (change (lists (suc j))) state Gives
  doing =
      let old = ran.stands (suc j) (omega arith) in
      record {
        stands_for = noted.stands (lists (suc j)) (state.stages (suc j)).ended allows old.stands_for;
        given_is = given_same ∙ old.given_is;
        mark = low;
        memory = λ e. noted.memory begun.plan.buffer (old.memory e);
        input = λ e. absurd (omega arith);
        plugin = λ i e few. let p = old.plugin i e few in let same : i ≡ j = omega arith in
            record { kind = noted.kind; rule_is = noted.same_rule ∙ p.rule_is; room_is = noted.same_preallocated ∙ p.room_is; met = met_same ∙ p.met; since = own ∙ sym (ap told same) };
        output = λ e. absurd (omega arith);
      }

  stands-now : (k : ℕ) → k ≤ suc begun.plan.plugins → StandsIn see (told_to begun told) (part_now k) k (lists_now k) state Gives
  stands-now zero le =
      doing-told see begun told (part zero) zero (lists zero) (state.stages zero).given (state.stages zero).ended (written_of begun.plan (progress_of_stages state)) (state.stages zero).taken (λ i. (state.stages i).given) Gives
      (λ i e few. absurd (omega arith)) (ran.stands zero le)
  stands-now (suc k) le =
      elim (cases_eq k j) [
        | inl same ↦
            subst (λ (b : Bool). StandsIn see (told_to begun told) (if b then new else part (suc k)) (suc k) (if b then change (lists (suc j)) else lists (suc k)) state Gives) (sym (eq-eqb k j same))
            (subst (λ (i : ℕ). StandsIn see (told_to begun told) new (suc i) (change (lists (suc j))) state Gives) (sym same) doing)
        | inr apart ↦
            subst (λ (b : Bool). StandsIn see (told_to begun told) (if b then new else part (suc k)) (suc k) (if b then change (lists (suc j)) else lists (suc k)) state Gives) (sym (ne_eqb k j apart))
            (doing-told see begun told (part (suc k)) (suc k) (lists (suc k)) (state.stages (suc k)).given (state.stages (suc k)).ended (written_of begun.plan (progress_of_stages state)) (state.stages (suc k)).taken (λ i. (state.stages i).given) Gives
            (λ i e few. others i (λ f. apart (omega arith))) (ran.stands (suc k) le))
      ]

  -- the run is one that led here, with this change
  pub ran-noted : RanBy see (told_to begun told) (slice_set parts (suc j) new) visits part_now lists_now
  ran-noted = record { parts_are = part-is; run = ran.run; kept = ran.kept; stands = stands-now }

-- the same of a run in one thread between its turns: it made the same visits, and the plugin stands for what was changed
pub record IsNoted {S K P : Type 0} (see : Seeing S K P) (begun : RunStart S K) (told : ℕ → ℕ) (core : CoreNumbers) (parts : List (StagePart S K P)) (cells : List Cell)
    (goes : IsRunning see begun core parts cells) (j : ℕ) (new : StagePart S K P) (change : PartLists → PartLists) : Type 0 where
  pub now : IsRunning see (told_to begun told) core (slice_set parts (suc j) new) cells
  pub visits_are : now.runs.visits ≡ goes.runs.visits
  pub own : now.runs.lists (suc j) ≡ change (goes.runs.lists (suc j))

pub is-noted : {S K P : Type 0} (see : Seeing S K P) (begun : RunStart S K) (told : ℕ → ℕ) (core : CoreNumbers) (parts : List (StagePart S K P)) (cells : List Cell)
    (goes : IsRunning see begun core parts cells) (j : ℕ) (lt : j < begun.plan.plugins) (new : StagePart S K P)
    (change : PartLists → PartLists) (Allows : PartLists → Type 0) → Noted see (goes.runs.part (suc j)) new change Allows → Allows (goes.runs.lists (suc j))
    → (change (goes.runs.lists (suc j))).met ≡ (goes.runs.lists (suc j)).met → (change (goes.runs.lists (suc j))).given ≡ (goes.runs.lists (suc j)).given
    → (change (goes.runs.lists (suc j))).mark ≤ written_of begun.plan (progress_of_stages (state_after begun.plan goes.runs.visits))
    → (change (goes.runs.lists (suc j))).from ≡ told j → ((i : ℕ) → i ≢ j → told i ≡ begun.told i)
    → IsNoted see begun told core parts cells goes j new change
is-noted see begun told core parts cells goes j lt new change Allows noted allows met_same given_same low own others =
    let by = goes.runs.by in
    let fits = goes.fits in
    let visits = goes.runs.visits in
    let part = goes.runs.part in
    let lists = goes.runs.lists in
    record {
      now = record {
        fits = record { plan_is = fits.plan_is; run = valid-told see begun told fits.run; stages_are = length-set parts (suc j) new ∙ fits.stages_are; slots_are = fits.slots_are };
        runs = record {
          visits = visits;
          part = part_now see begun told parts visits part lists by.ran fits.stages_are j lt new change Allows noted allows met_same given_same low own others;
          lists = lists_now see begun told parts visits part lists by.ran fits.stages_are j lt new change Allows noted allows met_same given_same low own others;
          by = record {
            ran = ran-noted see begun told parts visits part lists by.ran fits.stages_are j lt new change Allows noted allows met_same given_same low own others;
            numbers = by.numbers;
            going = by.going;
            buffer = by.buffer;
          };
        };
      };
      visits_are = refl;
      own = ap (λ (b : Bool). if b then change (lists (suc j)) else lists (suc j)) (eq-eqb j j refl);
    }

-- how far lines were taken away is asked of the plugins alone
module _ {S K P : Type 0} (see : Seeing S K P) (begun : RunStart S K) (told : ℕ → ℕ) (core : CoreNumbers) (parts : List (StagePart S K P)) (cells : List Cell)
    (goes : IsRunning see begun core parts cells) (same : (j : ℕ) → j < begun.plan.plugins → told j ≡ begun.told j) where
  pub stands-otherwise : (k : ℕ) → k ≤ suc begun.plan.plugins
      → StandsIn see (told_to begun told) (goes.runs.part k) k (goes.runs.lists k) (state_after begun.plan goes.runs.visits) (PartGives see (goes.runs.part 0) (goes.runs.lists 0))
  stands-otherwise k le =
      let state : ChainState = state_after begun.plan goes.runs.visits in
      doing-told see begun told (goes.runs.part k) k (goes.runs.lists k) (state.stages k).given (state.stages k).ended (written_of begun.plan (progress_of_stages state)) (state.stages k).taken (λ i. (state.stages i).given) (PartGives see (goes.runs.part 0) (goes.runs.lists 0))
      (λ j e lt. same j lt) (goes.runs.by.ran.stands k le)

  abbrev pub told-otherwise : IsRunning see (told_to begun told) core parts cells
  told-otherwise =
      let by = goes.runs.by in
      record {
        fits = record { plan_is = goes.fits.plan_is; run = valid-told see begun told goes.fits.run; stages_are = goes.fits.stages_are; slots_are = goes.fits.slots_are };
        runs = record {
          visits = goes.runs.visits;
          part = goes.runs.part;
          lists = goes.runs.lists;
          by = record {
            ran = record { parts_are = by.ran.parts_are; run = by.ran.run; kept = by.ran.kept; stands = stands-otherwise };
            numbers = by.numbers;
            going = by.going;
            buffer = by.buffer;
          };
        };
      }
