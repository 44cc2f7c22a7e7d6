-- A chain before its first turn.
use Rattle.std.proofs.Common.{◌≡◌, ◌≢◌, ℕ, zero, suc, ◌+◌, ◌<◌, ◌≤◌, ◌↔◌, List, [], ◌∷◌, ◌++◌, length, map, false, Option, Some, None, refl, ap, sym, ◌∙◌, subst, arith, inl, inr}
use Rattle.std.proofs.lemmas.Bool.{cases_lt}
use Rattle.std.specs.Prelude.{slice_index_or}
use Rattle.std.specs.List.{All}
use Rattle.std.proofs.lemmas.List.{length-map}
use Rattle.std.proofs.Math.Seq.{get_or-append_seam}
use Rattle.ts_packet.specs.declared.cell.Cell.{Cell}
use Rattle.ts_outside.specs.Source.{SourceView, own_bytes}
use Rattle.ts_outside.specs.Sink.{SinkView}
use Rattle.chain_model.specs.PluginRule.{PluginRule}
use Rattle.chain_model.specs.Apply.{StageList, last_passed}
use Rattle.chain_model.specs.StageLists.{rule_after}
use Rattle.chain_core.specs.declared.core_plan.CorePlan.{CorePlan}
use Rattle.chain_core.specs.Numbers.{written_of}
use Rattle.chain_core.specs.Machine.{start, progress_of_stages}
use Rattle.chain_core.specs.ChainRun.{state_after, took}
use Rattle.chain_core.specs.CoreNumbers.{CoreNumbers, IsValidPlan, StandsFor}
use Rattle.chain_core.specs.Keeps.{StageKeeps}
use Rattle.plugin_trait.specs.declared.heard.Heard.{Heard}
use Rattle.stage_run.specs.Seeing.{Seeing, heard_rule, heard_stands, heard_preallocated}
use Rattle.stage_run.specs.declared.input_part.InputPart.{InputPart}
use Rattle.stage_run.specs.declared.input_part.InputPart.TheVariants as input
use Rattle.stage_run.specs.declared.output_part.OutputPart.{OutputPart}
use Rattle.stage_run.specs.declared.output_part.OutputPart.TheVariants as output
use Rattle.stage_run.specs.declared.stage_part.StagePart.{StagePart}
use Rattle.stage_run.specs.declared.stuffing.Stuffing.{Stuffing}
use Rattle.stage_run.specs.PartLists.{PartLists, fresh_lists}
use Rattle.stage_run.specs.PartStands.{PartStands, PartGives, kind_of, stuffing_in, source_kind, sink_kind, stream_kind, an_input, an_output}
use Rattle.stage_run.specs.InputStands.{stuffing_of}
use Rattle.stage_run.specs.Parts.{IsListOf, IsSourceOf, IsSinkOf}
use Rattle.chain_run.specs.Fresh.{AreFresh}
use Rattle.chain_run.specs.Parts.{MadeOf, AreMadeOf}
use Rattle.chain_run.specs.Runs.{nothing_told, RunStart}
use Rattle.chain_run.specs.OneStage.{IsInput, IsPlugin, IsOutput, StandsIn}
use Rattle.chain_run.specs.NewRow.{IsNewRow}
use Rattle.chain_run.specs.SerialRuns.{RunsBy}
use Rattle.chain_run.specs.Working.{IsRunning}
use Rattle.chain_run.proofs.StepLemmas.{doing-more}
use Rattle.chain_run.proofs.QuietVisit.{silent}
use Rattle.chain_run.proofs.TurnLemmas.{list-ends}

-- a member of a list is the same whatever stands for no member
pub any-default : {X : Type 0} (xs : List X) (k : ℕ) (d e : X) → k < length xs → slice_index_or xs k d ≡ slice_index_or xs k e
any-default [] k d e lt = absurd (omega arith)
any-default (x ∷ xs) zero d e lt = refl
any-default (x ∷ xs) (suc k) d e lt = any-default xs k d e (omega arith)

-- some view of the source of an input, and of the sink of an output
view-of-source : {S : Type 0} (seen : S → SourceView) (part : InputPart S) → (view : SourceView) × IsSourceOf seen part view
view-of-source seen (input.Stream source) = (seen source, refl)
view-of-source seen (input.Nulls count) = (record { left = None; faults = 0; origin = own_bytes }, tt)
view-of-source seen (input.Generated generator count) = (record { left = None; faults = 0; origin = own_bytes }, tt)

view-of-sink : {K : Type 0} (seen : K → SinkView) (part : OutputPart K) → (view : SinkView) × IsSinkOf seen part view
view-of-sink seen (output.Stream sink) = (seen sink, refl)
view-of-sink seen output.Discard = (record { taken = None; name = None; faults = 0 }, tt)

-- ---- rules

module _ {P : Type 0} (rule : P → PluginRule) (stands : P → List Cell → ℕ → Type 0) where
  pub rules-open : (plugins : List P) → AreFresh stands plugins → ((plugin : P) (history : List Cell) (mark : ℕ) → stands plugin history mark → (rule plugin).agrees [] ≡ false) → All (λ (r : PluginRule). r.agrees [] ≡ false) (map rule plugins)
  rules-open [] fresh law k d lt = absurd (omega arith)
  rules-open (plugin ∷ plugins) fresh law zero d lt = law plugin [] 0 fresh.0
  rules-open (plugin ∷ plugins) fresh law (suc k) d lt = rules-open plugins fresh.1 law k d (omega arith)

-- ---- stages that have done nothing

module _ (rules : List PluginRule) (input : StageList) (plugins : ℕ) where
  pub starts-quiet : (input.ended ≢ Some last_passed) → (k : ℕ) (took_ : List Cell) → took_ ≡ [] → StageKeeps rules input plugins k took_ [] [] nothing_told
  starts-quiet no_last zero took_ none = record {
    list = record { gives = (input.cells, refl); ends = λ end e. cc; last_at_once = λ last. absurd (no_last last.ended) };
    agreement = tt;
  }
  starts-quiet no_last (suc j) took_ none =
      subst (λ (l : List Cell). StageKeeps rules input plugins (suc j) l [] [] nothing_told) (sym none)
      (record {
        list = record { gives = ([], refl); ends = λ end e. cc; last_at_once = λ last. (let e : None ≡ Some last_passed = last.ended in cc) };
        agreement = silent (rule_after rules j) [] 0 (0 + 0) (omega arith);
      })

module _ {S K P : Type 0} (see : Seeing S K P) where
  pub made-length : (made : List (StagePart S K P)) (plugins : List (Heard P)) → AreMadeOf see made plugins → length made ≡ length plugins
  made-length [] [] are = refl
  made-length [] (plugin ∷ plugins) are = absurd are
  made-length (part ∷ made) [] are = absurd are
  made-length (part ∷ made) (plugin ∷ plugins) are = omega (arith, made-length made plugins are.1)

  -- the stage at a place, its plugin and its rule
  pub record MadeAt (part : StagePart S K P) (r : PluginRule) (room : Option ℕ) : Type 0 where
    pub plugin : Heard P
    pub is : MadeOf see part plugin
    pub rule_is : r ≡ heard_rule see plugin
    pub room_is : room ≡ heard_preallocated see plugin
    pub fresh : heard_stands see plugin [] 0

  made-at : (made rest : List (StagePart S K P)) (plugins : List (Heard P)) (j : ℕ) (d : StagePart S K P) → AreMadeOf see made plugins → AreFresh (heard_stands see) plugins → j < length plugins → MadeAt (slice_index_or (made ++ rest) j d) (rule_after (map (heard_rule see) plugins) j) (slice_index_or (map (heard_preallocated see) plugins) j None)
  made-at [] rest [] j d are fresh lt = absurd (omega arith)
  made-at [] rest (plugin ∷ plugins) j d are fresh lt = absurd are
  made-at (part ∷ made) rest [] j d are fresh lt = absurd are
  made-at (part ∷ made) rest (plugin ∷ plugins) zero d are fresh lt = record { plugin = plugin; is = are.0; rule_is = refl; room_is = refl; fresh = fresh.0 }
  made-at (part ∷ made) rest (plugin ∷ plugins) (suc j) d are fresh lt = made-at made rest plugins j d are.1 fresh.1 (omega arith)

  module _ (plan : CorePlan) (valid : IsValidPlan plan)
      (from : InputPart S) (stuffing : Stuffing) (to : OutputPart K) (plugins : List (Heard P)) (fresh : AreFresh (heard_stands see) plugins) (number : plan.plugins ≡ length plugins)
      (opens : (plugin : P) (history : List Cell) (mark : ℕ) → see.stands plugin history mark → (see.rule plugin).agrees [] ≡ false)
      (first out : StagePart S K P) (made : List (StagePart S K P)) (are : AreMadeOf see made plugins)
      (in_kind : kind_of first ≡ an_input) (in_stream : stream_kind first ≡ source_kind from) (in_stuffing : stuffing_in first ≡ Some (stuffing_of stuffing))
      (in_stands : (source : SourceView) (sink : SinkView) (mark : ℕ) → IsSourceOf see.source from source → PartStands see first (fresh_lists source sink mark) None)
      (in_gives : (source : SourceView) (sink : SinkView) (mark : ℕ) (input : StageList) → PartGives see first (fresh_lists source sink mark) input ↔ IsListOf see.source from (stuffing_of stuffing) input)
      (out_kind : kind_of out ≡ an_output) (out_stream : stream_kind out ≡ sink_kind to)
      (out_stands : (source : SourceView) (sink : SinkView) (mark : ℕ) → IsSinkOf see.sink to sink → PartStands see out (fresh_lists source sink mark) None) where
    abbrev pub began : RunStart S K
    began = record { from = from; to = to; stuffing = stuffing_of stuffing; rules = map (heard_rule see) plugins; rooms = map (heard_preallocated see) plugins; plan = plan; told = λ _. 0 }

    abbrev parts : List (StagePart S K P)
    parts = first ∷ (made ++ out ∷ [])

    abbrev part : ℕ → StagePart S K P
    part k = slice_index_or parts k first

    abbrev lists : ℕ → PartLists
    lists k = fresh_lists (view-of-source see.source from).0 (view-of-sink see.sink to).0 0

    parts-length : length parts ≡ plan.plugins + 2
    parts-length = let a = made-length made plugins are in omega (arith, length-snoc made out)
      where
        length-snoc : (xs : List (StagePart S K P)) (x : StagePart S K P) → length (xs ++ x ∷ []) ≡ length xs + 1
        length-snoc [] x = refl
        length-snoc (y ∷ xs) x = omega (arith, length-snoc xs x)

    last-is : part (suc plan.plugins) ≡ out
    last-is =
        ap (λ n. slice_index_or (made ++ out ∷ []) n first) (let a = made-length made plugins are in let b = number in omega arith)
        ∙ get_or-append_seam made out [] first

    input-start : IsInput see began first (lists 0) 0
    input-start = record {
      kind = in_kind;
      stuffing_is = in_stuffing;
      stream = in_stream;
      source = (view-of-source see.source from).1;
      within = inl (omega arith);
      is_list = λ input gives. (in_gives (view-of-source see.source from).0 (view-of-sink see.sink to).0 0 input).0 gives;
    }

    plugin-start : (j : ℕ) → j < plan.plugins → IsPlugin see began (part (suc j)) j (lists (suc j)) [] []
    plugin-start j lt =
        let here = made-at made (out ∷ []) plugins j first are fresh (omega (arith, number)) in
        record {
          kind = here.is.kind;
          rule_is = here.is.same_rule ∙ sym here.rule_is;
          room_is = here.is.same_preallocated ∙ sym here.room_is;
          met = refl;
          since = refl;
        }

    output-start : IsOutput see began (part (suc plan.plugins)) (lists (suc plan.plugins)) [] [] None 0 (λ (_ : StageList). Unit {0})
    output-start = record {
      kind = ap kind_of last-is ∙ out_kind;
      stream = ap stream_kind last-is ∙ out_stream;
      met = refl;
      sink = (view-of-sink see.sink to).1;
      failed = λ e. cc;
    }

    stands-at : (k : ℕ) → k ≤ suc plan.plugins → PartStands see (part k) (lists k) None
    stands-at zero le = in_stands (view-of-source see.source from).0 (view-of-sink see.sink to).0 0 (view-of-source see.source from).1
    stands-at (suc j) le =
        elim (cases_lt j plan.plugins) [
          | inl lt ↦ (let here = made-at made (out ∷ []) plugins j first are fresh (omega (arith, number)) in
              here.is.fresh (view-of-source see.source from).0 (view-of-sink see.sink to).0 0 here.fresh)
          | inr far ↦ (let e : j ≡ plan.plugins = omega arith in
              subst (λ p. PartStands see p (lists (suc j)) None) (sym (ap (λ n. part (suc n)) e ∙ last-is))
              (out_stands (view-of-source see.source from).0 (view-of-sink see.sink to).0 0 (view-of-sink see.sink to).1))
        ]

    pub new-row : IsNewRow see began parts
    new-row = record {
      run = record {
        valid = valid;
        rules_are = length-map plugins (heard_rule see) ∙ sym number;
        rooms_are = length-map plugins (heard_preallocated see) ∙ sym number;
        agree_late = rules-open (heard_rule see) (heard_stands see) plugins fresh (λ heard history mark stands. opens heard.plugin history mark stands.holds);
      };
      stages_are = parts-length;
      part = part;
      parts_are = λ k d le. any-default parts k d first (let a = parts-length in omega arith);
      lists = lists;
      new = λ k le. record {
        stands_for = stands-at k le;
        given_is = refl;
        mark = omega arith;
        memory = λ e. cc;
        input = λ e. subst (λ i. IsInput see began (part i) (lists i) 0) e input-start;
        plugin = λ j e lt. subst (λ i. IsPlugin see began (part i) j (lists i) [] []) e (plugin-start j lt);
        output = λ e. subst (λ i. IsOutput see began (part i) (lists i) [] [] None 0 (λ (_ : StageList). Unit {0})) e output-start;
      };
    }

  -- ---- the run in one thread begins

  module _ (begun : RunStart S K) (parts : List (StagePart S K P)) (row : IsNewRow see begun parts) (core : CoreNumbers) (plan_is : core.plan ≡ begun.plan) (numbers : StandsFor core start)
      (cells : List Cell) (slots : length cells ≡ begun.plan.buffer) where
    abbrev Gives : StageList → Type 0
    Gives = PartGives see (row.part 0) (row.lists 0)

    stands : (k : ℕ) → k ≤ suc begun.plan.plugins → StandsIn see begun (row.part k) k (row.lists k) (state_after begun.plan []) Gives
    unfolding state_after
    stands k le =
        doing-more see begun (row.part k) k (row.lists k) [] None 0 (written_of begun.plan (progress_of_stages (state_after begun.plan []))) 0 0 (λ _. []) (λ j. ((state_after begun.plan []).stages j).given) (λ (_ : StageList). Unit {0}) Gives
        (omega arith) (omega arith) (λ j e. ([], refl, omega arith)) (λ input x. tt) (row.new k le)

    going-start : (input : StageList) → Gives input → (k : ℕ) → ((state_after begun.plan []).stages k).ended ≡ None → StageKeeps begun.rules input begun.plan.plugins k (took (state_after begun.plan []) k) ((state_after begun.plan []).stages k).given [] nothing_told
    unfolding state_after
    going-start input gives k e =
        let ends = list-ends see.source begun.from begun.stuffing input (((row.new 0 (omega arith)).input refl).is_list input gives) in
        starts-quiet begun.rules input begun.plan.plugins (λ last. (let how = ends.0 in let f = sym ends.1 ∙ last in cc)) k (took (state_after begun.plan []) k) (nothing-taken k)
      where
        nothing-taken : (k : ℕ) → took start k ≡ []
        nothing-taken zero = refl
        nothing-taken (suc j) = refl

    by-start : RunsBy see begun core parts cells [] row.part row.lists
    unfolding state_after
    by-start = record {
      ran = record {
        parts_are = row.parts_are;
        run = tt;
        kept = λ input gives. tt;
        stands = stands;
      };
      numbers = numbers;
      going = going-start;
      buffer = λ k le. tt;
    }

    pub starts : IsRunning see begun core parts cells
    starts = record {
      fits = record { plan_is = plan_is; run = row.run; stages_are = row.stages_are; slots_are = slots };
      runs = record { visits = []; part = row.part; lists = row.lists; by = by-start };
    }
