-- A chain whose stages have all ended, whoever served them: what it comes to.
use Rattle.std.proofs.Common.{◌≡◌, ◌≢◌, ◌⊎◌, ℕ, zero, suc, ◌+◌, ◌-◌, ◌<◌, ◌≤◌, List, [], ◌∷◌, ◌++◌, length, map, take, drop, Option, Some, None, refl, ap, sym, ◌∙◌, subst, arith, inl, inr, length-append}
use Rattle.std.specs.Prelude.{slice_index_or}
use Rattle.std.proofs.lemmas.Bool.{cases_eq, cases_lt}
use Rattle.std.proofs.lemmas.List.{take-append-le, length-take}
use Rattle.std.proofs.Math.Seq.{drop-append-le}
use Rattle.ts_packet.specs.declared.cell.Cell.{Cell}
use Rattle.ts_outside.specs.Source.{SourceView, unread, read_failed}
use Rattle.ts_outside.specs.Sink.{SinkView, took, write_failed}
use Rattle.chain_model.specs.declared.input_end.InputEnd.TheVariants.{End, Sync, ReadFault, TooLong}
use Rattle.chain_model.specs.declared.cause.Cause.{Cause}
use Rattle.chain_model.specs.declared.cause.Cause.TheVariants as cause
use Rattle.chain_model.specs.Prefix.{IsPrefix}
use Rattle.chain_model.specs.PluginRule.{PluginRule}
use Rattle.chain_model.specs.Apply.{StageList}
use Rattle.chain_model.specs.StageLists.{rule_after, stage_list, end_list}
use Rattle.chain_model.specs.Stuffed as model
use Rattle.chain_model.specs.Written.{written, IsPartOfFirst}
use Rattle.chain_core.specs.declared.stage_end.StageEnd.{StageEnd}
use Rattle.chain_core.specs.declared.stage_end.StageEnd.TheVariants.{Input, Last, Stop, Refuse, WriteFault, NoMemory, Followed}
use Rattle.chain_core.specs.Numbers.{written_of}
use Rattle.chain_core.specs.Machine.{ChainState, progress_of_stages}
use Rattle.chain_core.specs.ChainRun.{AllEnded}
use Rattle.chain_core.specs.Close.{cause_of_stage, cut_at_close, cause_at_close}
use Rattle.chain_core.specs.EveryOrder.{SoFar, AtClose}
use Rattle.plugin_trait.specs.declared.heard.Heard.{Heard}
use Rattle.stage_run.specs.Seeing.{Seeing, heard_rule}
use Rattle.stage_run.specs.declared.input_part.InputPart.{InputPart}
use Rattle.stage_run.specs.declared.input_part.InputPart.TheVariants as input
use Rattle.stage_run.specs.declared.output_part.OutputPart.{OutputPart}
use Rattle.stage_run.specs.declared.output_part.OutputPart.TheVariants as output
use Rattle.stage_run.specs.declared.stage_part.StagePart.{StagePart}
use Rattle.stage_run.specs.PartLists.{PartLists}
use Rattle.stage_run.specs.PartStands.{PartStands, PartGives, rule_of, source_kind, sink_kind, a_stream, null_packets, generated_packets, no_stream, an_input, a_plugin, an_output}
use Rattle.stage_run.specs.OutputStands.{SinkTook}
use Rattle.stage_run.specs.HeardSince.{HeardSince}
use Rattle.stage_run.specs.Parts.{IsSourceOf, IsSinkOf, FailedReading, LeavesSource, LeavesInput, LeavesOutput}
use Rattle.stage_run.specs.SourceNow.{WasReadOf}
use Rattle.plugin_trait.specs.Steps.{IsPreallocatedFor}
use Rattle.chain_run.specs.Met.{AllMetFirst}
use Rattle.chain_run.specs.Rooms.{WantsMemory}
use Rattle.chain_run.specs.Parts.{AreTakenFrom}
use Rattle.chain_run.specs.RunOf.{LeftInput, TakesTo, LeftOutput, Gave}
use Rattle.chain_model.specs.InputRead.{MayRead}
use Rattle.chain_run.specs.Runs.{between, RunStart}
use Rattle.chain_run.specs.OneStage.{IsInput, IsPlugin, IsOutput}
use Rattle.chain_run.specs.Ran.{RanBy, Ran, state_of}
use Rattle.chain_run.specs.Laws.{MachineLaws}
use Rattle.chain_run.proofs.NumberLaws.{given-falls, taken-falls, written-given}
use Rattle.chain_run.proofs.KindLemmas.{wants-kind}
use Rattle.chain_run.proofs.StepLemmas.{may_read-more, part-more}
use Rattle.chain_run.proofs.RanLemmas.{kept-of, far}

-- ---- ends by their causes

end-of-read_fault : (k : ℕ) (end : StageEnd) → cause_of_stage k end ≡ Some (cause.Input ReadFault) → end ≡ Input ReadFault
end-of-read_fault k (Input how) e = let same : how ≡ ReadFault = cc in ap Input same
end-of-read_fault k Last e = cc
end-of-read_fault k Stop e = cc
end-of-read_fault k (Refuse reason) e = cc
end-of-read_fault k WriteFault e = cc
end-of-read_fault k NoMemory e = cc
end-of-read_fault k Followed e = cc

end-of-no_memory : (k : ℕ) (end : StageEnd) (j : ℕ) → cause_of_stage k end ≡ Some (cause.NoMemory j) → (end ≡ NoMemory) × (k ≡ j)
end-of-no_memory k (Input how) j e = cc
end-of-no_memory k Last j e = cc
end-of-no_memory k Stop j e = cc
end-of-no_memory k (Refuse reason) j e = cc
end-of-no_memory k WriteFault j e = cc
end-of-no_memory k NoMemory j e = (refl, cc)
end-of-no_memory k Followed j e = cc

end-of-write_fault : (k : ℕ) (end : StageEnd) → cause_of_stage k end ≡ Some cause.WriteFault → end ≡ WriteFault
end-of-write_fault k (Input how) e = cc
end-of-write_fault k Last e = cc
end-of-write_fault k Stop e = cc
end-of-write_fault k (Refuse reason) e = cc
end-of-write_fault k WriteFault e = refl
end-of-write_fault k NoMemory e = cc
end-of-write_fault k Followed e = cc

-- ---- what is left

source-left : (stuffing : model.Stuffing) (first now : SourceView) (lists : PartLists) (told : Option StageEnd) → LeavesSource stuffing first now lists told → (first ≡ unread lists.read now) ⊎ (read_failed first ≡ unread lists.read now)
source-left stuffing first now lists None left = inl left
source-left stuffing first now lists (Some (Input (End n))) left = inl left
source-left stuffing first now lists (Some (Input (Sync packet))) left = inl left
source-left stuffing first now lists (Some (Input ReadFault)) left = inr left.source
source-left stuffing first now lists (Some (Input TooLong)) left = inl left
source-left stuffing first now lists (Some Last) left = inl left
source-left stuffing first now lists (Some Stop) left = inl left
source-left stuffing first now lists (Some (Refuse reason)) left = inl left
source-left stuffing first now lists (Some WriteFault) left = inl left
source-left stuffing first now lists (Some NoMemory) left = inl left
source-left stuffing first now lists (Some Followed) left = inl left

sink-left : (first now : SinkView) (given : List Cell) (cut : List ℕ) (told : Option StageEnd) → SinkTook first now given cut told
    → ((told ≡ Some WriteFault) × (now ≡ write_failed (took first (written given ++ cut)))) ⊎ ((told ≢ Some WriteFault) × (now ≡ took first (written given)))
sink-left first now given cut None left = inr (λ e. cc, left.0)
sink-left first now given cut (Some (Input how)) left = inr (λ e. cc, left.0)
sink-left first now given cut (Some Last) left = inr (λ e. cc, left.0)
sink-left first now given cut (Some Stop) left = inr (λ e. cc, left.0)
sink-left first now given cut (Some (Refuse reason)) left = inr (λ e. cc, left.0)
sink-left first now given cut (Some WriteFault) left = inl (refl, left)
sink-left first now given cut (Some NoMemory) left = inr (λ e. cc, left.0)
sink-left first now given cut (Some Followed) left = inr (λ e. cc, left.0)

takes-other : (old new : SinkView) (cells : List Cell) (cut : ℕ) (why : Cause) → (why ≡ cause.WriteFault → ⊥) → new ≡ took old (written (take cut cells)) → TakesTo old new cells cut why
takes-other old new cells cut (cause.Input how) no_ is = is
takes-other old new cells cut cause.Joint no_ is = is
takes-other old new cells cut (cause.Until j) no_ is = is
takes-other old new cells cut (cause.Stop j) no_ is = is
takes-other old new cells cut (cause.Refuse j reason) no_ is = is
takes-other old new cells cut cause.WriteFault no_ is = absurd (no_ refl)
takes-other old new cells cut (cause.NoMemory k) no_ is = is

module _ {S K P : Type 0} (see : Seeing S K P)
    (laws : MachineLaws)
    (begun : RunStart S K) (parts : List (StagePart S K P)) (goes : Ran see begun parts) (over : AllEnded begun.plan (progress_of_stages (state_of see begun parts goes))) where
  abbrev pub state : ChainState
  state = state_of see begun parts goes

  abbrev by : RanBy see begun parts goes.visits goes.part goes.lists
  by = goes.by

  abbrev low : ℕ
  low = written_of begun.plan (progress_of_stages state)

  -- what each stage stands for
  at-input : IsInput see begun (goes.part 0) (goes.lists 0) low
  at-input = (by.stands 0 (omega arith)).input refl

  at-plugin : (j : ℕ) → j < begun.plan.plugins → IsPlugin see begun (goes.part (suc j)) j (goes.lists (suc j)) (state.stages (suc j)).given (state.stages j).given
  at-plugin j lt = (by.stands (suc j) (omega (arith, lt))).plugin j refl lt

  at-output : IsOutput see begun (goes.part (suc begun.plan.plugins)) (goes.lists (suc begun.plan.plugins)) (state.stages (suc begun.plan.plugins)).given (state.stages begun.plan.plugins).given
      (state.stages (suc begun.plan.plugins)).ended (state.stages (suc begun.plan.plugins)).taken (PartGives see (goes.part 0) (goes.lists 0))
  at-output = (by.stands (suc begun.plan.plugins) (omega arith)).output refl

  abbrev pub cut : ℕ
  cut = cut_at_close begun.plan (progress_of_stages state)

  abbrev pub why : Cause
  why = cause_at_close begun.plan (progress_of_stages state)

  abbrev out : ℕ
  out = suc begun.plan.plugins

  -- how many cells each stage gave
  abbrev pub gave-of : ℕ → ℕ
  gave-of k = length (state.stages k).given

  module _ (list : StageList) (gives : PartGives see (goes.part 0) (goes.lists 0) list) where
    pub at-close : AtClose begun.plan begun.rules list state cut why
    at-close = laws.close begun.plan begun.rules list goes.visits (kept-of see begun goes.valid_run laws parts goes.visits goes.part goes.lists by list gives) over

    so-far : SoFar begun.plan begun.rules list state
    so-far = far see begun goes.valid_run laws parts goes.visits goes.part goes.lists by list gives

    pub given-cut : length (state.stages out).given ≡ cut
    given-cut =
        let a = at-close.reached out (omega arith) in
        let b : length (state.stages out).given ≡ length (take cut (end_list begun.rules list).cells) = ap (λ (l : List Cell). length l) at-close.written in
        omega (arith, length-take cut (end_list begun.rules list).cells)

    written-cut : written_of begun.plan (progress_of_stages state) ≤ cut
    written-cut =
        let a = written-given laws begun.plan goes.valid_run.valid.users goes.visits by.run out (omega arith) in let b = given-cut in omega arith

    -- a failed read is reported by the input alone
    read-told : why ≡ cause.Input ReadFault → ((state.stages 0).ended ≡ Some (Input ReadFault)) × (length (state.stages 0).given ≡ cut)
    read-told is =
        elim at-close.told [
          | inl joint ↦ (let e = joint.0 in let f : cause.Joint ≡ cause.Input ReadFault = sym e ∙ is in cc)
          | inr told ↦ (let k : ℕ = told.0 in let ends = told.1 in
              let same : ends.end ≡ Input ReadFault = end-of-read_fault k ends.end (ends.gives ∙ ap (λ c. Some c) is) in
              let ended : (state.stages k).ended ≡ Some (Input ReadFault) = ends.ended ∙ ap (λ e. Some e) same in
              let first : k ≡ 0 = so-far.ends k (Input ReadFault) ended in
              (subst (λ i. (state.stages i).ended ≡ Some (Input ReadFault)) first ended, subst (λ i. length (state.stages i).given ≡ cut) first told.3))
        ]

    -- and a failed write by the output
    write-told : why ≡ cause.WriteFault → (state.stages out).ended ≡ Some WriteFault
    write-told is =
        elim at-close.told [
          | inl joint ↦ (let e = joint.0 in let f : cause.Joint ≡ cause.WriteFault = sym e ∙ is in cc)
          | inr told ↦ (let k : ℕ = told.0 in let ends = told.1 in
              let same : ends.end ≡ WriteFault = end-of-write_fault k ends.end (ends.gives ∙ ap (λ c. Some c) is) in
              let ended : (state.stages k).ended ≡ Some WriteFault = ends.ended ∙ ap (λ e. Some e) same in
              let last : k ≡ out = so-far.ends k WriteFault ended in
              subst (λ i. (state.stages i).ended ≡ Some WriteFault) last ended)
        ]

    told-write : (state.stages out).ended ≡ Some WriteFault → why ≡ cause.WriteFault
    told-write is =
        let failed = at-output.failed is in
        elim at-close.told [
          | inl joint ↦ (let late = failed.late list gives cut (so-far.limit_is_joint cut joint.1) in let a = given-cut in absurd (omega arith))
          | inr told ↦ elim (cases_eq told.0 out) [
            | inl last ↦ (let ends = told.1 in
                let end-is : Some ends.end ≡ Some WriteFault = sym ends.ended ∙ (ap (λ i. (state.stages i).ended) last ∙ is) in
                let same : ends.end ≡ WriteFault = cc in
                let gives_it : Some cause.WriteFault ≡ Some why = sym (ap (cause_of_stage told.0) same) ∙ ends.gives in
                let it : cause.WriteFault ≡ why = cc in sym it)
            | inr before ↦ (let at : told.0 < out = below told.0 told.2 before in
                let a = taken-falls laws begun.plan goes.valid_run.valid.users goes.visits by.run out told.0 at in
                let b = failed.few in let c : length (state.stages told.0).given ≡ cut = told.3 in let d = given-cut in absurd (omega arith))
          ]
        ]
      where
        below : (k : ℕ) → k ≤ out → k ≢ out → k < out
        below k le apart =
            elim (cases_lt k out) [
              | inl lt ↦ lt
              | inr far' ↦ absurd (apart (omega arith))
            ]

    -- ---- the input

    pub left-input : (made_from : InputPart S) → source_kind made_from ≡ source_kind begun.from → LeavesInput see.source made_from begun.stuffing (goes.lists 0) (state.stages 0).ended
        → WasReadOf see.source made_from begun.stuffing (goes.lists 0) → LeftInput see.source begun.stuffing begun.plan.buffer begun.from made_from cut why
    left-input made_from same left was =
        let own : length (goes.lists 0).given ≡ length (state.stages 0).given = ap (λ (l : List Cell). length l) (by.stands 0 (omega arith)).given_is in
        let far' : cut ≤ length (state.stages 0).given = at-close.reached 0 (omega arith) in
        cases begun.from made_from same at-input.source left read-told
        (may_read-more begun.plan.buffer (written_of begun.plan (progress_of_stages state)) cut (length (goes.lists 0).read) written-cut at-input.within)
        own was (omega arith)
      where
        farther : {A : Type 0} {n m : ℕ} → (A ⊎ (n ≤ m)) → cut ≤ n → A ⊎ (cut ≤ m)
        farther (inl a) le = inl a
        farther (inr few) le = inr (omega (arith, few, le))

        cases : (from made : InputPart S) → source_kind made ≡ source_kind from → IsSourceOf see.source from (goes.lists 0).source → LeavesInput see.source made begun.stuffing (goes.lists 0) (state.stages 0).ended
            → (why ≡ cause.Input ReadFault → ((state.stages 0).ended ≡ Some (Input ReadFault)) × (length (state.stages 0).given ≡ cut)) → MayRead begun.plan.buffer cut (length (goes.lists 0).read) → length (goes.lists 0).given ≡ length (state.stages 0).given
            → WasReadOf see.source made begun.stuffing (goes.lists 0) → cut ≤ length (goes.lists 0).given
            → LeftInput see.source begun.stuffing begun.plan.buffer from made cut why
        cases (input.Stream old) (input.Stream new) has source leaves told within given was le =
            let left' : LeavesSource begun.stuffing (see.source old) (see.source new) (goes.lists 0) (state.stages 0).ended =
            subst (λ (v : SourceView). LeavesSource begun.stuffing v (see.source new) (goes.lists 0) (state.stages 0).ended) source leaves in
            record {
              read = (goes.lists 0).read;
              source = source-left begun.stuffing (see.source old) (see.source new) (goes.lists 0) (state.stages 0).ended left';
              within = within;
              reach = farther was.reach le;
              at_fault = λ is. (let t = told is in
                  let f : FailedReading begun.stuffing (see.source old) (see.source new) (goes.lists 0) = subst (λ e. LeavesSource begun.stuffing (see.source old) (see.source new) (goes.lists 0) e) t.0 left' in
                  record {
                    failed = f.source;
                    in_sync = f.in_sync;
                    cut_is = sym t.1 ∙ (sym given ∙ ap (λ (l : List Cell). length l) f.given);
                  });
            }
        cases (input.Nulls old) (input.Nulls new) has source leaves told within given was le = λ is. leaves (told is).0
        cases (input.Generated old packets) (input.Generated new same) has source leaves told within given was le = λ is. leaves (told is).0
        cases (input.Stream old) (input.Nulls new) has source leaves told within given was le = let e : null_packets ≡ a_stream = has in cc
        cases (input.Stream old) (input.Generated new packets) has source leaves told within given was le = let e : generated_packets ≡ a_stream = has in cc
        cases (input.Nulls old) (input.Stream new) has source leaves told within given was le = let e : a_stream ≡ null_packets = has in cc
        cases (input.Nulls old) (input.Generated new packets) has source leaves told within given was le = let e : generated_packets ≡ null_packets = has in cc
        cases (input.Generated old packets) (input.Stream new) has source leaves told within given was le = let e : a_stream ≡ generated_packets = has in cc
        cases (input.Generated old packets) (input.Nulls new) has source leaves told within given was le = let e : null_packets ≡ generated_packets = has in cc

    -- ---- the output

    part-left : (state.stages out).ended ≡ Some WriteFault → IsPartOfFirst (drop cut (end_list begun.rules list).cells) (goes.lists out).cut
    part-left is =
        let failed = at-output.failed is in
        let prefix : IsPrefix (state.stages begun.plan.plugins).given (end_list begun.rules list).cells =
        subst (λ n. IsPrefix (state.stages begun.plan.plugins).given (stage_list begun.rules list n).cells) (sym goes.valid_run.rules_are) (so-far.lists begun.plan.plugins (omega arith)) in
        let long = at-close.reached begun.plan.plugins (omega arith) in
        subst (λ (l : List Cell). IsPartOfFirst l (goes.lists out).cut)
        (sym (ap (drop cut) prefix.1 ∙ (drop-append-le cut (state.stages begun.plan.plugins).given prefix.0 long
        ∙ ap (λ n. drop n (state.stages begun.plan.plugins).given ++ prefix.0) (sym given-cut))))
        (part-more (between state begun.plan.plugins) prefix.0 (goes.lists out).cut failed.part)

    given-is : (goes.lists out).given ≡ take cut (end_list begun.rules list).cells
    given-is = (by.stands out (omega arith)).given_is ∙ at-close.written

    pub left-output : (made_to : OutputPart K) → sink_kind made_to ≡ sink_kind begun.to → LeavesOutput see.sink made_to (goes.lists out) (state.stages out).ended → LeftOutput see.sink begun.to made_to (end_list begun.rules list).cells cut why
    left-output made_to same left =
        cases begun.to made_to same at-output.sink left
      where
        takes : (old new : SinkView) → SinkTook old new (goes.lists out).given (goes.lists out).cut (state.stages out).ended → TakesTo old new (end_list begun.rules list).cells cut why
        takes old new left' =
            elim (sink-left old new (goes.lists out).given (goes.lists out).cut (state.stages out).ended left') [
              | inl failed ↦ subst (λ c. TakesTo old new (end_list begun.rules list).cells cut c) (sym (told-write failed.0))
                  (record { part = (goes.lists out).cut; taken = failed.1 ∙ ap (λ (l : List Cell). write_failed (took old (written l ++ (goes.lists out).cut))) given-is; cut = part-left failed.0 })
              | inr whole ↦ takes-other old new (end_list begun.rules list).cells cut why (λ is. whole.0 (write-told is)) (whole.1 ∙ ap (λ (l : List Cell). took old (written l)) given-is)
            ]

        cases : (to made : OutputPart K) → sink_kind made ≡ sink_kind to → IsSinkOf see.sink to (goes.lists out).sink → LeavesOutput see.sink made (goes.lists out) (state.stages out).ended
            → LeftOutput see.sink to made (end_list begun.rules list).cells cut why
        cases (output.Stream old) (output.Stream new) has sink leaves =
            takes (see.sink old) (see.sink new) (subst (λ (v : SinkView). SinkTook v (see.sink new) (goes.lists out).given (goes.lists out).cut (state.stages out).ended) sink leaves)
        cases output.Discard output.Discard has sink leaves = λ is. leaves (write-told is)
        cases (output.Stream old) output.Discard has sink leaves = let e : no_stream ≡ a_stream = has in cc
        cases output.Discard (output.Stream new) has sink leaves = let e : a_stream ≡ no_stream = has in cc

    -- ---- the plugins

    pub gave-to : Gave begun.plan.plugins begun.plan.buffer cut gave-of
    gave-to = record {
      input = at-close.made;
      falls = λ k le. given-falls laws begun.plan goes.valid_run.valid.users goes.visits by.run (suc k) k (omega arith);
      output = given-cut;
    }

    pub made-input : gave-of 0 ≤ length list.cells
    made-input = let first = so-far.lists 0 (omega arith) in omega (arith, ap (λ (l : List Cell). length l) first.1, length-append (state.stages 0).given first.0)

    pub met-all : (as_ : Heard P → List Cell → ℕ → Type 0) → ((j : ℕ) (plugin : Heard P) (history : List Cell) (mark : ℕ) → HeardSince see.rule see.stands (begun.told j) plugin history mark → as_ plugin history mark)
        → (j : ℕ) (rest : List (StagePart S K P)) (made : List (Heard P)) → AreTakenFrom see rest made → j + length made ≡ begun.plan.plugins
        → ((i : ℕ) (d : StagePart S K P) → i < length made → slice_index_or rest i d ≡ goes.part (suc (j + i))) → AllMetFirst as_ begun.rules list gave-of cut j made
    met-all as_ stands j [] [] taken number same = tt
    met-all as_ stands j [] (plugin ∷ made) taken number same = absurd taken
    met-all as_ stands j (part ∷ []) [] taken number same = tt
    met-all as_ stands j (part ∷ next ∷ rest) [] taken number same = tt
    met-all as_ stands j (part ∷ rest) (plugin ∷ made) taken number same =
        let lt : j < begun.plan.plugins = omega arith in
        let is : part ≡ goes.part (suc j) = same 0 part (omega arith) ∙ ap (λ n. goes.part (suc n)) (omega arith) in
        let here = at-plugin j lt in
        let own = by.stands (suc j) (omega (arith, lt)) in
        let holds : as_ plugin (goes.lists (suc j)).met (goes.lists (suc j)).mark =
        stands j plugin (goes.lists (suc j)).met (goes.lists (suc j)).mark
        (subst (λ (n : ℕ). HeardSince see.rule see.stands n plugin (goes.lists (suc j)).met (goes.lists (suc j)).mark) here.since
        (taken.0.holds (goes.lists (suc j)) (state.stages (suc j)).ended (subst (λ p. PartStands see p (goes.lists (suc j)) (state.stages (suc j)).ended) (sym is) own.stands_for))) in
        let reached : cut ≤ length (state.stages (suc j)).given = at-close.reached (suc j) (omega arith) in
        let falls : length (state.stages (suc j)).given ≤ length (state.stages j).given = given-falls laws begun.plan goes.valid_run.valid.users goes.visits by.run (suc j) j (omega arith) in
        let prefix : IsPrefix (state.stages j).given (stage_list begun.rules list j).cells = so-far.lists j (omega arith) in
        let first-of : take (gave-of (suc j)) (state.stages j).given ≡ take (gave-of (suc j)) (stage_list begun.rules list j).cells =
        sym (ap (take (gave-of (suc j))) prefix.1 ∙ take-append-le (gave-of (suc j)) (state.stages j).given prefix.0 falls) in (
          record {
            mark = (goes.lists (suc j)).mark;
            holds = subst (λ (h : List Cell). as_ plugin h (goes.lists (suc j)).mark) (here.met ∙ first-of) holds;
            told = (let a = own.mark in let b = written-cut in omega arith);
            reach = reached;
            within = (let a = falls in omega (arith, ap (λ (l : List Cell). length l) prefix.1, length-append (state.stages j).given prefix.0));
          },
          met-all as_ stands (suc j) rest made taken.1 (omega arith) (λ i d below. same (suc i) d (omega arith) ∙ ap (λ n. goes.part (suc n)) (omega arith)),
        )

    -- ---- memory

    pub wants-of : (k : ℕ) → why ≡ cause.NoMemory k → WantsMemory begun.rooms begun.plan.buffer k
    wants-of k is =
        elim at-close.told [
          | inl joint ↦ (let e = joint.0 in let f : cause.Joint ≡ cause.NoMemory k = sym e ∙ is in cc)
          | inr told ↦ (let ends = told.1 in
              let same = end-of-no_memory told.0 ends.end k (ends.gives ∙ ap (λ c. Some c) is) in
              let ended : (state.stages told.0).ended ≡ Some NoMemory = ends.ended ∙ ap (λ e. Some e) same.0 in
              at-stage k (subst (λ i. i ≤ out) same.1 told.2) (subst (λ i. (state.stages i).ended ≡ Some NoMemory) same.1 ended))
        ]
      where
        of-plugin : (j : ℕ) → j < begun.plan.plugins → (state.stages (suc j)).ended ≡ Some NoMemory → WantsMemory begun.rooms begun.plan.buffer (suc j)
        of-plugin j lt ended =
            let here = at-plugin j lt in
            let wants = wants-kind see (goes.part (suc j)) begun.plan.buffer ((by.stands (suc j) (omega (arith, lt))).memory ended) in
            record {
              after_input = omega arith;
              there_is = (let a = goes.valid_run.rooms_are in omega arith);
              no_room = λ has. wants.1 (subst (λ (room : Option ℕ). IsPreallocatedFor room begun.plan.buffer)
                  (ap (λ n. slice_index_or begun.rooms n None) (let e : suc j - 1 ≡ j = omega arith in e) ∙ sym here.room_is) has);
            }

        at-stage : (k' : ℕ) → k' ≤ out → (state.stages k').ended ≡ Some NoMemory → WantsMemory begun.rooms begun.plan.buffer k'
        at-stage zero le ended =
            let wants = wants-kind see (goes.part 0) begun.plan.buffer ((by.stands 0 (omega arith)).memory ended) in
            let e : an_input ≡ a_plugin = sym at-input.kind ∙ wants.0 in cc
        at-stage (suc j) le ended =
            elim (cases_lt j begun.plan.plugins) [
              | inl lt ↦ of-plugin j lt ended
              | inr far' ↦ (let same : suc j ≡ out = omega arith in
                  let wants = wants-kind see (goes.part out) begun.plan.buffer ((by.stands out (omega arith)).memory (subst (λ i. (state.stages i).ended ≡ Some NoMemory) same ended)) in
                  let e : an_output ≡ a_plugin = sym at-output.kind ∙ wants.0 in cc)
            ]

  -- the rules are those of the plugins that went in
  pub rules-all : (j : ℕ) (rules : List PluginRule) (rest : List (StagePart S K P)) (made : List (Heard P)) → AreTakenFrom see rest made → length made ≡ length rules → j + length made ≡ begun.plan.plugins
      → ((i : ℕ) (d : StagePart S K P) → i < length made → slice_index_or rest i d ≡ goes.part (suc (j + i)))
      → ((i : ℕ) → i < length made → rule_after begun.rules (j + i) ≡ rule_after rules i) → map (heard_rule see) made ≡ rules
  rules-all j [] rest [] taken long number same are = refl
  rules-all j (r ∷ rules) rest [] taken long number same are = absurd (omega arith)
  rules-all j [] rest (plugin ∷ made) taken long number same are = absurd (omega arith)
  rules-all j (r ∷ rules) [] (plugin ∷ made) taken long number same are = absurd taken
  rules-all j (r ∷ rules) (part ∷ rest) (plugin ∷ made) taken long number same are =
      let lt : j < begun.plan.plugins = omega arith in
      let is : part ≡ goes.part (suc j) = same 0 part (omega arith) ∙ ap (λ n. goes.part (suc n)) (omega arith) in
      let head : heard_rule see plugin ≡ r = taken.0.same_rule ∙ (ap (λ p. rule_of see p) is ∙ ((at-plugin j lt).rule_is ∙ (ap (rule_after begun.rules) (omega arith) ∙ are 0 (omega arith)))) in
      let tail : map (heard_rule see) made ≡ rules = rules-all (suc j) rules rest made taken.1 (omega arith) (omega arith) (λ i d below. same (suc i) d (omega arith) ∙ ap (λ n. goes.part (suc n)) (omega arith))
      (λ i below. ap (rule_after begun.rules) (omega arith) ∙ are (suc i) (omega arith)) in
      λ i. head i ∷ tail i
