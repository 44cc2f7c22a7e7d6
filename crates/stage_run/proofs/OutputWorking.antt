-- An output's work, put together from what it wrote.
use Rattle.std.proofs.Common.{◌≡◌, ◌≢◌, ℕ, suc, ◌+◌, ◌-◌, ◌<◌, ◌||◌, min, ◌≤◌, if◌then◌else◌, Bool, true, false, List, [], ◌∷◌, ◌++◌, length, take, drop, refl, ap, sym, ◌∙◌, arith, append_assoc, append-nil, length-take, subst, Option, None, Some, inl, inr, take-append-drop}
use native.Mathlib.Numerals.{unary_clauses}
use Rattle.std.proofs.lemmas.Bool.{leb-false}
use Rattle.ts_packet.specs.declared.cell.Cell.{Cell}
use Rattle.ts_outside.specs.Count.{raised}
use Rattle.ts_outside.specs.Sink.{SinkView, took, write_failed}
use Rattle.ts_outside.proofs.Views.{took-nil, took-took}
use Rattle.chain_model.specs.PluginRule.{PluginRule, passing_rule}
use Rattle.chain_model.specs.Apply.{StageList, last_passed, apply}
use Rattle.chain_model.specs.Joint.{agreement_after}
use Rattle.chain_model.specs.Written.{written, IsPartOfFirst}
use Rattle.chain_model.proofs.ApplyLaws.{apply-passes}
use Rattle.chain_core.specs.declared.news.News.{News}
use Rattle.chain_core.specs.declared.stage_end.StageEnd.{StageEnd}
use Rattle.chain_core.specs.declared.stage_end.StageEnd.TheVariants.{Input, Last, Stop, Refuse, WriteFault, NoMemory, Followed}
use Rattle.chain_core.specs.Keeps.{EndsAs, KeepsList, KeepsAgreement}
use Rattle.stage_run.specs.declared.output_part.OutputPart.{OutputPart}
use Rattle.stage_run.specs.declared.output_part.OutputPart.TheVariants.{Stream, Discard}
use Rattle.stage_run.specs.declared.output_stage.OutputStage.{OutputStage}
use Rattle.stage_run.specs.PartLists.{PartLists}
use Rattle.stage_run.specs.PartStands.{MayWork}
use Rattle.stage_run.specs.OutputStands.{SamePart, SinkTook, PartTook, OutputStands}
use Rattle.stage_run.specs.Writing.{PartWrites}
use Rattle.stage_run.specs.Telling.{is_reached, may_follow, followed, below_limit}
use Rattle.stage_run.specs.Works.{Works, OutputWorks, OutputTells, FaultsTold, sink_faults, KeepsRule}
use Rattle.stage_run.proofs.InputWorking.{plain_work}
use Rattle.std.proofs.lemmas.List.{take-take}
use Rattle.stage_run.proofs.WritingLemmas.{written-append, part-of-all}

-- the rule of the output never agrees
agreement_after-passes : (history xs : List Cell) → agreement_after passing_rule history xs ≡ None
unfolding passing_rule
agreement_after-passes history [] = refl
agreement_after-passes history (x ∷ xs) = agreement_after-passes (history ++ x ∷ []) xs

-- what an output reports
abbrev pub IsOutputEnd : Option StageEnd → Type 0
IsOutputEnd None = Unit {0}
IsOutputEnd (Some Followed) = Unit {0}
IsOutputEnd (Some WriteFault) = Unit {0}
IsOutputEnd (Some _) = ⊥

IsOutputEnd-followed : (b : Bool) → IsOutputEnd (if b then Some Followed else None)
IsOutputEnd-followed true = tt
IsOutputEnd-followed false = tt

ends_as : (plugins : ℕ) (list : StageList) (given : List Cell) (told : Option StageEnd) → IsOutputEnd told
    → (end : StageEnd) → told ≡ Some end → EndsAs plugins (suc plugins) list given end
ends_as plugins list given told is (Input how) e = absurd (subst IsOutputEnd e is)
ends_as plugins list given told is Last e = absurd (subst IsOutputEnd e is)
ends_as plugins list given told is Stop e = absurd (subst IsOutputEnd e is)
ends_as plugins list given told is (Refuse reason) e = absurd (subst IsOutputEnd e is)
ends_as plugins list given told is WriteFault e = refl
ends_as plugins list given told is NoMemory e = tt
ends_as plugins list given told is Followed e = tt

-- an output's visits are those of a stage that passes everything
pub keeps_passing : (lists : PartLists) (cells : List Cell) (done plugins : ℕ) (told : Option StageEnd) → lists.given ≡ lists.met → IsOutputEnd told
    → KeepsRule passing_rule lists cells (take done cells) (record { agreed = None; ended = told }) plugins plugins
keeps_passing lists cells done plugins told same is rules input rest e =
    let met : List Cell = lists.met ++ (cells ++ rest) in
    let given : List Cell = lists.given ++ take done cells in
    let passes = apply-passes met in
    let prefix : met ≡ given ++ (drop done cells ++ rest) =
    ap (λ (l : List Cell). l ++ (cells ++ rest)) (sym same)
    ∙ ap (λ (l : List Cell). lists.given ++ (l ++ rest)) (sym (take-append-drop done cells))
    ∙ ap (λ (l : List Cell). lists.given ++ l) (append_assoc (take done cells) (drop done cells) rest)
    ∙ sym (append_assoc lists.given (take done cells) (drop done cells ++ rest)) in
    let list : KeepsList plugins (suc plugins) (apply passing_rule met) given told = record {
      gives = (drop done cells ++ rest, passes.0 ∙ prefix);
      ends = ends_as plugins (apply passing_rule met) given told is;
      last_at_once = λ last. let no_end : None ≡ Some last_passed = sym passes.1 ∙ last.ended in cc;
    } in
    let now : ℕ = length lists.given + length (take done cells) in
    let agreement : KeepsAgreement passing_rule (take now met) (length lists.given) None = record {
      truly = λ agreed told. cc;
      at_once = λ agreed agrees. let none : None ≡ Some agreed = sym (agreement_after-passes [] (take now met)) ∙ agrees in cc;
    } in
    record {
      list = subst (λ (rule : PluginRule). KeepsList plugins (suc plugins) (apply rule met) given told) (sym e) list;
      agreement = subst (λ (rule : PluginRule). KeepsAgreement rule (take now met) (length lists.given) None) (sym e) agreement;
    }

below_least : (known : Option ℕ) (at len limit done : ℕ) → known ≡ Some limit → done ≤ below_limit known at len → 0 < done → at + done ≤ limit
below_least None at len limit done is few some = cc
below_least (Some l) at len limit done is few some = let same : l ≡ limit = cc in omega arith

-- an output that goes on has given all its cells, for none of them is past the limit
pub goes-past-limit : (news : News) (at done len : ℕ) (cells : List Cell) → len ≡ below_limit news.limit at (length cells) → done ≡ len
    → followed news (at + done) ≡ None → done ≡ length cells
goes-past-limit news at done len cells is same none =
    below news.limit (not-reached news.before_over news.after_over (is_reached news.limit (at + done)) (open_ (may_follow news (at + done)) none)) (same ∙ is)
  where
    open_ : (b : Bool) → (if b then Some Followed else None) ≡ None → b ≡ false
    open_ true e = cc
    open_ false e = refl

    not-reached : (a b c : Bool) → (a || (b || c)) ≡ false → c ≡ false
    not-reached true b c e = absurd cc
    not-reached false true c e = absurd cc
    not-reached false false c e = e

    below : (limit : Option ℕ) → is_reached limit (at + done) ≡ false → done ≡ below_limit limit at (length cells) → done ≡ length cells
    below None far few = few
    below (Some l) far few = let past : at + done < l = leb-false l (at + done) far in let least : done ≡ min (length cells) (l - at) = few in omega arith

tells_whole : (b : Bool) (news : News) (at done : ℕ) (cells : List Cell) (cut : List ℕ) → done ≡ below_limit news.limit at (length cells)
    → OutputTells news at cells done cut (if b then Some Followed else None)
tells_whole true news at done cells cut is = is
tells_whole false news at done cells cut is = is

faults_whole : (b : Bool) (old new : ℕ) → new ≡ old → FaultsTold old new (if b then Some Followed else None) WriteFault
faults_whole true old new is = (λ e. cc, λ e. is)
faults_whole false old new is = (λ e. cc, λ e. is)

no_write_fault : (b : Bool) → (if b then Some Followed else None) ≢ Some WriteFault
no_write_fault true e = cc
no_write_fault false e = cc

SinkTook-whole : (b : Bool) (first now : SinkView) (given : List Cell) → now ≡ took first (written given)
    → SinkTook first now given [] (if b then Some Followed else None)
SinkTook-whole true first now given is = (is, refl)
SinkTook-whole false first now given is = (is, refl)

-- the lists of an output that gave these cells more
abbrev pub lists_given : PartLists → List Cell → List ℕ → PartLists
lists_given lists cells cut = record {
  met = lists.met ++ cells;
  given = lists.given ++ cells;
  read = lists.read;
  cut = cut;
  source = lists.source;
  sink = lists.sink;
  mark = lists.mark;
  from = lists.from;
}

module _ {K : Type 0} (seen : K → SinkView) where
  took_whole : (old new : OutputPart K) (lists : PartLists) (piece : List Cell) (done : ℕ) (b : Bool) → length piece ≤ done
      → PartTook seen old lists None → PartWrites seen old new piece done
      → PartTook seen new (lists_given lists piece []) (if b then Some Followed else None) × (sink_faults seen new ≡ sink_faults seen old)
  took_whole (Stream old) (Stream new) lists piece done b all was (inl whole) = (
    SinkTook-whole b lists.sink (seen new) (lists.given ++ piece)
        (whole.1
        ∙ ap (λ (view : SinkView). took view (written piece)) was.0
        ∙ took-took lists.sink (written lists.given) (written piece)
        ∙ ap (took lists.sink) (sym (written-append lists.given piece))),
    ap (λ (view : SinkView). view.faults) whole.1,
  )
  took_whole (Stream old) (Stream new) lists piece done b all was (inr cut) = let few : done < length piece = cut.0 in absurd (omega arith)
  took_whole (Stream old) Discard lists piece done b all was writes = absurd writes
  took_whole Discard (Stream new) lists piece done b all was writes = absurd writes
  took_whole Discard Discard lists piece done b all was writes = (no_write_fault b, refl)

  same_part : (old new : OutputPart K) (piece : List Cell) (done : ℕ) → PartWrites seen old new piece done → SamePart old new
  same_part (Stream old) (Stream new) piece done writes = tt
  same_part (Stream old) Discard piece done writes = absurd writes
  same_part Discard (Stream new) piece done writes = absurd writes
  same_part Discard Discard piece done writes = tt

  -- what was written of the packet at which a write failed
  pub record Cut (old new : OutputPart K) (lists : PartLists) (piece : List Cell) (done : ℕ) : Type 0 where
    pub part : List ℕ
    pub took_part : PartTook seen new (lists_given lists (take done piece) part) (Some WriteFault)
    pub is_part : IsPartOfFirst (drop done piece) part
    pub faults : sink_faults seen new ≡ raised (sink_faults seen old)

  took_cut : (old new : OutputPart K) (lists : PartLists) (piece : List Cell) (done : ℕ) → done < length piece
      → PartTook seen old lists None → PartWrites seen old new piece done → Cut old new lists piece done
  took_cut (Stream old) (Stream new) lists piece done few was (inl whole) = let all : done ≡ length piece = whole.0 in absurd (omega arith)
  took_cut (Stream old) (Stream new) lists piece done few was (inr cut) = record {
    part = cut.1.part;
    took_part = cut.1.taken
        ∙ ap write_failed
        (ap (λ (view : SinkView). took view (written (take done piece) ++ cut.1.part)) was.0
        ∙ took-took lists.sink (written lists.given) (written (take done piece) ++ cut.1.part)
        ∙ ap (took lists.sink)
        (sym (append_assoc (written lists.given) (written (take done piece)) cut.1.part)
        ∙ ap (λ (l : List ℕ). l ++ cut.1.part) (sym (written-append lists.given (take done piece)))));
    is_part = cut.1.cut;
    faults = ap (λ (view : SinkView). view.faults) cut.1.taken;
  }
  took_cut (Stream old) Discard lists piece done few was writes = absurd writes
  took_cut Discard (Stream new) lists piece done few was writes = absurd writes
  took_cut Discard Discard lists piece done few was writes = let all : done ≡ length piece = writes in absurd (omega arith)

  -- an output that gave all its cells below the limit
  pub output_whole : (old new : OutputStage K) (lists : PartLists) (news : News) (cells : List Cell) (at written len done : ℕ)
      → MayWork (OutputStands seen old) at written lists → len ≡ below_limit news.limit at (length cells) → len ≤ length cells
      → len ≤ done → done ≤ length (take len cells) → PartWrites seen old.part new.part (take len cells) done
      → Works (OutputStands seen new) (OutputWorks seen old new lists news cells cells (plain_work done (followed news (at + done)))) lists written cells cells (plain_work done (followed news (at + done)))
  output_whole old new lists news cells at written len done may is within all few writes =
      let was : OutputStands seen old lists None = may.goes_on in
      let given_is : length lists.given ≡ at = may.given in
      let long : length (take len cells) ≡ len = omega (arith, length-take len cells) in
      let same : done ≡ len = omega arith in
      let b : Bool = may_follow news (at + done) in
      let piece : take done cells ≡ take len cells = ap (λ (n : ℕ). take n cells) same in
      let took_all = took_whole old.part new.part lists (take len cells) done b (omega arith) was.took writes in
      let after : PartLists = lists_given lists (take done cells) [] in
      record {
        after = after;
        behind = record { met = refl; given = refl; read = ([], sym (append-nil lists.read)); source = refl; sink = refl; mark = may.mark; from = refl };
        stands = record {
          same = ap (λ (l : List Cell). l ++ take done cells) was.same;
          took = subst (λ (l : List Cell). PartTook seen new.part (lists_given lists l []) (if b then Some Followed else None)) (sym piece) took_all.0;
        };
        does = record {
          unchanged = refl;
          tells = tells_whole b news (length lists.given) done cells [] (same ∙ is ∙ ap (λ (n : ℕ). below_limit news.limit n (length cells)) (sym given_is));
          agreed = refl;
          same = same_part old.part new.part (take len cells) done writes;
          faults = faults_whole b (sink_faults seen old.part) (sink_faults seen new.part) took_all.1;
          below = λ limit known some. below_least news.limit (length lists.given) (length cells) limit done known
              (let few : done ≡ below_limit news.limit (length lists.given) (length cells) = same ∙ is ∙ ap (λ (n : ℕ). below_limit news.limit n (length cells)) (sym given_is) in omega arith) some;
          keeps = λ plugins. keeps_passing lists cells done plugins (followed news (at + done)) was.same (IsOutputEnd-followed b);
        };
      }

  -- an output without a cell in its hands
  none_written : (part : OutputPart K) → PartWrites seen part part [] 0
  none_written (Stream sink) = inl (refl, sym (took-nil (seen sink)))
  none_written Discard = refl

  none_below : (limit : Option ℕ) (at : ℕ) → 0 ≡ below_limit limit at 0
  none_below None at = refl
  none_below (Some limit) at = simp unary_clauses refl

  pub output_none : (old : OutputStage K) (lists : PartLists) (news : News) (at written : ℕ) → MayWork (OutputStands seen old) at written lists
      → Works (OutputStands seen old) (OutputWorks seen old old lists news [] [] (plain_work 0 (followed news (at + 0)))) lists written [] [] (plain_work 0 (followed news (at + 0)))
  output_none old lists news at written may =
      output_whole old old lists news [] at written 0 0 may (none_below news.limit at) (omega arith) (omega arith) (omega arith) (none_written old.part)

  -- an output of which a write failed
  pub output_cut : (old new : OutputStage K) (lists : PartLists) (news : News) (cells : List Cell) (at written len done : ℕ)
      → MayWork (OutputStands seen old) at written lists → len ≡ below_limit news.limit at (length cells) → len ≤ length cells
      → done < len → PartWrites seen old.part new.part (take len cells) done
      → Works (OutputStands seen new) (OutputWorks seen old new lists news cells cells (plain_work done (Some WriteFault))) lists written cells cells (plain_work done (Some WriteFault))
  output_cut old new lists news cells at written len done may is within few writes =
      let was : OutputStands seen old lists None = may.goes_on in
      let given_is : length lists.given ≡ at = may.given in
      let long : length (take len cells) ≡ len = omega (arith, length-take len cells) in
      let piece : take done (take len cells) ≡ take done cells = take-take done len cells (omega arith) in
      let cut = took_cut old.part new.part lists (take len cells) done (omega arith) was.took writes in
      let after : PartLists = lists_given lists (take done cells) cut.part in
      let limit_is : below_limit news.limit (length lists.given) (length cells) ≡ len = ap (λ (n : ℕ). below_limit news.limit n (length cells)) given_is ∙ sym is in
      record {
        after = after;
        behind = record { met = refl; given = refl; read = ([], sym (append-nil lists.read)); source = refl; sink = refl; mark = may.mark; from = refl };
        stands = record {
          same = ap (λ (l : List Cell). l ++ take done cells) was.same;
          took = subst (λ (l : List Cell). PartTook seen new.part (lists_given lists l cut.part) (Some WriteFault)) piece cut.took_part;
        };
        does = record {
          unchanged = refl;
          tells = (omega arith, part-of-all len done cells cut.part (omega arith) cut.is_part);
          agreed = refl;
          same = same_part old.part new.part (take len cells) done writes;
          faults = (λ failed. cut.faults, λ other. absurd (other refl));
          below = λ limit known some. below_least news.limit (length lists.given) (length cells) limit done known (omega arith) some;
          keeps = λ plugins. keeps_passing lists cells done plugins (Some WriteFault) was.same tt;
        };
      }
