-- The run of a chain without plugins.
use Rattle.std.proofs.Common.{◌≡◌, ℕ, ◌≤◌, List, [], ◌∷◌, length, Option, Some, Bool, true, false, refl, ap, sym, ◌∙◌, subst, arith, inl, inr}
use Rattle.std.specs.Prelude.{if◌then◌else◌, IsTrue, unwrap_or}
use Rattle.std.specs.List.{All}
use Rattle.std.proofs.Common.{map}
use Rattle.std.proofs.lemmas.Bool.{eq-eqb}
use Rattle.ts_outside.specs.Source.{SourceView}
use Rattle.chain_model.specs.declared.cause.Cause.{Cause}
use Rattle.chain_model.specs.declared.cause.Cause.TheVariants as cause
use Rattle.chain_model.specs.declared.input_end.InputEnd.{InputEnd}
use Rattle.chain_model.specs.declared.input_end.InputEnd.TheVariants.{End, Sync, ReadFault, TooLong}
use Rattle.chain_model.specs.Apply.{StageList, OwnEnd, input_over}
use Rattle.chain_model.specs.InputList.{input_of_bytes}
use Rattle.chain_model.specs.Stuffed.{no_stuffing}
use Rattle.chain_model.specs.Cut.{IsValidFault, IsPureClose}
use Rattle.chain_model.specs.Cut as cut
use Rattle.chain_core.specs.declared.closed.Closed.{Closed}
use Rattle.chain_core.specs.declared.core_plan.CorePlan.{CorePlan}
use Rattle.chain_core.specs.Stages.{stages_of}
use Rattle.chain_core.specs.CoreNumbers.{IsValidPlan}
use Rattle.plugin_trait.specs.declared.heard.Heard.{Heard}
use Rattle.stage_run.specs.Seeing.{Seeing}
use Rattle.stage_run.specs.declared.input_part.InputPart.{InputPart}
use Rattle.stage_run.specs.declared.input_part.InputPart.TheVariants as input
use Rattle.stage_run.specs.declared.output_part.OutputPart.{OutputPart}
use Rattle.chain_run.specs.RunOf.{RunOf, LeftInput, LeftOutput}
use Rattle.chain_run.specs.SourceRead.{ReadsSource}
use Rattle.chain_plays.specs.declared.ahead.TheConstants.{NO_STUFFING}
use Rattle.chain_plays.specs.declared.played.PlayEnd.{PlayEnd}
use Rattle.chain_plays.specs.declared.played.PlayEnd.TheVariants.{Input, WriteFault}
use Rattle.chain_plays.specs.declared.played.PlayCut.{PlayCut}
use Rattle.chain_plays.specs.Played.{PlayRan, CutsPlay}
use Rattle.chain_plays.specs.PlayList.{play_of, EndsAs}
use Rattle.std.proofs.Common.{Result, Ok, Err, IfOk, IsOk, OnErr}
use Rattle.std.specs.declared.alloc.AllocError.{AllocError}
use Rattle.chain_run.specs.RunOf.{NeverBegan}
use Rattle.chain_plays.specs.Played.{RunsTo}
use Rattle.chain_plays.specs.PlayList as play

-- ---- the list of a play ends by its input

limit-ends : (b : Bool) (one other : StageList) (how : InputEnd) → one.ended ≡ Some (input_over how) → other.ended ≡ Some (input_over TooLong) → (e : InputEnd) × ((if b then one else other).ended ≡ Some (input_over e))
limit-ends true one other how a b = (how, a)
limit-ends false one other how a b = (TooLong, b)

play-ends : (bytes : List ℕ) → (how : InputEnd) × ((play_of bytes).ended ≡ Some (input_over how))
play-ends bytes = limit-ends _ _ _ (input_of_bytes bytes).ended refl refl

-- ---- cut and cause without faults

pure-cause : (list : StageList) (how : InputEnd) → list.ended ≡ Some (input_over how) → cut.cause_of [] list [] ≡ cause.Input how
pure-cause list how e =
    let n = length list.cells in
    let Q : Bool → Type 0 = λ b. unwrap_or (cut.first_cause (map (λ (x : cut.Ending). x.cause) (if b then record { at = n; cause = cause.Input how } ∷ [] else []))) cause.Joint ≡ cause.Input how in
    let one : cut.cause_of [] (record { cells = list.cells; ended = Some (input_over how) }) [] ≡ cause.Input how = subst Q (sym (eq-eqb n n refl)) refl in
    subst (λ (o : Option OwnEnd). cut.cause_of [] (record { cells = list.cells; ended = o }) [] ≡ cause.Input how) (sym e) one

no-users : (plan : CorePlan) → IsValidPlan plan → plan.plugins ≡ 0 → stages_of plan.users ≡ []
no-users plan valid none = go (stages_of plan.users) valid.users
  where
    go : (users : List ℕ) → All (λ k. (1 ≤ k) × (k ≤ plan.plugins)) users → users ≡ []
    go [] all = refl
    go (x ∷ xs) all = absurd (let both = all 0 x (omega arith) in let low = both.0 in let high = both.1 in omega (arith, low, high, none))

-- the play ended as its list does, or by a fault
record Found (list : StageList) (count : ℕ) (why : Cause) : Type 0 where
  pub end : PlayEnd
  pub is : play.cause_of end ≡ why
  pub ends : EndsAs list count end

pure-found : (list : StageList) (count : ℕ) (how : InputEnd) → list.ended ≡ Some (input_over how) → count ≡ length list.cells → EndsAs list count (Input how)
pure-found list count (End left) e c = record { whole = c; ended = e }
pure-found list count (Sync packet) e c = record { whole = c; ended = e }
pure-found list count ReadFault e c = omega (arith, c)
pure-found list count TooLong e c = record { whole = c; ended = e }

fault-found : (list : StageList) (count : ℕ) (why : Cause) → IsTrue (cut.is_fault why) → count ≤ length list.cells → ((k : ℕ) → why ≡ cause.NoMemory k → ⊥) → Found list count why
fault-found list count (cause.Input (End left)) t le no_memory = absurd cc
fault-found list count (cause.Input (Sync packet)) t le no_memory = absurd cc
fault-found list count (cause.Input ReadFault) t le no_memory = record { end = Input ReadFault; is = refl; ends = le }
fault-found list count (cause.Input TooLong) t le no_memory = absurd cc
fault-found list count cause.Joint t le no_memory = absurd cc
fault-found list count (cause.Until k) t le no_memory = absurd cc
fault-found list count (cause.Stop k) t le no_memory = absurd cc
fault-found list count (cause.Refuse k reason) t le no_memory = absurd cc
fault-found list count cause.WriteFault t le no_memory = record { end = WriteFault; is = refl; ends = le }
fault-found list count (cause.NoMemory k) t le no_memory = absurd (no_memory k refl)

-- the input that is left is a source
pub record LeftSource {S : Type 0} (seen : S → SourceView) (buffer : ℕ) (old : S) (made : InputPart S) (cut : ℕ) (why : Cause) : Type 0 where
  pub source : S
  pub is : made ≡ input.Stream source
  pub reads : ReadsSource no_stuffing buffer (seen old) (seen source) cut why

left-source : {S : Type 0} (seen : S → SourceView) (buffer : ℕ) (old : S) (made : InputPart S) (cut : ℕ) (why : Cause) → LeftInput seen no_stuffing buffer (input.Stream old) made cut why → LeftSource seen buffer old made cut why
left-source seen buffer old (input.Stream new) cut why l = record { source = new; is = refl; reads = l }
left-source seen buffer old (input.Nulls count) cut why l = absurd l
left-source seen buffer old (input.Generated generator count) cut why l = absurd l

module _ {S K P : Type 0} (see : Seeing S K P) (plan : CorePlan) (valid : IsValidPlan plan) (none : plan.plugins ≡ 0) (source : S) (made_from : InputPart S) (made : List (Heard P)) (to made_to : OutputPart K) (closed : Closed)
    (run : RunOf see (input.Stream source) made_from NO_STUFFING [] made to made_to plan closed) where
  abbrev bytes : List ℕ
  bytes = run.is_list.0

  list-is : run.list ≡ play_of bytes
  list-is = run.is_list.1

  ends : (how : InputEnd) × (run.list.ended ≡ Some (input_over how))
  ends = (let e = play-ends bytes in (e.0, ap (λ (l : StageList). l.ended) list-is ∙ e.1))

  no-memory : (k : ℕ) → closed.cause ≡ cause.NoMemory k → ⊥
  no-memory k e = (let w = run.memory k e in let low = w.after_input in let high = w.there_is in absurd (omega (arith, low, high)))

  found : Found run.list closed.cut closed.cause
  found = elim run.closes [
    | inl pure ↦ (let p = subst (λ users. IsPureClose [] run.list users closed.cut closed.cause) (no-users plan valid none) pure in
        record { end = Input ends.0; is = sym (p.1 ∙ pure-cause run.list ends.0 ends.1); ends = pure-found run.list closed.cut ends.0 ends.1 p.0 })
    | inr fault ↦ (let f = subst (λ users. IsValidFault [] run.list users closed.cut closed.cause) (no-users plan valid none) fault in
        fault-found run.list closed.cut closed.cause f.fault f.within no-memory)
  ]

  pub left_part : LeftSource see.source plan.buffer source made_from closed.cut closed.cause
  left_part = left-source see.source plan.buffer source made_from closed.cut closed.cause run.input

  pub the_end : (end : PlayEnd) × (closed.cause ≡ play.cause_of end)
  the_end = (found.end, sym found.is)

  same-end : (one other : PlayEnd) → play.cause_of one ≡ play.cause_of other → one ≡ other
  same-end (Input how) (Input other) e = (let f : cause.Input how ≡ cause.Input other = e in cc)
  same-end (Input how) WriteFault e = absurd (let f : cause.Input how ≡ cause.WriteFault = e in cc)
  same-end WriteFault (Input how) e = absurd (let f : cause.WriteFault ≡ cause.Input how = e in cc)
  same-end WriteFault WriteFault e = refl

  pub ran : (new : S) → made_from ≡ input.Stream new → (out : PlayCut) → CutsPlay closed out → PlayRan see.source see.sink plan.buffer source new to made_to out
  ran new is out cuts = record {
    content = bytes;
    told = run.is_list.2;
    ends = subst (λ (l : StageList). EndsAs l out.count out.end) list-is
        (subst (λ n. EndsAs run.list n out.end) (sym cuts.count) (subst (λ e. EndsAs run.list closed.cut e) (same-end found.end out.end (found.is ∙ sym cuts.end)) found.ends));
    output = subst (λ (l : StageList). LeftOutput see.sink to made_to l.cells out.count (play.cause_of out.end)) list-is
        (subst (λ n. LeftOutput see.sink to made_to run.list.cells n (play.cause_of out.end)) (sym cuts.count)
        (subst (λ c. LeftOutput see.sink to made_to run.list.cells closed.cut c) (sym cuts.end) run.output));
    reads = subst (λ s. ReadsSource no_stuffing plan.buffer (see.source source) (see.source s) out.count (play.cause_of out.end)) (same-source left_part.source new (sym left_part.is ∙ is))
        (subst (λ n. ReadsSource no_stuffing plan.buffer (see.source source) (see.source left_part.source) n (play.cause_of out.end)) (sym cuts.count)
        (subst (λ c. ReadsSource no_stuffing plan.buffer (see.source source) (see.source left_part.source) closed.cut c) (sym cuts.end) left_part.reads));
  }
    where
      same-source : (a b : S) → input.Stream a ≡ input.Stream b → a ≡ b
      same-source a b e = cc

-- what the drivers give of a play
module _ {S K P : Type 0} (see : Seeing S K P) (plan : CorePlan) (source : S) (made_from : InputPart S) (made : List (Heard P)) (to made_to : OutputPart K) where
  pub serial_runs : (r : Result Closed AllocError) → IfOk r (RunOf see (input.Stream source) made_from NO_STUFFING [] made to made_to plan) → OnErr r (NeverBegan (input.Stream source) made_from [] made to made_to)
      → RunsTo see plan source made_from made to made_to r
  serial_runs (Ok closed) ok err = ok
  serial_runs (Err fault) ok err = (err.input, err.output)

  pub threaded_runs : (r : Result Closed AllocError) → IfOk r (RunOf see (input.Stream source) made_from NO_STUFFING [] made to made_to plan) → IsOk r → RunsTo see plan source made_from made to made_to r
  threaded_runs (Ok closed) ok is = ok
  threaded_runs (Err fault) ok is = absurd cc
