-- The end of a call, after its plays.
use Rattle.std.proofs.Common.{◌≡◌, ℕ, ◌+◌, ◌<◌, arith, List, [], ◌∷◌, ◌++◌, length, take, Bool, true, false, Option, None, Some, refl, ap, sym, ◌∙◌, subst, inl, inr, append-nil, append_assoc}
use Rattle.std.specs.Option.{option_map}
use Rattle.std.specs.Prelude.{nat_lt, if◌then◌else◌, ◌||◌, ◌⊎◌}
use Rattle.std.proofs.lemmas.Bool.Decides.{nat_tests}
use Rattle.std.specs.String.{string_bytes}
use Rattle.ts_packet.specs.declared.cell.Cell.{Cell}
use Rattle.ts_outside.specs.Count.{HasCause, raised}
use Rattle.ts_outside.specs.Told.{grown}
use Rattle.ts_outside.specs.Sink.{SinkView, took}
use Rattle.ts_outside.specs.Desk.{DeskView, with_output}
use Rattle.ts_outside.proofs.Views.{took-took, HasCause-raised}
use Rattle.chain_model.specs.Written.{written}
use Rattle.chain_core.specs.declared.core_plan.CorePlan.{CorePlan}
use Rattle.stage_run.specs.declared.output_part.OutputPart.{OutputPart}
use Rattle.stage_run.specs.declared.output_part.OutputPart.TheVariants as out
use Rattle.chain_run.specs.RunOf.{LeftOutput}
use Rattle.chain_plays.specs.declared.played.PlayEnd.{PlayEnd}
use Rattle.chain_plays.specs.declared.played.PlayEnd.TheVariants.{Input, WriteFault}
use Rattle.chain_model.specs.declared.input_end.InputEnd.TheVariants.{End, Sync, ReadFault, TooLong}
use Rattle.chain_plays.specs.PlayList.{cause_of}
use Rattle.switch_top.specs.PlayCuts.{end_of}
use Rattle.switch_top.specs.Nexts.{PlayKind}
use Rattle.switch_top.specs.declared.status.SwitchStatus.{SwitchStatus}
use Rattle.switch_top.specs.declared.stepping.Switched.{Switched}
use Rattle.switch_top.specs.PlayNames.{PlayName}
use Rattle.switch_top.specs.Lines.{play_line, switch_end_line}
use Rattle.switch_top.specs.SoFar.{OutputTook, RanTo}
use Rattle.switch_top.specs.PlaysAfter.{cells_of, lines_of}
use Rattle.ts_outside.specs.Saying.{Says}
use Rattle.ts_outside.specs.Entries.{outputs_with}
use Rattle.switch_top.specs.SwitchEnds.{ReportsPlays, CountsOutput, IsPart, SwitchRan, SwitchWanted, SwitchesPlan, wanted, ran, opened_as}
use Rattle.switch_top.specs.OutputKept.{closed_as, ClosesWell, IsOutputOf}
use Rattle.switch_top.specs.declared.status.SwitchStatus.TheVariants as status
use Rattle.switch_top.specs.SoFar.{AreAllPlayed, Wanted}
use Rattle.switch_top.specs.declared.stepping.AllPlayed.{AllPlayed}
use Rattle.switch_top.specs.declared.stepping.AllPlayed.TheVariants as all
use Rattle.std.proofs.Common.{Err}
use Rattle.ts_outside.specs.OpenFault.{MatchOpen}
use Rattle.ts_outside.specs.declared.faults.OpenFault.{OpenFault}
use Rattle.ts_outside.specs.declared.faults.OpenFault.TheVariants.{Failed, NoMemory}
use Rattle.switch_top.proofs.SwitchLemmas.{nothing_taken}

-- the closed outputs with one more
with-output : (o : Option (List (List ℕ × List ℕ))) (s : SinkView) (name bytes : List ℕ)
    → s.taken ≡ grown (option_map (λ _. []) o) bytes → s.name ≡ option_map (λ _. name) o → with_output o s ≡ grown o ((name, bytes) ∷ [])
with-output None s name bytes taken named = refl
with-output (Some l) s name bytes taken named = rw (named, taken) refl

-- what all plays wrote, with the part of the next packet
pub record Wrote (cells more : List Cell) (n : ℕ) (end : PlayEnd) (name : Option (List ℕ)) (old new : Option (List (List ℕ × List ℕ))) : Type 0 where
  pub part : List ℕ
  pub part_is : IsPart more n end part
  pub outputs : new ≡ outputs_with name old (written cells ++ (written (take n more) ++ part))

module _ {K : Type 0} (seen : K → SinkView) (start d : DeskView) (same : d.outputs ≡ start.outputs) (cells more : List Cell) (n : ℕ) where
  sink-wrote : (first mid last : SinkView) (name part : List ℕ) (failed : Bool) → first ≡ record { taken = option_map (λ _. []) start.outputs; name = option_map (λ _. name) start.outputs; faults = 0 }
      → mid ≡ took first (written cells) → last.taken ≡ grown mid.taken (written (take n more) ++ part) → last.name ≡ mid.name
      → with_output d.outputs last ≡ grown start.outputs ((name, written cells ++ (written (take n more) ++ part)) ∷ [])
  sink-wrote first mid last name part failed is m taken named =
      ap (λ o. with_output o last) same
      ∙ with-output start.outputs last name (written cells ++ (written (take n more) ++ part))
      (taken ∙ ap (λ (s : SinkView). grown s.taken (written (take n more) ++ part)) m ∙ ap (λ (s : SinkView). s.taken) (took-took first (written cells) (written (take n more) ++ part)) ∙ ap (λ (s : SinkView). grown s.taken (written cells ++ (written (take n more) ++ part))) is)
      (named ∙ ap (λ (s : SinkView). s.name) m ∙ ap (λ (s : SinkView). s.name) is)

  none-behind : (bytes : List ℕ) → bytes ≡ bytes ++ []
  none-behind bytes = sym (append-nil bytes)

  pub wrote : (first mid last : OutputPart K) (name : Option (List ℕ)) (end : PlayEnd) (failed : Bool) → IsOutputOf seen start name first → OutputTook seen first mid cells → LeftOutput seen mid last more n (cause_of end)
      → Wrote cells more n end name start.outputs (closed_as seen d last failed).outputs
  wrote (out.Stream f) (out.Stream m) (out.Stream w) (Some name) (Input (End left)) failed is a b = record { part = []; part_is = refl; outputs = sink-wrote (seen f) (seen m) (seen w) name [] failed is a (ap (λ (s : SinkView). s.taken) b ∙ ap (grown (seen m).taken) (none-behind (written (take n more)))) (ap (λ (s : SinkView). s.name) b) }
  wrote (out.Stream f) (out.Stream m) (out.Stream w) (Some name) (Input (Sync packet)) failed is a b = record { part = []; part_is = refl; outputs = sink-wrote (seen f) (seen m) (seen w) name [] failed is a (ap (λ (s : SinkView). s.taken) b ∙ ap (grown (seen m).taken) (none-behind (written (take n more)))) (ap (λ (s : SinkView). s.name) b) }
  wrote (out.Stream f) (out.Stream m) (out.Stream w) (Some name) (Input ReadFault) failed is a b = record { part = []; part_is = refl; outputs = sink-wrote (seen f) (seen m) (seen w) name [] failed is a (ap (λ (s : SinkView). s.taken) b ∙ ap (grown (seen m).taken) (none-behind (written (take n more)))) (ap (λ (s : SinkView). s.name) b) }
  wrote (out.Stream f) (out.Stream m) (out.Stream w) (Some name) (Input TooLong) failed is a b = record { part = []; part_is = refl; outputs = sink-wrote (seen f) (seen m) (seen w) name [] failed is a (ap (λ (s : SinkView). s.taken) b ∙ ap (grown (seen m).taken) (none-behind (written (take n more)))) (ap (λ (s : SinkView). s.name) b) }
  wrote (out.Stream f) (out.Stream m) (out.Stream w) (Some name) WriteFault failed is a b = record { part = b.part; part_is = b.cut; outputs = sink-wrote (seen f) (seen m) (seen w) name b.part failed is a (ap (λ (s : SinkView). s.taken) b.taken) (ap (λ (s : SinkView). s.name) b.taken) }
  wrote out.Discard out.Discard out.Discard None (Input how) failed is a b = record { part = []; part_is = refl; outputs = same }
  wrote out.Discard out.Discard out.Discard None WriteFault failed is a b = absurd (b refl)
  wrote (out.Stream f) mid last None end failed is a b = absurd is
  wrote out.Discard mid last (Some name) end failed is a b = absurd is
  wrote (out.Stream f) out.Discard last (Some name) end failed is a b = absurd a
  wrote (out.Stream f) (out.Stream m) out.Discard (Some name) end failed is a b = absurd b
  wrote out.Discard (out.Stream m) last None end failed is a b = absurd a
  wrote out.Discard out.Discard (out.Stream w) None end failed is a b = absurd b

-- how the count of the outputs goes when one is closed
counts-with : (old faults : ℕ) → faults ≡ 0 → (failed : Bool) (end : PlayEnd) → (end ≡ WriteFault → ⊥) → CountsOutput old (if nat_lt 0 faults || failed then raised old else old) end failed
counts-with old faults none true end not = record {
  fault = λ e. absurd (not e);
  late_cause = λ e. subst (λ k. HasCause old (if nat_lt 0 k || true then raised old else old)) (sym none) (HasCause-raised old);
  still = λ e n. absurd (let f : true ≡ false = e in cc);
}
counts-with old faults none false end not = record {
  fault = λ e. absurd (not e);
  late_cause = λ e. absurd (let f : false ≡ true = e in cc);
  still = λ e n. subst (λ k. (if nat_lt 0 k || false then raised old else old) ≡ old) (sym none) refl;
}

counts-fault : (old faults : ℕ) → 0 < faults → (failed : Bool) → CountsOutput old (if nat_lt 0 faults || failed then raised old else old) WriteFault failed
counts-fault old faults some failed =
    let rose = subst (λ b. HasCause old (if b || failed then raised old else old)) (sym (is-true faults some)) (HasCause-raised old) in
    record { fault = λ e. rose; late_cause = λ e. rose; still = λ e n. absurd (n refl) }
  where
    is-true : (n : ℕ) → 0 < n → nat_lt 0 n ≡ true
    is-true n lt = grind (arith, nat_tests)

module _ {K : Type 0} (seen : K → SinkView) (start d : DeskView) (cells more : List Cell) (n : ℕ) where
  no-fault : (f m w : K) (name bytes : List ℕ) → seen f ≡ record { taken = option_map (λ _. []) start.outputs; name = option_map (λ _. name) start.outputs; faults = 0 } → seen m ≡ took (seen f) (written cells) → seen w ≡ took (seen m) bytes → (seen w).faults ≡ 0
  no-fault f m w name bytes is a b = ap (λ (s : SinkView). s.faults) b ∙ ap (λ (s : SinkView). s.faults) a ∙ ap (λ (s : SinkView). s.faults) is

  pub counted : (first mid last : OutputPart K) (name : Option (List ℕ)) (end : PlayEnd) (failed : Bool) → IsOutputOf seen start name first → OutputTook seen first mid cells → LeftOutput seen mid last more n (cause_of end) → ClosesWell last failed
      → CountsOutput d.write_faults (closed_as seen d last failed).write_faults end failed
  counted (out.Stream f) (out.Stream m) (out.Stream w) (Some name) (Input (End left)) failed is a b ok = counts-with d.write_faults (seen w).faults (no-fault f m w name _ is a b) failed _ (λ e. cc)
  counted (out.Stream f) (out.Stream m) (out.Stream w) (Some name) (Input (Sync packet)) failed is a b ok = counts-with d.write_faults (seen w).faults (no-fault f m w name _ is a b) failed _ (λ e. cc)
  counted (out.Stream f) (out.Stream m) (out.Stream w) (Some name) (Input ReadFault) failed is a b ok = counts-with d.write_faults (seen w).faults (no-fault f m w name _ is a b) failed _ (λ e. cc)
  counted (out.Stream f) (out.Stream m) (out.Stream w) (Some name) (Input TooLong) failed is a b ok = counts-with d.write_faults (seen w).faults (no-fault f m w name _ is a b) failed _ (λ e. cc)
  counted (out.Stream f) (out.Stream m) (out.Stream w) (Some name) WriteFault failed is a b ok =
      let one : (seen w).faults ≡ raised 0 = ap (λ (s : SinkView). s.faults) b.taken ∙ ap (λ (s : SinkView). raised s.faults) a ∙ ap (λ (s : SinkView). raised s.faults) is in
      counts-fault d.write_faults (seen w).faults (subst (λ k. 0 < k) (sym one) (omega arith)) failed
  counted out.Discard out.Discard out.Discard None (Input how) failed is a b ok = record { fault = λ e. absurd (let f : Input how ≡ WriteFault = e in cc); late_cause = λ e. absurd (let f : false ≡ true = sym ok ∙ e in cc); still = λ e n. refl }
  counted out.Discard out.Discard out.Discard None WriteFault failed is a b ok = absurd (b refl)
  counted (out.Stream f) mid last None end failed is a b ok = absurd is
  counted out.Discard mid last (Some name) end failed is a b ok = absurd is
  counted (out.Stream f) out.Discard last (Some name) end failed is a b ok = absurd a
  counted (out.Stream f) (out.Stream m) out.Discard (Some name) end failed is a b ok = absurd b
  counted out.Discard (out.Stream m) last None end failed is a b ok = absurd a
  counted out.Discard out.Discard (out.Stream w) None end failed is a b ok = absurd b

-- what a report and the closing of an output leave as it was
record Leaves (old new : DeskView) : Type 0 where
  pub outputs : new.outputs ≡ old.outputs
  pub asked : new.asked ≡ old.asked
  pub closed_in : new.closed_in ≡ old.closed_in
  pub files : new.files ≡ old.files
  pub reads : new.read_faults ≡ old.read_faults
  pub writes : new.write_faults ≡ old.write_faults

says-leaves : (old new : DeskView) (text : List ℕ) (failed : Bool) → Says old new text failed → Leaves old new
says-leaves old new text false s = record { outputs = ap (λ (d : DeskView). d.outputs) s; asked = ap (λ (d : DeskView). d.asked) s; closed_in = ap (λ (d : DeskView). d.closed_in) s; files = ap (λ (d : DeskView). d.files) s; reads = ap (λ (d : DeskView). d.read_faults) s; writes = ap (λ (d : DeskView). d.write_faults) s }
says-leaves old new text true s = record { outputs = ap (λ (d : DeskView). d.outputs) s.2; asked = ap (λ (d : DeskView). d.asked) s.2; closed_in = ap (λ (d : DeskView). d.closed_in) s.2; files = ap (λ (d : DeskView). d.files) s.2; reads = ap (λ (d : DeskView). d.read_faults) s.2; writes = ap (λ (d : DeskView). d.write_faults) s.2 }

reports-leaves : (text : List ℕ) (input : ℕ) (end : PlayEnd) (late : Bool) (old new : DeskView) (answer : SwitchStatus) → ReportsPlays text input end late old new answer → Leaves old new
reports-leaves text input end late old new answer (inl r) = says-leaves old new text r.0 r.1
reports-leaves text input end late old new answer (inr r) = record { outputs = ap (λ (d : DeskView). d.outputs) r.1; asked = ap (λ (d : DeskView). d.asked) r.1; closed_in = ap (λ (d : DeskView). d.closed_in) r.1; files = ap (λ (d : DeskView). d.files) r.1; reads = ap (λ (d : DeskView). d.read_faults) r.1; writes = ap (λ (d : DeskView). d.write_faults) r.1 }

record LeavesRest (old new : DeskView) : Type 0 where
  pub reported : new.reported ≡ old.reported
  pub asked : new.asked ≡ old.asked
  pub closed_in : new.closed_in ≡ old.closed_in
  pub files : new.files ≡ old.files
  pub reads : new.read_faults ≡ old.read_faults
  pub report_count : new.report_faults ≡ old.report_faults

closing-leaves : {K : Type 0} (seen : K → SinkView) (d : DeskView) (last : OutputPart K) (failed : Bool) → LeavesRest d (closed_as seen d last failed)
closing-leaves seen d (out.Stream w) failed = record { reported = refl; asked = refl; closed_in = refl; files = refl; reads = refl; report_count = refl }
closing-leaves seen d out.Discard failed = record { reported = refl; asked = refl; closed_in = refl; files = refl; reads = refl; report_count = refl }

pub switch-ran : {S A K : Type 0} (see : PlayKind S A K) (core : CorePlan) (inputs : List (List ℕ)) (names : List PlayName) (start : DeskView) (first : OutputPart K) (name : Option (List ℕ)) (o : Switched K) (d closed new : DeskView) (failed : Bool) (answer : SwitchStatus)
    → RanTo see core inputs names start first o d → IsOutputOf see.sink start name first → ClosesWell o.output failed → closed ≡ closed_as see.sink d o.output failed
    → ReportsPlays (string_bytes o.text ++ switch_end_line o.input (end_of o.end) o.count) o.input (end_of o.end) failed closed new answer → SwitchRan see.resync core.buffer names name start new answer
switch-ran see core inputs names start first name o d closed new failed answer r is well c reports =
    let w = wrote see.sink start d r.desk_is.outputs (cells_of r.behind) r.last.list.cells r.n first r.last.before o.output name (end_of o.end) failed is r.last.output r.last.last_took in
    let leaves = reports-leaves _ o.input (end_of o.end) failed closed new answer reports in
    let rest = subst (LeavesRest d) (sym c) (closing-leaves see.sink d o.output failed) in
    let text : string_bytes o.text ++ switch_end_line o.input (end_of o.end) o.count ≡ lines_of r.behind ++ (play_line o.input r.n (end_of o.end) ++ switch_end_line o.input (end_of o.end) (length (cells_of r.behind) + r.n)) =
    ap (λ l. l ++ switch_end_line o.input (end_of o.end) o.count) r.text_is ∙ append_assoc (lines_of r.behind) (play_line o.input r.n (end_of o.end)) (switch_end_line o.input (end_of o.end) o.count) ∙ ap (λ k. lines_of r.behind ++ (play_line o.input r.n (end_of o.end) ++ switch_end_line o.input (end_of o.end) k)) r.count_is in
    record {
      behind = r.behind;
      all = r.all;
      input = o.input;
      name = r.name;
      later = r.later;
      names_are = r.names_are;
      list = r.last.list;
      list_is = r.last.list_is;
      n = r.n;
      end = end_of o.end;
      ends = r.last.ends;
      plain_is_last = r.plain_is_last;
      part = w.part;
      part_is = w.part_is;
      written_is = leaves.outputs ∙ ap (λ (x : DeskView). x.outputs) c ∙ w.outputs;
      late = failed;
      closed = closed;
      reported_before = rest.reported ∙ r.desk_is.reported;
      counted_before = rest.report_count ∙ r.desk_is.reports;
      counts = subst (λ (x : DeskView). CountsOutput start.write_faults x.write_faults (end_of o.end) failed) (sym c)
          (subst (λ k. CountsOutput k (closed_as see.sink d o.output failed).write_faults (end_of o.end) failed) r.desk_is.writes
          (counted see.sink start d (cells_of r.behind) r.last.list.cells r.n first r.last.before o.output name (end_of o.end) failed is r.last.output r.last.last_took well));
      writes = leaves.writes;
      reported = subst (λ t. ReportsPlays t o.input (end_of o.end) failed closed new answer) text reports;
      ok = r.ok;
      ahead = r.ahead;
      asked = leaves.asked ∙ rest.asked ∙ r.desk_is.asked_is;
      sources = r.sources;
      last_read = r.last_read;
      closed_in = leaves.closed_in ∙ rest.closed_in ∙ r.desk_is.closed_is;
      files = leaves.files ∙ rest.files ∙ r.desk_is.files;
      read_fault = λ e. subst (HasCause start.read_faults) (sym (leaves.reads ∙ rest.reads)) (r.read_fault e);
    }

pub switch-wanted : {S A K : Type 0} (see : PlayKind S A K) (core : CorePlan) (inputs : List (List ℕ)) (names : List PlayName) (start : DeskView) (first : OutputPart K) (name : Option (List ℕ)) (last : OutputPart K) (d new : DeskView) (failed : Bool) (answer : SwitchStatus) → answer ≡ status.NoMemory
    → Wanted see core inputs names start first last d → IsOutputOf see.sink start name first → new ≡ closed_as see.sink d last failed → SwitchWanted see.resync names name start new answer
switch-wanted see core inputs names start first name last d new failed answer a w is c = elim w.took [
  | inl took ↦ (let x = wrote see.sink start d w.desk_is.outputs (cells_of w.behind) [] 0 first last last name (Input ReadFault) failed is took (nothing_taken see.sink last []) in
      record {
        answer_is = a;
        behind = w.behind;
        all = w.all;
        later = w.later;
        names_are = w.names_are;
        more = [];
        n = 0;
        end = Input ReadFault;
        of_next = inl refl;
        part = x.part;
        part_is = x.part_is;
        written_is = ap (λ (z : DeskView). z.outputs) c ∙ x.outputs;
        reported = rest.reported ∙ w.desk_is.reported;
        asked = w.asked;
        asked_first = w.asked_first;
        asked_is = rest.asked ∙ w.desk_is.asked_is;
        files = rest.files ∙ w.desk_is.files;
      })
  | inr l ↦ (let i = l.5 in let x = wrote see.sink start d w.desk_is.outputs (cells_of w.behind) i.list.cells l.1 first i.before last name l.2 failed is i.output i.last_took in
      record {
        answer_is = a;
        behind = w.behind;
        all = w.all;
        later = w.later;
        names_are = w.names_are;
        more = i.list.cells;
        n = l.1;
        end = l.2;
        of_next = inr (l.0, l.3, i.list, l.4, i.list_is, refl, i.ends);
        part = x.part;
        part_is = x.part_is;
        written_is = ap (λ (z : DeskView). z.outputs) c ∙ x.outputs;
        reported = rest.reported ∙ w.desk_is.reported;
        asked = w.asked;
        asked_first = w.asked_first;
        asked_is = rest.asked ∙ w.desk_is.asked_is;
        files = rest.files ∙ w.desk_is.files;
      })
]
  where
    rest : LeavesRest d new
    rest = subst (LeavesRest d) (sym c) (closing-leaves see.sink d last failed)

-- an opening that failed
pub failed-of : {T : Type 0} (P : T → Type 0) (Q R : Type 0) (fault : OpenFault) → fault ≡ Failed → MatchOpen {T = T} (Err fault) P Q R → Q
failed-of P Q R Failed e m = m
failed-of P Q R NoMemory e m = absurd cc

-- the plays by their result
module _ {S A K : Type 0} (see : PlayKind S A K) (core : CorePlan) (inputs : List (List ℕ)) (names : List PlayName) (start : DeskView) (first : OutputPart K) (desk : DeskView) (played : AllPlayed K) where
  pub ran-of : (over : Switched K) → played ≡ all.Over over → AreAllPlayed see core inputs names start first played desk → RanTo see core inputs names start first over desk
  ran-of over is r = subst (λ (p : AllPlayed K). AreAllPlayed see core inputs names start first p desk) is r

  pub wanted-of : (output : OutputPart K) → played ≡ all.Wants output → AreAllPlayed see core inputs names start first played desk → Wanted see core inputs names start first output desk
  wanted-of output is r = subst (λ (p : AllPlayed K). AreAllPlayed see core inputs names start first p desk) is r

-- a call whose output was opened
pub plan-played : (resync : Bool) (buffer : ℕ) (names : List PlayName) (output : Option (List ℕ)) (old mid new : DeskView) (answer : SwitchStatus) → mid ≡ opened_as old output
    → SwitchWanted resync names output mid new answer ⊎ SwitchRan resync buffer names output mid new answer → SwitchesPlan resync buffer names output old new answer
plan-played resync buffer names output old mid new answer is (inl w) = wanted (subst (λ (d : DeskView). SwitchWanted resync names output d new answer) is w)
plan-played resync buffer names output old mid new answer is (inr r) = ran (subst (λ (d : DeskView). SwitchRan resync buffer names output d new answer) is r)
