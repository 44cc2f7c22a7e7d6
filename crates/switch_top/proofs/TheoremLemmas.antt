-- From the whole call to the terms of the switched list.
use Rattle.std.proofs.Common.{◌≡◌, ℕ, List, [], ◌∷◌, Bool, true, false, Option, None, Some, refl, ap, sym, ◌∙◌, subst, inl, inr}
use Rattle.std.specs.Prelude.{◌⊎◌, ◌&&◌, if◌then◌else◌}
use Rattle.std.specs.List.{list_all}
use Rattle.ts_outside.specs.Count.{HasCause, raised}
use Rattle.ts_outside.proofs.Views.{HasCause-raised}
use Rattle.ts_outside.specs.Desk.{DeskView, asked_well, asked_in_vain}
use Rattle.ts_outside.specs.declared.requests.Purpose.TheVariants as purpose
use Rattle.ts_outside.specs.Saying.{Says}
use Rattle.ts_outside.specs.Faultless.{NothingFails}
use Rattle.chain_model.specs.declared.input_end.InputEnd.TheVariants as how
use Rattle.chain_model.specs.Apply.{OwnEnd, input_over}
use Rattle.switch_args.specs.SwitchWords.{Given, read_of, IsFirstFault}
use Rattle.chain_plays.specs.declared.played.PlayEnd.{PlayEnd}
use Rattle.chain_plays.specs.declared.played.PlayEnd.TheVariants.{Input, WriteFault}
use Rattle.switch_top.specs.declared.status.SwitchStatus.{SwitchStatus}
use Rattle.switch_top.specs.declared.status.SwitchStatus.TheVariants as status
use Rattle.switch_top.specs.PlayNames.{PlayName}
use Rattle.switch_top.specs.Switched.{PlayList, lists_of, is_plain, played, last_of, end_of_list}
use Rattle.switch_top.specs.SwitchEnds.{SwitchesPlan, no_output, out_of_memory, wanted, ran, opened_as, output_name, status_of}
use Rattle.switch_top.specs.SwitchCall.{CallsSwitch, at_words, no_room, at_plan}
use Rattle.switch_top.specs.SwitchPlans.{plays_of}
use Rattle.switch_top.specs.SwitchTheorem.{lists_given, IsPureSwitch, WritesSwitched, WritesFirst, TellsWhole, NothingLate, AllEndPlainly, ReadFailed, status_of_plays}
use Rattle.switch_top.proofs.CallLaws.{late_status, quiet-absurd, ran-first, ran-pure, ran-whole, ran-done, ran-fault, ran-write, wanted-first}

-- words of the form have no faulty one
abbrev pub NoFault : List (List ℕ) → Type 0
NoFault words = (given : Given) (n : ℕ) → read_of words ≡ Some given → IsFirstFault words n → ⊥

some-is : {T : Type 0} {x y : T} → Some x ≡ Some y → x ≡ y
some-is e = (let f = e in cc)

raised-later : (old new : ℕ) → new ≡ raised old → HasCause old new
raised-later old new is = subst (HasCause old) (sym is) (HasCause-raised old)

-- what was said of an output that was not opened
module _ (old new : DeskView) (name : List ℕ) where
  refused-writes : (failed : Bool) (text : List ℕ) → Says (asked_in_vain old purpose.Output name) new text failed → new.write_faults ≡ raised old.write_faults
  refused-writes false text says = ap (λ (d : DeskView). d.write_faults) says
  refused-writes true text says = ap (λ (d : DeskView). d.write_faults) says.2

  refused-outputs : (failed : Bool) (text : List ℕ) → Says (asked_in_vain old purpose.Output name) new text failed → new.outputs ≡ old.outputs
  refused-outputs false text says = ap (λ (d : DeskView). d.outputs) says
  refused-outputs true text says = ap (λ (d : DeskView). d.outputs) says.2

-- ---- from the plan on

module _ (resync : Bool) (buffer : ℕ) (names : List PlayName) (old new : DeskView) (answer : SwitchStatus) where
  module _ (files : List (List ℕ × List ℕ)) (told : old.files ≡ Some files) where
    plan-pure : (output : Option (List ℕ)) → SwitchesPlan resync buffer names output old new answer → NothingFails old new
        → (answer ≡ status.NoMemory) ⊎ IsPureSwitch (lists_of resync files names) output old new answer
    plan-pure output (no_output name failed is answer_is says) nothing = absurd (quiet-absurd old.write_faults new.write_faults nothing.writes (raised-later _ _ (refused-writes old new name failed _ says)))
    plan-pure output (out_of_memory answer_is same) nothing = inl answer_is
    plan-pure output (wanted w) nothing = inl w.answer_is
    plan-pure None (ran r) nothing = ran-pure resync buffer names None old new answer r files told nothing
    plan-pure (Some name) (ran r) nothing = elim (ran-pure resync buffer names (Some name) (asked_well old purpose.Output name) new answer r files told (record { reads = nothing.reads; writes = nothing.writes; reports = nothing.reports })) [
      | inl e ↦ inl e
      | inr p ↦ inr (record { written_is = p.written_is; reported_is = p.reported_is; answer_is = p.answer_is })
    ]

    plan-first : (output : Option (List ℕ)) → SwitchesPlan resync buffer names output old new answer → WritesFirst (lists_of resync files names) output old new
    plan-first output (no_output name failed is answer_is says) = inl (refused-outputs old new name failed _ says)
    plan-first output (out_of_memory answer_is same) = inl (ap (λ (d : DeskView). d.outputs) same)
    plan-first None (wanted w) = wanted-first resync names None old new answer w files told
    plan-first (Some name) (wanted w) = wanted-first resync names (Some name) (asked_well old purpose.Output name) new answer w files told
    plan-first None (ran r) = ran-first resync buffer names None old new answer r files told
    plan-first (Some name) (ran r) = ran-first resync buffer names (Some name) (asked_well old purpose.Output name) new answer r files told

    plan-whole : (output : Option (List ℕ)) → SwitchesPlan resync buffer names output old new answer → TellsWhole answer → WritesSwitched (lists_of resync files names) output old new answer
    plan-whole output (no_output name failed is answer_is says) tells = absurd (subst TellsWhole answer_is tells)
    plan-whole output (out_of_memory answer_is same) tells = absurd (subst TellsWhole answer_is tells)
    plan-whole output (wanted w) tells = absurd (subst TellsWhole w.answer_is tells)
    plan-whole None (ran r) tells = ran-whole resync buffer names None old new answer r files told tells
    plan-whole (Some name) (ran r) tells =
        let p = ran-whole resync buffer names (Some name) (asked_well old purpose.Output name) new answer r files told tells in
        record { written_is = p.written_is; reported_is = p.reported_is; answer_is = p.answer_is }

  plan-done : (output : Option (List ℕ)) → SwitchesPlan resync buffer names output old new answer → answer ≡ status.Done → NothingLate old new
  plan-done output (no_output name failed is answer_is says) done = absurd (let bad : status.WriteFault ≡ status.Done = sym answer_is ∙ done in cc)
  plan-done output (out_of_memory answer_is same) done = absurd (let bad : status.NoMemory ≡ status.Done = sym answer_is ∙ done in cc)
  plan-done output (wanted w) done = absurd (let bad : status.NoMemory ≡ status.Done = sym w.answer_is ∙ done in cc)
  plan-done None (ran r) done = ran-done resync buffer names None old new answer r done
  plan-done (Some name) (ran r) done = (let l = ran-done resync buffer names (Some name) (asked_well old purpose.Output name) new answer r done in record { writes = l.writes; reports = l.reports })

  plan-fault : (output : Option (List ℕ)) → SwitchesPlan resync buffer names output old new answer → answer ≡ status.ReadFault
      → HasCause old.read_faults new.read_faults × ReadFailed (opened_as old output) new
  plan-fault output (no_output name failed is answer_is says) e = absurd (let bad : status.WriteFault ≡ status.ReadFault = sym answer_is ∙ e in cc)
  plan-fault output (out_of_memory answer_is same) e = absurd (let bad : status.NoMemory ≡ status.ReadFault = sym answer_is ∙ e in cc)
  plan-fault output (wanted w) e = absurd (let bad : status.NoMemory ≡ status.ReadFault = sym w.answer_is ∙ e in cc)
  plan-fault None (ran r) e = ran-fault resync buffer names None old new answer r e
  plan-fault (Some name) (ran r) e = ran-fault resync buffer names (Some name) (asked_well old purpose.Output name) new answer r e

  plan-write : (output : Option (List ℕ)) → SwitchesPlan resync buffer names output old new answer → answer ≡ status.WriteFault
      → HasCause old.write_faults new.write_faults ⊎ HasCause old.report_faults new.report_faults
  plan-write output (no_output name failed is answer_is says) e = inl (raised-later _ _ (refused-writes old new name failed _ says))
  plan-write output (out_of_memory answer_is same) e = absurd (let bad : status.NoMemory ≡ status.WriteFault = sym answer_is ∙ e in cc)
  plan-write output (wanted w) e = absurd (let bad : status.NoMemory ≡ status.WriteFault = sym w.answer_is ∙ e in cc)
  plan-write None (ran r) e = ran-write resync buffer names None old new answer r e
  plan-write (Some name) (ran r) e = ran-write resync buffer names (Some name) (asked_well old purpose.Output name) new answer r e

-- ---- the whole call

module _ (law : (words : List (List ℕ)) → NoFault words) (words : List (List ℕ)) (old new : DeskView) where
  module _ (given : Given) (read : read_of words ≡ Some given) where
    same-given : (other : Given) → read_of words ≡ Some other → other ≡ given
    same-given other is = some-is (sym is ∙ read)

    module _ (files : List (List ℕ × List ℕ)) (told : old.files ≡ Some files) (answer : SwitchStatus) where
      pub call-pure : CallsSwitch words old new answer → NothingFails old new → (answer ≡ status.NoMemory) ⊎ IsPureSwitch (lists_given given files) (output_name given.output) old new answer
      call-pure (at_words word failed is fault says) nothing = absurd (law words given word read fault)
      call-pure (no_room is same) nothing = inl is
      call-pure (at_plan other is buffer size switches) nothing =
          plan-pure given.resync buffer (plays_of given) old new answer files told (output_name given.output)
          (subst (λ (g : Given). SwitchesPlan g.resync buffer (plays_of g) (output_name g.output) old new answer) (same-given other is) switches) nothing

      pub call-first : CallsSwitch words old new answer → WritesFirst (lists_given given files) (output_name given.output) old new
      call-first (at_words word failed is fault says) = absurd (law words given word read fault)
      call-first (no_room is same) = inl (ap (λ (d : DeskView). d.outputs) same)
      call-first (at_plan other is buffer size switches) =
          plan-first given.resync buffer (plays_of given) old new answer files told (output_name given.output)
          (subst (λ (g : Given). SwitchesPlan g.resync buffer (plays_of g) (output_name g.output) old new answer) (same-given other is) switches)

      pub call-whole : CallsSwitch words old new answer → TellsWhole answer → WritesSwitched (lists_given given files) (output_name given.output) old new answer
      call-whole (at_words word failed is fault says) tells = absurd (law words given word read fault)
      call-whole (no_room is same) tells = absurd (subst TellsWhole is tells)
      call-whole (at_plan other is buffer size switches) tells =
          plan-whole given.resync buffer (plays_of given) old new answer files told (output_name given.output)
          (subst (λ (g : Given). SwitchesPlan g.resync buffer (plays_of g) (output_name g.output) old new answer) (same-given other is) switches) tells

    pub call-fault : CallsSwitch words old new status.ReadFault → HasCause old.read_faults new.read_faults × ReadFailed (opened_as old (output_name given.output)) new
    call-fault (at_words word failed is fault says) = absurd (let bad : status.ReadFault ≡ status.Words word = is in cc)
    call-fault (no_room is same) = absurd (let bad : status.ReadFault ≡ status.NoMemory = is in cc)
    call-fault (at_plan other is buffer size switches) =
        plan-fault given.resync buffer (plays_of given) old new status.ReadFault (output_name given.output)
        (subst (λ (g : Given). SwitchesPlan g.resync buffer (plays_of g) (output_name g.output) old new status.ReadFault) (same-given other is) switches) refl

pub call-done : (words : List (List ℕ)) (old new : DeskView) → CallsSwitch words old new status.Done → NothingLate old new
call-done words old new (at_words word failed is fault says) = absurd (let bad : status.Done ≡ status.Words word = is in cc)
call-done words old new (no_room is same) = absurd (let bad : status.Done ≡ status.NoMemory = is in cc)
call-done words old new (at_plan given is buffer size switches) = plan-done given.resync buffer (plays_of given) old new status.Done (output_name given.output) switches refl

pub call-write : (words : List (List ℕ)) (old new : DeskView) → CallsSwitch words old new status.WriteFault → HasCause old.write_faults new.write_faults ⊎ HasCause old.report_faults new.report_faults
call-write words old new (at_words word failed is fault says) = absurd (let bad : status.WriteFault ≡ status.Words word = is in cc)
call-write words old new (no_room is same) = absurd (let bad : status.WriteFault ≡ status.NoMemory = is in cc)
call-write words old new (at_plan given is buffer size switches) = plan-write given.resync buffer (plays_of given) old new status.WriteFault (output_name given.output) switches refl

-- `Words` comes of the words alone: the plays never end so
plan-words : (resync : Bool) (buffer : ℕ) (names : List PlayName) (output : Option (List ℕ)) (old new : DeskView) (word : ℕ) → SwitchesPlan resync buffer names output old new (status.Words word) → ⊥
plan-words resync buffer names output old new word (no_output name failed is e says) = (let bad : status.Words word ≡ status.WriteFault = e in cc)
plan-words resync buffer names output old new word (out_of_memory e same) = (let bad : status.Words word ≡ status.NoMemory = e in cc)
plan-words resync buffer names output old new word (wanted w) = (let bad : status.Words word ≡ status.NoMemory = w.answer_is in cc)
plan-words resync buffer names output old new word (ran r) = elim r.reported [ inl s ↦ never-words _ r.input r.end s.2 | inr n ↦ (let bad : status.Words word ≡ status.NoMemory = n.0 in cc) ]
  where
    never-words : (late : Bool) (input : ℕ) (end : PlayEnd) → status.Words word ≡ late_status late input end → ⊥
    never-words true input (Input (how.End left)) e = (let bad : status.Words word ≡ status.WriteFault = e in cc)
    never-words true input (Input (how.Sync packet)) e = (let bad : status.Words word ≡ status_of input (Input (how.Sync packet)) = e in cc)
    never-words true input (Input how.ReadFault) e = (let bad : status.Words word ≡ status.ReadFault = e in cc)
    never-words true input (Input how.TooLong) e = (let bad : status.Words word ≡ status.TooLong = e in cc)
    never-words true input WriteFault e = (let bad : status.Words word ≡ status.WriteFault = e in cc)
    never-words false input (Input (how.End left)) e = (let bad : status.Words word ≡ status.Done = e in cc)
    never-words false input (Input (how.Sync packet)) e = (let bad : status.Words word ≡ status_of input (Input (how.Sync packet)) = e in cc)
    never-words false input (Input how.ReadFault) e = (let bad : status.Words word ≡ status.ReadFault = e in cc)
    never-words false input (Input how.TooLong) e = (let bad : status.Words word ≡ status.TooLong = e in cc)
    never-words false input WriteFault e = (let bad : status.Words word ≡ status.WriteFault = e in cc)

word-is : (a b : ℕ) → status.Words a ≡ status.Words b → b ≡ a
word-is a b e = (let f = e in cc)

pub call-words : (words : List (List ℕ)) (old new : DeskView) (word : ℕ) → CallsSwitch words old new (status.Words word) → IsFirstFault words word
call-words words old new word (at_words other failed is fault says) = subst (IsFirstFault words) (word-is word other is) fault
call-words words old new word (no_room is same) = absurd (let bad : status.Words word ≡ status.NoMemory = is in cc)
call-words words old new word (at_plan given is buffer size switches) = absurd (plan-words given.resync buffer (plays_of given) (output_name given.output) old new word switches)

-- ---- completeness

plain-end : (o : Option OwnEnd) (input : ℕ) → is_plain o ≡ true → status_of input (end_of_list o) ≡ status.Done
plain-end (Some (input_over (how.End left))) input e = refl
plain-end o input e = absurd (let bad : false ≡ true = e in cc)

both : (a b : Bool) → (a && b) ≡ true → (a ≡ true) × (b ≡ true)
both true b e = (refl, e)
both false b e = absurd (let bad : false ≡ true = e in cc)

plain-last : (play : PlayList) (plays : List PlayList) → AllEndPlainly (play ∷ plays) → is_plain (last_of play plays).list.ended ≡ true
plain-last play [] all = (both (is_plain play.list.ended) true all).0
plain-last play (next ∷ plays) all = plain-last next plays (both (is_plain play.list.ended) (list_all (λ (p : PlayList). is_plain p.list.ended) (next ∷ plays)) all).1

plain-played : (plays : List PlayList) → AllEndPlainly plays → played plays ≡ plays
plain-played [] all = refl
plain-played (play ∷ plays) all =
    let a = both (is_plain play.list.ended) (list_all (λ (p : PlayList). is_plain p.list.ended) plays) all in
    ap (λ b. play ∷ (if b then played plays else [])) a.0 ∙ ap (λ l. play ∷ l) (plain-played plays a.1)

plain-status : (plays : List PlayList) → AllEndPlainly plays → status_of_plays plays ≡ status.Done
plain-status [] all = refl
plain-status (play ∷ plays) all = plain-end (last_of play plays).list.ended (last_of play plays).input (plain-last play plays all)

pub complete-of : (plays : List PlayList) (output : Option (List ℕ)) (old new : DeskView) (answer : SwitchStatus) → AllEndPlainly plays
    → (answer ≡ status.NoMemory) ⊎ IsPureSwitch plays output old new answer → (answer ≡ status.Done) ⊎ (answer ≡ status.NoMemory)
complete-of plays output old new answer all (inl e) = inr e
complete-of plays output old new answer all (inr p) = inl (p.answer_is ∙ ap status_of_plays (plain-played plays all) ∙ plain-status plays all)
