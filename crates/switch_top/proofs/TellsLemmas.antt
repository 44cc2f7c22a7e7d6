-- From the whole call to what its status says.
use Rattle.std.proofs.Math.Nat.{min-eq_left}
use Rattle.std.proofs.lemmas.Bool.Decides.{nat_tests}
use Rattle.std.proofs.Common.{◌≡◌, ℕ, zero, suc, ◌+◌, ◌*◌, append_assoc, List, [], ◌∷◌, ◌++◌, length, map, take, Bool, true, false, Option, None, Some, refl, ap, sym, ◌∙◌, subst, arith, inl, inr}
use Rattle.std.specs.Prelude.{◌⊎◌, ◌&&◌, ◌||◌, ◌<◌, ◌≤◌, ◌-◌, ◌^◌, min, nat_lt, unwrap_or, IsSome}
use Rattle.std.specs.List.{list_all}
use Rattle.ts_outside.specs.Count.{HasCause, raised}
use Rattle.ts_outside.proofs.Views.{HasCause-raised}
use Rattle.ts_outside.specs.Source.{SourceView}
use Rattle.ts_outside.specs.Told.{before, grown}
use Rattle.ts_outside.specs.Desk.{DeskView, file_of, content, asked_well}
use Rattle.ts_outside.specs.declared.requests.Asked.{Asked}
use Rattle.ts_outside.specs.declared.requests.Purpose.TheVariants as purpose
use Rattle.ts_outside.specs.Saying.{Says, ReportsText}
use Rattle.ts_outside.specs.Entries.{outputs_with}
use Rattle.chain_model.specs.declared.input_end.InputEnd.TheVariants as how
use Rattle.chain_model.specs.Written.{written}
use Rattle.chain_model.specs.Each.{Each}
use Rattle.switch_args.specs.SwitchWords.{Given, read_of, IsBeginning, IsFirstFault}
use Rattle.switch_args.specs.ValidSettings.{IsValid}
use Rattle.chain_plays.specs.declared.played.PlayEnd.{PlayEnd}
use Rattle.chain_plays.specs.declared.played.PlayEnd.TheVariants.{Input, WriteFault}
use Rattle.chain_model.specs.Apply.{StageList}
use Rattle.chain_plays.specs.PlayList.{cause_of, EndsAs}
use Rattle.switch_top.specs.declared.status.SwitchStatus.{SwitchStatus}
use Rattle.switch_top.specs.declared.status.SwitchStatus.TheVariants as status
use Rattle.switch_top.specs.PlayNames.{PlayName, numbered, rows_of}
use Rattle.switch_top.specs.PlayLists.{list_of}
use Rattle.switch_top.specs.Lines.{play_line, switch_end_line}
use Rattle.switch_top.specs.Switched.{PlayList, lists_of, is_plain}
use Rattle.switch_top.specs.PlaysAfter.{Behind, names_of, cells_of, lines_of, opened_source, asked_of, all_asked, sources_of, with_inputs, AsksNext, LastRead}
use Rattle.switch_top.specs.SwitchEnds.{SwitchesPlan, no_output, out_of_memory, wanted, ran, SwitchRan, IsPart, output_name, opened_as}
use Rattle.switch_top.specs.SwitchCall.{CallsSwitch, at_words, no_room, at_plan}
use Rattle.switch_top.specs.SwitchPlans.{plays_of}
use Rattle.switch_top.specs.SwitchTheorem.{lists_given, AllEndPlainly, CountsRead, packets_of, report_to, EndsIn, StatusTells, RefusesWords}
use Rattle.switch_top.proofs.SwitchedLaws.{list-told, behind-plain, behind-cells, behind-lines}
use Rattle.switch_top.proofs.CallLaws.{late_status, one-more}
use Rattle.switch_top.proofs.PlayListLemmas.{read-fault, counts-read}
use Rattle.switch_top.proofs.FoundPlays.{found-in-sync, found-plain}
use Rattle.switch_top.proofs.TheoremLemmas.{NoFault}

-- ---- what was read before a read failed

before-is : (read file : List ℕ) (left : Option (List ℕ)) → Some file ≡ before read left → (rest : List ℕ) × (left ≡ Some rest) × (file ≡ read ++ rest)
before-is read file None e = absurd (let bad : Some file ≡ None = e in cc)
before-is read file (Some rest) e = (rest, refl, (let same : Some file ≡ Some (read ++ rest) = e in cc))

module _ (resync : Bool) (buffer : ℕ) (names : List PlayName) (output : Option (List ℕ)) (start new : DeskView) (answer : SwitchStatus)
    (r : SwitchRan resync buffer names output start new answer) (files : List (List ℕ × List ℕ)) (told : start.files ≡ Some files) where
  last-is : r.list ≡ list_of resync (file_of files r.name)
  last-is = list-told resync start files told r.name r.list r.list_is

  content-is : content start r.name ≡ Some (file_of files r.name)
  content-is = ap (λ (o : Option (List (List ℕ × List ℕ))). content (record start { files = o }) r.name) told

  asked-before : (behind : List Behind) → all_asked behind ≡ map (asked_of true) (names_of behind)
  asked-before [] = refl
  asked-before (b ∷ bs) = ap (λ l. asked_of true b.play ∷ l) (asked-before bs)

  as-many : (behind : List Behind) → length (sources_of behind) ≡ length (names_of behind)
  as-many [] = refl
  as-many (b ∷ bs) = ap suc (as-many bs)

  asked-is : (ok : Bool) (ahead : List Asked)
      → new.asked ≡ grown start.asked (all_asked r.behind ++ asked_of ok (record { input = r.input; name = r.name }) ∷ ahead)
      → new.asked ≡ grown start.asked (map (asked_of true) (names_of r.behind) ++ asked_of ok (record { input = r.input; name = r.name }) ∷ ahead)
  asked-is ok ahead is = is ∙ ap (λ l. grown start.asked (l ++ asked_of ok (record { input = r.input; name = r.name }) ∷ ahead)) (asked-before r.behind)

  few-asked : (later : List PlayName) (ahead : List Asked) (more : List SourceView) → AsksNext resync start later ahead more → length ahead ≤ 1
  few-asked later ahead more (inl a) = (let l = ap (λ (x : List Asked). length x) a.1 in omega (arith, l))
  few-asked later ahead more (inr a) = elim a.3 [
    | inl n ↦ (let l = ap (λ (x : List Asked). length x) n.0 in omega (arith, l))
    | inr n ↦ (let l = ap (λ (x : List Asked). length x) n.1 in omega (arith, l))
  ]

  -- what was asked for and closed where the last play was opened or not
  gives-read : (ok : Bool) (ahead : List Asked) → LastRead resync buffer start r.behind r.name r.n r.end r.later ahead ok r.sources → r.end ≡ Input how.ReadFault
      → new.asked ≡ grown start.asked (all_asked r.behind ++ asked_of ok (record { input = r.input; name = r.name }) ∷ ahead)
      → ((sources : List SourceView) × (r.n ≡ 0) × (length sources ≡ length (names_of r.behind))
      × (new.asked ≡ grown start.asked (map (asked_of true) (names_of r.behind) ++ asked_of false (record { input = r.input; name = r.name }) ∷ []))
      × (new.closed_in ≡ with_inputs start.closed_in sources))
      ⊎ ((read : List ℕ) × (left : List ℕ) × (before : List SourceView) × (made : SourceView) × (more : List SourceView) × (later : List Asked)
      × (file_of files r.name ≡ read ++ left) × CountsRead resync read r.n × (made.left ≡ Some left) × (0 < made.faults)
      × (length before ≡ length (names_of r.behind)) × (length more ≤ 1) × (length later ≤ 1)
      × (new.asked ≡ grown start.asked (map (asked_of true) (names_of r.behind) ++ asked_of true (record { input = r.input; name = r.name }) ∷ later))
      × (new.closed_in ≡ with_inputs start.closed_in (before ++ made ∷ more)))
  gives-read false ahead l e is = inl (
    r.sources,
    l.1,
    ap (λ (s : List SourceView). length s) l.0 ∙ as-many r.behind,
    asked-is false [] (is ∙ ap (λ (a : List Asked). grown start.asked (all_asked r.behind ++ asked_of false (record { input = r.input; name = r.name }) ∷ a)) l.3),
    r.closed_in,
  )
  gives-read true ahead l e is =
      let f = counts-read resync buffer (opened_source start r.name) l.0 r.n (cause_of r.end) l.4 (ap cause_of e) in
      let b = before-is f.0 (file_of files r.name) l.0.left (sym content-is ∙ f.1) in
      inr (
        f.0,
        b.0,
        sources_of r.behind,
        l.0,
        l.1,
        ahead,
        b.2,
        f.2,
        b.1,
        read-fault resync buffer (opened_source start r.name) l.0 r.n (cause_of r.end) l.4 (ap cause_of e),
        as-many r.behind,
        one-more resync start r.later ahead l.1 l.3,
        few-asked r.later ahead l.1 l.3,
        asked-is true ahead is,
        r.closed_in ∙ ap (with_inputs start.closed_in) l.2,
      )

  abbrev text : List ℕ
  text = lines_of r.behind ++ (play_line r.input r.n r.end ++ switch_end_line r.input r.end (length (cells_of r.behind) + r.n))

  text-is : report_to (lists_of resync files (names_of r.behind)) r.input r.n r.end ≡ text
  text-is =
      ap (λ l. l ++ (play_line r.input r.n r.end ++ switch_end_line r.input r.end (length (packets_of (lists_of resync files (names_of r.behind))) + r.n))) (behind-lines resync start files told r.behind r.all)
      ∙ ap (λ c. lines_of r.behind ++ (play_line r.input r.n r.end ++ switch_end_line r.input r.end (length c + r.n))) (behind-cells resync start files told r.behind r.all)

  said : (failed : Bool) → Says r.closed new text failed → ReportsText start new text
  said false says = inl (ap (λ (d : DeskView). d.reported) says ∙ ap (λ o. grown o text) r.reported_before, ap (λ (d : DeskView). d.report_faults) says ∙ r.counted_before)
  said true says = inr (
    says.0,
    says.1,
    ap (λ (d : DeskView). d.reported) says.2 ∙ ap (λ o. grown o (take says.0 text)) r.reported_before,
    subst (HasCause start.report_faults) (sym (ap (λ (d : DeskView). d.report_faults) says.2 ∙ ap raised r.counted_before)) (HasCause-raised start.report_faults),
  )

  abbrev bytes-of : StageList → List ℕ
  bytes-of list = written (take r.n list.cells) ++ r.part

  written-is : new.outputs ≡ outputs_with output start.outputs (written (packets_of (lists_of resync files (names_of r.behind))) ++ bytes-of (list_of resync (file_of files r.name)))
  written-is = r.written_is
      ∙ ap (λ c. outputs_with output start.outputs (written c ++ bytes-of r.list)) (sym (behind-cells resync start files told r.behind r.all))
      ∙ ap (λ z. outputs_with output start.outputs (written (packets_of (lists_of resync files (names_of r.behind))) ++ bytes-of z)) last-is

-- the desk before the output was opened
ran-ends : (resync : Bool) (buffer : ℕ) (names : List PlayName) (output : Option (List ℕ)) (old new : DeskView) (answer : SwitchStatus) (files : List (List ℕ × List ℕ)) → old.files ≡ Some files
    → (r : SwitchRan resync buffer names output (opened_as old output) new answer)
    → (failed : Bool) → Says r.closed new (lines_of r.behind ++ (play_line r.input r.n r.end ++ switch_end_line r.input r.end (length (cells_of r.behind) + r.n))) failed
    → (e : EndsIn resync files names output old new r.end) × (e.play.input ≡ r.input)
ran-ends resync buffer names None old new answer files told r failed says = (
  record {
    behind = names_of r.behind;
    play = record { input = r.input; name = r.name };
    later = r.later;
    names_are = r.names_are;
    plain = behind-plain resync old files told r.behind r.all;
    n = r.n;
    ends = subst (λ z. EndsAs z r.n r.end) (last-is resync buffer names None old new answer r files told) r.ends;
    plain_is_last = r.plain_is_last;
    part = r.part;
    part_is = subst (λ z. IsPart z.cells r.n r.end r.part) (last-is resync buffer names None old new answer r files told) r.part_is;
    written_is = written-is resync buffer names None old new answer r files told;
    reported_is = subst (ReportsText old new) (sym (text-is resync buffer names None old new answer r files told)) (said resync buffer names None old new answer r files told failed says);
    read = λ e. gives-read resync buffer names None old new answer r files told r.ok r.ahead r.last_read e r.asked;
  },
  refl,
)
ran-ends resync buffer names (Some name) old new answer files told r failed says = (
  record {
    behind = names_of r.behind;
    play = record { input = r.input; name = r.name };
    later = r.later;
    names_are = r.names_are;
    plain = behind-plain resync (asked_well old purpose.Output name) files told r.behind r.all;
    n = r.n;
    ends = subst (λ z. EndsAs z r.n r.end) (last-is resync buffer names (Some name) (asked_well old purpose.Output name) new answer r files told) r.ends;
    plain_is_last = r.plain_is_last;
    part = r.part;
    part_is = subst (λ z. IsPart z.cells r.n r.end r.part) (last-is resync buffer names (Some name) (asked_well old purpose.Output name) new answer r files told) r.part_is;
    written_is = written-is resync buffer names (Some name) (asked_well old purpose.Output name) new answer r files told;
    reported_is = subst (ReportsText old new) (sym (text-is resync buffer names (Some name) (asked_well old purpose.Output name) new answer r files told)) (said resync buffer names (Some name) (asked_well old purpose.Output name) new answer r files told failed says);
    read = λ e. gives-read resync buffer names (Some name) (asked_well old purpose.Output name) new answer r files told r.ok r.ahead r.last_read e r.asked;
  },
  refl,
)

-- ---- the numbers of inputs

abbrev IsSmall : PlayName → Type 0
IsSmall play = play.input ≤ 32

small-append : (first second : List PlayName) → Each IsSmall first → Each IsSmall second → Each IsSmall (first ++ second)
small-append [] second f s = s
small-append (x ∷ xs) second f s = (f.0, small-append xs second f.1 s)

small-at : (behind : List PlayName) (play : PlayName) (later : List PlayName) → Each IsSmall (behind ++ play ∷ later) → play.input ≤ 32
small-at [] play later all = all.0
small-at (b ∷ bs) play later all = small-at bs play later all.1

small-numbered : (number : ℕ) (names : List (List ℕ)) → number + length names ≤ 33 → Each IsSmall (numbered number names)
small-numbered number [] few = tt
small-numbered number (name ∷ names) few = (omega (arith, few), small-numbered (suc number) names (omega (arith, few)))

small-rows : (rows : ℕ) (names : List (List ℕ)) → length names ≤ 32 → Each IsSmall (rows_of rows names)
small-rows zero names few = tt
small-rows (suc rows) names few = small-append (numbered 1 names) (rows_of rows names) (small-numbered 1 names (omega (arith, few))) (small-rows rows names few)

-- ---- plays of which the last one ends plainly, too

both-true : (a b : Bool) → a ≡ true → b ≡ true → (a && b) ≡ true
both-true a b first second = ap (λ x. x && b) first ∙ second

both-of : (a b : Bool) → (a && b) ≡ true → (a ≡ true) × (b ≡ true)
both-of true b e = (refl, e)
both-of false b e = absurd (let bad : false ≡ true = e in cc)

module _ (resync : Bool) (files : List (List ℕ × List ℕ)) where
  abbrev plain-file : PlayName → Bool
  plain-file play = is_plain (list_of resync (file_of files play.name)).ended

  all-plain : (behind : List PlayName) (play : PlayName) → AllEndPlainly (lists_of resync files behind) → plain-file play ≡ true → AllEndPlainly (lists_of resync files (behind ++ play ∷ []))
  all-plain [] play all last = both-true (plain-file play) true last refl
  all-plain (b ∷ bs) play all last =
      let a = both-of (plain-file b) (list_all (λ (p : PlayList). is_plain p.list.ended) (lists_of resync files bs)) all in
      both-true (plain-file b) (list_all (λ (p : PlayList). is_plain p.list.ended) (lists_of resync files (bs ++ play ∷ []))) a.0 (all-plain bs play a.1 last)

  module _ (names : List PlayName) (output : Option (List ℕ)) (old new : DeskView) where
    whole-plain : (left : ℕ) → EndsIn resync files names output old new (Input (how.End left)) → AllEndPlainly (lists_of resync files names)
    whole-plain left e =
        subst (λ l. AllEndPlainly (lists_of resync files l)) (sym (e.names_are ∙ ap (λ l. e.behind ++ e.play ∷ l) (e.plain_is_last left refl)))
        (all-plain e.behind e.play e.plain (ap is_plain e.ends.ended))

    -- the status of an end says that end
    told-input : (input : ℕ) (end : PlayEnd) (e : EndsIn resync files names output old new end) → e.play.input ≡ input → Each IsSmall names → min input (2 ^ 32 - 1) ≡ e.play.input
    told-input input end e is small =
        let few = subst (λ i. i ≤ 32) is (small-at e.behind e.play e.later (subst (Each IsSmall) e.names_are small)) in
        min-eq_left (omega (arith, few)) ∙ sym is

    tells : Each IsSmall names → (late : Bool) (input : ℕ) (end : PlayEnd) (e : EndsIn resync files names output old new end) → e.play.input ≡ input → StatusTells resync files names output old new (late_status late input end)
    tells small true input (Input (how.End left)) e is = inr (Input (how.End left), tt, e)
    tells small true input (Input (how.Sync packet)) e is = (e, told-input input (Input (how.Sync packet)) e is small)
    tells small true input (Input how.ReadFault) e is = e
    tells small true input (Input how.TooLong) e is = e
    tells small true input WriteFault e is = inr (WriteFault, tt, e)
    tells small false input (Input (how.End left)) e is = (whole-plain left e, (left, e))
    tells small false input (Input (how.Sync packet)) e is = (e, told-input input (Input (how.Sync packet)) e is small)
    tells small false input (Input how.ReadFault) e is = e
    tells small false input (Input how.TooLong) e is = e
    tells small false input WriteFault e is = inr (WriteFault, tt, e)

-- ---- the whole call

module _ (resync : Bool) (files : List (List ℕ × List ℕ)) (buffer : ℕ) (names : List PlayName) (old new : DeskView) (answer : SwitchStatus) (told : old.files ≡ Some files) (small : Each IsSmall names) where
  plan-tells : (output : Option (List ℕ)) → SwitchesPlan resync buffer names output old new answer → StatusTells resync files names output old new answer
  plan-tells output (no_output name failed is answer_is says) = subst (StatusTells resync files names output old new) (sym answer_is) (inl (name, failed, is, says))
  plan-tells output (out_of_memory answer_is same) = subst (StatusTells resync files names output old new) (sym answer_is) tt
  plan-tells output (wanted w) = subst (StatusTells resync files names output old new) (sym w.answer_is) tt
  plan-tells None (ran r) = elim r.reported [
    | inl s ↦ (let e = ran-ends resync buffer names None old new answer files told r s.0 s.1 in subst (StatusTells resync files names None old new) (sym s.2) (tells resync files names None old new small (r.late || s.0) r.input r.end e.0 e.1))
    | inr n ↦ subst (StatusTells resync files names None old new) (sym n.0) tt
  ]
  plan-tells (Some name) (ran r) = elim r.reported [
    | inl s ↦ (let e = ran-ends resync buffer names (Some name) old new answer files told r s.0 s.1 in subst (StatusTells resync files names (Some name) old new) (sym s.2) (tells resync files names (Some name) old new small (r.late || s.0) r.input r.end e.0 e.1))
    | inr n ↦ subst (StatusTells resync files names (Some name) old new) (sym n.0) tt
  ]

pub call-tells : ((words : List (List ℕ)) → NoFault words) → ((words : List (List ℕ)) (given : Given) → read_of words ≡ Some given → IsValid given) → (words : List (List ℕ)) (given : Given) (files : List (List ℕ × List ℕ)) (old new : DeskView) (answer : SwitchStatus)
    → read_of words ≡ Some given → old.files ≡ Some files → CallsSwitch words old new answer → StatusTells given.resync files (plays_of given) (output_name given.output) old new answer
call-tells law valid words given files old new answer read told (at_words word failed is fault says) = absurd (law words given word read fault)
call-tells law valid words given files old new answer read told (no_room is same) = subst (StatusTells given.resync files (plays_of given) (output_name given.output) old new) (sym is) tt
call-tells law valid words given files old new answer read told (at_plan other is buffer size switches) =
    let same : other ≡ given = (let f : Some other ≡ Some given = sym is ∙ read in cc) in
    plan-tells given.resync files buffer (plays_of given) old new answer told (small-rows (unwrap_or given.cycle 1) given.inputs (valid words given read).few) (output_name given.output)
    (subst (λ (g : Given). SwitchesPlan g.resync buffer (plays_of g) (output_name g.output) old new answer) same switches)

-- where packets are found again no play ends by lost sync
pub call-in-sync : ((words : List (List ℕ)) → NoFault words) → ((words : List (List ℕ)) (given : Given) → read_of words ≡ Some given → IsValid given) → (words : List (List ℕ)) (given : Given) (files : List (List ℕ × List ℕ)) (old new : DeskView) (input packet : ℕ)
    → read_of words ≡ Some given → given.resync ≡ true → old.files ≡ Some files → CallsSwitch words old new (status.Sync input packet) → ⊥
call-in-sync law valid words given files old new input packet read resync told calls =
    let t = call-tells law valid words given files old new (status.Sync input packet) read told calls in
    let e = subst (λ b. EndsAs (list_of b (file_of files t.0.play.name)) t.0.n (Input (how.Sync packet))) resync t.0.ends in
    found-in-sync (file_of files t.0.play.name) packet e.ended

-- and each ends plainly where no file has too many bytes
plain-plays : (files : List (List ℕ × List ℕ)) → ((name : List ℕ) → length (file_of files name) ≤ 188 * 2 ^ 60) → (names : List PlayName) → AllEndPlainly (lists_of true files names)
plain-plays files few [] = refl
plain-plays files few (play ∷ names) = both-true _ _ (found-plain (file_of files play.name) (few play.name)) (plain-plays files few names)

pub found-plays : (given : Given) (files : List (List ℕ × List ℕ)) → given.resync ≡ true → ((name : List ℕ) → length (file_of files name) ≤ 188 * 2 ^ 60) → AllEndPlainly (lists_given given files)
found-plays given files resync few = subst (λ b. AllEndPlainly (lists_of b files (plays_of given))) (sym resync) (plain-plays files few (plays_of given))

-- ---- faulty words

prefix : (k m : ℕ) (words : List (List ℕ)) → k ≤ m → (more : List (List ℕ)) × (take m words ≡ take k words ++ more)
prefix zero m words le = (take m words, refl)
prefix (suc k) zero words le = absurd (omega (arith, le))
prefix (suc k) (suc m) [] le = ([], refl)
prefix (suc k) (suc m) (word ∷ words) le = (let p = prefix k m words (omega (arith, le)) in (p.0, ap (λ l. word ∷ l) p.1))

begins-before : (k m : ℕ) (words : List (List ℕ)) → k ≤ m → IsBeginning (take m words) → IsBeginning (take k words)
begins-before k m words le b =
    let p = prefix k m words le in
    (p.0 ++ b.0, subst (λ l. IsSome (read_of l)) (ap (λ l. l ++ b.0) p.1 ∙ append_assoc (take k words) p.0 b.0) b.1)

none-before : (words : List (List ℕ)) (n m : ℕ) → IsFirstFault words n → IsFirstFault words m → n < m → ⊥
none-before words n m first second lt =
    let within = second.within in
    first.goes_on_no_more (omega (arith, lt, within)) (begins-before (suc n) m words (omega (arith, lt)) second.begins)

same-fault : (words : List (List ℕ)) (n m : ℕ) → IsFirstFault words n → IsFirstFault words m → n ≡ m
same-fault words n m first second = by (nat_lt n m) (nat_lt m n) refl refl
  where
    less : (a b : ℕ) → nat_lt a b ≡ true → a < b
    less a b e = grind (arith, nat_tests)

    equal : (a b : ℕ) → nat_lt a b ≡ false → nat_lt b a ≡ false → a ≡ b
    equal a b e f = grind (arith, nat_tests)

    by : (x y : Bool) → nat_lt n m ≡ x → nat_lt m n ≡ y → n ≡ m
    by true y e f = absurd (none-before words n m first second (less n m e))
    by false true e f = absurd (none-before words m n second first (less m n f))
    by false false e f = equal n m e f

pub call-refuses : ((words : List (List ℕ)) → NoFault words) → (words : List (List ℕ)) (old new : DeskView) (answer : SwitchStatus) (word : ℕ) → IsFirstFault words word → CallsSwitch words old new answer
    → ((answer ≡ status.NoMemory) × (new ≡ old)) ⊎ RefusesWords word old new answer
call-refuses law words old new answer word fault (at_words other failed is first says) = inr (is ∙ ap status.Words (same-fault words other word first fault), (failed, says))
call-refuses law words old new answer word fault (no_room is same) = inl (is, same)
call-refuses law words old new answer word fault (at_plan given read buffer size switches) = absurd (law words given word read fault)
