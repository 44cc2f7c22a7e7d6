-- The list of a play, by what was seen of its source.
use Rattle.std.proofs.Common.{◌≡◌, ℕ, ◌<◌, ◌⊎◌, inl, inr, List, [], Bool, true, false, Option, None, Some, refl, ap, sym, ◌∙◌, subst, arith}
use Rattle.std.specs.Prelude.{IfSome}
use Rattle.std.specs.Option.{option_map}
use Rattle.std.proofs.lemmas.Bool.Decides.{nat_tests}
use Rattle.ts_packet.specs.declared.cell.Cell.{Cell}
use Rattle.ts_outside.specs.Count.{raised}
use Rattle.ts_outside.specs.Told.{before}
use Rattle.ts_outside.specs.Source.{SourceView, Origin, own_bytes}
use Rattle.ts_outside.specs.Sink.{SinkView}
use Rattle.ts_outside.specs.Desk.{file_of}
use Rattle.packet_forms.specs.declared.forms.Form.{Form}
use Rattle.packet_forms.specs.declared.forms.Form.TheVariants.{Ts, M2ts, Rs204}
use Rattle.packet_forms.specs.FormView.{came}
use Rattle.packet_search.specs.Rule.{deciding_bytes}
use Rattle.search_source.specs.Coming.{found_in}
use Rattle.chain_model.specs.declared.input_end.InputEnd.TheVariants.{End, Sync, ReadFault, TooLong}
use Rattle.chain_model.specs.declared.cause.Cause.{Cause}
use Rattle.chain_model.specs.declared.cause.Cause.TheVariants as cause
use Rattle.chain_model.specs.Apply.{StageList, input_over}
use Rattle.chain_model.specs.Stuffed.{no_stuffing}
use Rattle.stage_run.specs.declared.output_part.OutputPart.{OutputPart}
use Rattle.stage_run.specs.declared.output_part.OutputPart.TheVariants as out
use Rattle.chain_run.specs.RunOf.{LeftOutput}
use Rattle.chain_run.specs.SourceRead.{ReadsSource}
use Rattle.chain_plays.specs.Abandoned.{WasAbandoned}
use Rattle.chain_plays.specs.declared.played.PlayCut.{PlayCut}
use Rattle.chain_plays.specs.declared.played.PlayEnd.{PlayEnd}
use Rattle.chain_plays.specs.declared.played.PlayEnd.TheVariants.{Input, WriteFault}
use Rattle.chain_plays.specs.PlayList.{play_of, cause_of, EndsAs}
use Rattle.switch_top.specs.declared.played_cut.PlayedCut.{PlayedCut}
use Rattle.switch_top.specs.PlayCuts.{end_of}
use Rattle.switch_top.specs.PlayLists.{left_out_of, found_play, list_of, end_leaving, leaving, IsListOf}
use Rattle.switch_top.specs.PlaySources.{play_source, ClosesFound, LeavesAs, EndsFound, ClosesPlay, WasRead, ReadsFile}
use Rattle.switch_top.specs.SwitchTheorem.{CountsRead}
use Rattle.switch_top.proofs.FoundPlays.{found-leaves}

-- ---- lists

-- there is one
pub some-list : (resync : Bool) (files : Option (List (List ℕ × List ℕ))) (name : List ℕ) → (list : StageList) × IsListOf resync files name list
some-list false None name = (play_of [], ([], tt, refl))
some-list false (Some files) name = (play_of (file_of files name), (file_of files name, refl, refl))
some-list true None name = (leaving 0 (play_of []), ([], 0, refl))
some-list true (Some files) name = (found_play (file_of files name), refl)

-- it is the file's, where the files are known
pub told-list : (resync : Bool) (files : List (List ℕ × List ℕ)) (name : List ℕ) (list : StageList) → IsListOf resync (Some files) name list → list ≡ list_of resync (file_of files name)
told-list false files name list is = is.2 ∙ ap play_of is.1
told-list true files name list is = is

-- ---- sources

-- no source of a file's own has the unit of one that finds packets
no-unit : (form : Form) → 0 ≡ deciding_bytes form → ⊥
no-unit Ts e = omega arith
no-unit M2ts e = omega arith
no-unit Rs204 e = omega arith

origin-left : (old new : SourceView) → WasAbandoned old new → new.origin ≡ old.origin
origin-left old new (read, inl same) = sym (ap (λ (s : SourceView). s.origin) same)
origin-left old new (read, inr same) = sym (ap (λ (s : SourceView). s.origin) same)

own-found : (ended inner : SourceView) → ended.origin ≡ own_bytes → ClosesFound ended inner → ⊥
own-found ended inner own found = no-unit found.form (sym (ap (λ (o : Origin). o.unit) own) ∙ found.unit_is)

found-own : (content : Option (List ℕ)) (origin : Origin) → origin ≡ record { unit = deciding_bytes Ts; bytes = content } → origin ≡ own_bytes → ⊥
found-own content origin found own = no-unit Ts (sym (ap (λ (o : Origin). o.unit) own) ∙ ap (λ (o : Origin). o.unit) found)

found-read : (content : Option (List ℕ)) (ended inner : SourceView) → ended.origin ≡ record { unit = deciding_bytes Ts; bytes = content } → ClosesFound ended inner
    → (read : List ℕ) × (content ≡ before read inner.left)
found-read content ended inner origin found = (came ended.origin.bytes inner.left, sym (ap (λ (o : Origin). o.bytes) origin) ∙ found.behind)

pub left-read : (resync : Bool) (content : Option (List ℕ)) (outer inner : SourceView) → outer ≡ play_source resync content → LeavesAs outer inner → WasRead resync (record { left = content; faults = 0; origin = own_bytes }) inner
left-read false content outer inner is (ended, left, inl same) = subst (λ s. WasAbandoned s inner) is (subst (WasAbandoned outer) same.0 left)
left-read false content outer inner is (ended, left, inr found) =
    absurd (own-found ended inner (origin-left outer ended left ∙ ap (λ (s : SourceView). s.origin) is) found.0)
left-read true content outer inner is (ended, left, inl same) =
    absurd (found-own content ended.origin (origin-left outer ended left ∙ ap (λ (s : SourceView). s.origin) is) (ap (λ (s : SourceView). s.origin) same.0 ∙ same.1))
left-read true content outer inner is (ended, left, inr found) =
    found-read content ended inner (origin-left outer ended left ∙ ap (λ (s : SourceView). s.origin) is) found.0

pub was-read : (resync : Bool) (buffer : ℕ) (old new : SourceView) (n : ℕ) (why : Cause) → ReadsFile resync buffer old new n why → WasRead resync old new
was-read true buffer old new n why reads = reads.0
was-read false buffer old new n why reads = (reads.read, reads.source)

-- ---- ends

-- both are ends of the input, or neither is
abbrev pub AreAlike : PlayEnd → PlayEnd → Type 0
AreAlike (Input how) (Input other) = Unit {0}
AreAlike WriteFault WriteFault = Unit {0}
AreAlike _ _ = ⊥

-- what the output took does not depend on how the input ended
pub left-output : {K : Type 0} (seen : K → SinkView) (old new : OutputPart K) (cells : List Cell) (n : ℕ) (end other : PlayEnd) → AreAlike end other
    → LeftOutput seen old new cells n (cause_of end) → LeftOutput seen old new cells n (cause_of other)
left-output seen (out.Stream old) (out.Stream new) cells n (Input how) (Input other) alike left = left
left-output seen out.Discard out.Discard cells n (Input how) (Input other) alike left = λ e. cc
left-output seen (out.Stream old) out.Discard cells n (Input how) (Input other) alike left = absurd left
left-output seen out.Discard (out.Stream new) cells n (Input how) (Input other) alike left = absurd left
left-output seen old new cells n WriteFault WriteFault alike left = left
left-output seen old new cells n (Input how) WriteFault alike left = absurd alike
left-output seen old new cells n WriteFault (Input other) alike left = absurd alike

alike-is : (end other : PlayEnd) → other ≡ end → AreAlike end other
alike-is (Input how) other is = subst (AreAlike (Input how)) (sym is) tt
alike-is WriteFault other is = subst (AreAlike WriteFault) (sym is) tt

alike-found : (made inner : SourceView) (end other : PlayEnd) → EndsFound made inner end other → AreAlike end other
alike-found made inner (Input (End left)) other (inl plain) = subst (AreAlike (Input (End left))) (sym plain.1) tt
alike-found made inner (Input (End left)) other (inr fault) = subst (AreAlike (Input (End left))) (sym fault.0) tt
alike-found made inner (Input (Sync packet)) other ends = alike-is (Input (Sync packet)) other ends.0
alike-found made inner (Input ReadFault) other ends = alike-is (Input ReadFault) other ends.0
alike-found made inner (Input TooLong) other ends = alike-is (Input TooLong) other ends.0
alike-found made inner WriteFault other ends = alike-is WriteFault other ends.0

raised-some : (n : ℕ) → 0 < raised n
raised-some n = grind (arith, nat_tests)

-- an end by a read fault has its cause
found-fault : (outer made inner : SourceView) (buffer n : ℕ) (end other : PlayEnd) → outer.faults ≡ 0 → ReadsSource no_stuffing buffer outer made n (cause_of end) → EndsFound made inner end other
    → other ≡ Input ReadFault → 0 < inner.faults
found-fault outer made inner buffer n (Input (End left)) other none reads (inl plain) is = absurd (let bad : Input (End plain.0) ≡ Input ReadFault = sym plain.1 ∙ is in cc)
found-fault outer made inner buffer n (Input (End left)) other none reads (inr fault) is = subst (λ k. 0 < k) (sym fault.1) (raised-some made.faults)
found-fault outer made inner buffer n (Input (Sync packet)) other none reads ends is = absurd (let bad : Input (Sync packet) ≡ Input ReadFault = sym ends.0 ∙ is in cc)
found-fault outer made inner buffer n (Input ReadFault) other none reads ends is =
    let f = reads.at_fault refl in
    subst (λ k. 0 < k) (ap (λ (s : SourceView). s.faults) f.failed ∙ ends.1) (raised-some outer.faults)
found-fault outer made inner buffer n (Input TooLong) other none reads ends is = absurd (let bad : Input TooLong ≡ Input ReadFault = sym ends.0 ∙ is in cc)
found-fault outer made inner buffer n WriteFault other none reads ends is = absurd (let bad : WriteFault ≡ Input ReadFault = sym ends.0 ∙ is in cc)

own-fault : (outer made : SourceView) (buffer n : ℕ) (end : PlayEnd) → ReadsSource no_stuffing buffer outer made n (cause_of end) → end ≡ Input ReadFault → 0 < made.faults
own-fault outer made buffer n end reads is =
    let f = reads.at_fault (ap cause_of is) in
    subst (λ k. 0 < k) (ap (λ (s : SourceView). s.faults) f.failed) (raised-some outer.faults)

-- how a list ends of which other bytes are left out
ends-leaving : (made inner : SourceView) (left : ℕ) (list : StageList) (n : ℕ) (end other : PlayEnd) → EndsFound made inner end other → ((left_out : ℕ) → other ≡ Input (End left_out) → left_out ≡ left)
    → EndsAs list n end → EndsAs (leaving left list) n other
ends-leaving made inner left list n (Input (End old)) other (inl plain) right ends =
    subst (EndsAs (leaving left list) n) (sym plain.1)
    (record { whole = ends.whole; ended = ap (end_leaving left) ends.ended ∙ ap (λ k. Some (input_over (End k))) (sym (right plain.0 plain.1)) })
ends-leaving made inner left list n (Input (End old)) other (inr fault) right ends =
    subst (EndsAs (leaving left list) n) (sym fault.0) (let w = ends.whole in omega (arith, w))
ends-leaving made inner left list n (Input (Sync packet)) other found right ends =
    subst (EndsAs (leaving left list) n) (sym found.0) (record { whole = ends.whole; ended = ap (end_leaving left) ends.ended })
ends-leaving made inner left list n (Input ReadFault) other found right ends = subst (EndsAs (leaving left list) n) (sym found.0) ends
ends-leaving made inner left list n (Input TooLong) other found right ends =
    subst (EndsAs (leaving left list) n) (sym found.0) (record { whole = ends.whole; ended = ap (end_leaving left) ends.ended })
ends-leaving made inner left list n WriteFault other found right ends = subst (EndsAs (leaving left list) n) (sym found.0) ends

-- ---- a play that was played

pub record PlayedList (resync : Bool) (files : Option (List (List ℕ × List ℕ))) (name : List ℕ) (buffer : ℕ) (content : List ℕ) (inner : SourceView) (cut : PlayCut) (played : PlayedCut) : Type 0 where
  pub list : StageList
  pub list_is : IsListOf resync files name list
  pub ends : EndsAs list played.count (end_of played.end)
  pub cells : list.cells ≡ (play_of content).cells
  pub alike : AreAlike cut.end (end_of played.end)
  pub reads : ReadsFile resync buffer (record { left = option_map (λ fs. file_of fs name) files; faults = 0; origin = own_bytes }) inner played.count (cause_of (end_of played.end))
  pub fault : end_of played.end ≡ Input ReadFault → 0 < inner.faults

origin-read : (buffer n : ℕ) (why : Cause) (old new : SourceView) → ReadsSource no_stuffing buffer old new n why → new.origin ≡ old.origin
origin-read buffer n why old new reads = origin-left old new (reads.read, reads.source)

told-file : (files : Option (List (List ℕ × List ℕ))) (name bytes : List ℕ) → IfSome (option_map (λ fs. file_of fs name) files) (λ left. left ≡ bytes) → IfSome files (λ fs. bytes ≡ file_of fs name)
told-file None name bytes t = tt
told-file (Some fs) name bytes t = sym t

input-fault : (end : PlayEnd) → cause_of end ≡ cause.Input ReadFault → end ≡ Input ReadFault
input-fault (Input how) e = (let f : how ≡ ReadFault = cc in ap Input f)
input-fault WriteFault e = absurd (let bad : cause.WriteFault ≡ cause.Input ReadFault = e in cc)

module _ (files : Option (List (List ℕ × List ℕ))) (name : List ℕ) (buffer : ℕ) (content : List ℕ) (outer made inner : SourceView) (cut : PlayCut) (played : PlayedCut)
    (ends : EndsAs (play_of content) cut.count cut.end) (reads : ReadsSource no_stuffing buffer outer made cut.count (cause_of cut.end)) (count : played.count ≡ cut.count) where
  own-list : outer ≡ play_source false (option_map (λ fs. file_of fs name) files) → IfSome outer.left (λ left. left ≡ content) → made ≡ inner → end_of played.end ≡ cut.end
      → PlayedList false files name buffer content inner cut played
  own-list is told same end = record {
    list = play_of content;
    list_is = (content, told-file files name content (subst (λ (s : SourceView). IfSome s.left (λ left. left ≡ content)) is told), refl);
    ends = subst (λ n. EndsAs (play_of content) n (end_of played.end)) (sym count) (subst (EndsAs (play_of content) cut.count) (sym end) ends);
    cells = refl;
    alike = alike-is cut.end (end_of played.end) end;
    reads = subst (λ s. ReadsSource no_stuffing buffer s inner played.count (cause_of (end_of played.end))) is
        (subst (λ n. ReadsSource no_stuffing buffer outer inner n (cause_of (end_of played.end))) (sym count)
        (subst (λ e. ReadsSource no_stuffing buffer outer inner cut.count (cause_of e)) (sym end)
        (subst (λ s. ReadsSource no_stuffing buffer outer s cut.count (cause_of cut.end)) same reads)));
    fault = λ e. subst (λ (s : SourceView). 0 < s.faults) same (own-fault outer made buffer cut.count cut.end reads (sym end ∙ e));
  }

  module _ (is : outer ≡ play_source true (option_map (λ fs. file_of fs name) files)) (found : ClosesFound made inner) (ended : EndsFound made inner cut.end (end_of played.end)) where
    origin-is : made.origin ≡ record { unit = deciding_bytes Ts; bytes = option_map (λ fs. file_of fs name) files }
    origin-is = origin-read buffer cut.count (cause_of cut.end) outer made reads ∙ ap (λ (s : SourceView). s.origin) is

    fault-now : end_of played.end ≡ Input ReadFault → 0 < inner.faults
    fault-now = found-fault outer made inner buffer cut.count cut.end (end_of played.end) (ap (λ (s : SourceView). s.faults) is) reads ended

    found-list : (left : ℕ) → IsListOf true files name (leaving left (play_of content)) → ((left_out : ℕ) → end_of played.end ≡ Input (End left_out) → left_out ≡ left)
        → PlayedList true files name buffer content inner cut played
    found-list left list_is right = record {
      list = leaving left (play_of content);
      list_is = list_is;
      ends = subst (λ n. EndsAs (leaving left (play_of content)) n (end_of played.end)) (sym count)
          (ends-leaving made inner left (play_of content) cut.count cut.end (end_of played.end) ended right ends);
      cells = refl;
      alike = alike-found made inner cut.end (end_of played.end) ended;
      reads = (found-read (option_map (λ fs. file_of fs name) files) made inner origin-is found, λ e. fault-now (input-fault (end_of played.end) e));
      fault = fault-now;
    }

-- so many bytes an end leaves out
abbrev left-of : PlayEnd → ℕ
left-of (Input (End left)) = left
left-of end = 0

plain-told : (made inner : SourceView) (file : List ℕ) (end other : PlayEnd) → made.origin.bytes ≡ Some file → EndsFound made inner end other → (left_out : ℕ) → other ≡ Input (End left_out)
    → ((left : ℕ) → end ≡ Input (End left) → ⊥) ⊎ (left_out ≡ left_out_of file)
plain-told made inner file (Input (End left)) other told (inl plain) left_out is =
    inr ((let same : plain.0 ≡ left_out = (let both : Input (End plain.0) ≡ Input (End left_out) = sym plain.1 ∙ is in cc) in
    sym same ∙ subst (λ (o : Option (List ℕ)). IfSome o (λ f. plain.0 ≡ left_out_of f)) told plain.3))
plain-told made inner file (Input (End left)) other told (inr fault) left_out is = absurd (let bad : Input ReadFault ≡ Input (End left_out) = sym fault.0 ∙ is in cc)
plain-told made inner file (Input (Sync packet)) other told ends left_out is = inl (λ left e. (let bad : Input (Sync packet) ≡ Input (End left) = e in cc))
plain-told made inner file (Input ReadFault) other told ends left_out is = inl (λ left e. (let bad : Input ReadFault ≡ Input (End left) = e in cc))
plain-told made inner file (Input TooLong) other told ends left_out is = inl (λ left e. (let bad : Input TooLong ≡ Input (End left) = e in cc))
plain-told made inner file WriteFault other told ends left_out is = inl (λ left e. (let bad : WriteFault ≡ Input (End left) = e in cc))

-- an end that is not plain does not become plain
not-plain : (made inner : SourceView) (end other : PlayEnd) → EndsFound made inner end other → ((left : ℕ) → end ≡ Input (End left) → ⊥) → (left_out : ℕ) → other ≡ Input (End left_out) → ⊥
not-plain made inner (Input (End left)) other ends not left_out is = not left refl
not-plain made inner (Input (Sync packet)) other ends not left_out is = (let bad : Input (Sync packet) ≡ Input (End left_out) = sym ends.0 ∙ is in cc)
not-plain made inner (Input ReadFault) other ends not left_out is = (let bad : Input ReadFault ≡ Input (End left_out) = sym ends.0 ∙ is in cc)
not-plain made inner (Input TooLong) other ends not left_out is = (let bad : Input TooLong ≡ Input (End left_out) = sym ends.0 ∙ is in cc)
not-plain made inner WriteFault other ends not left_out is = (let bad : WriteFault ≡ Input (End left_out) = sym ends.0 ∙ is in cc)

right-left : (made inner : SourceView) (file : List ℕ) (end other : PlayEnd) → made.origin.bytes ≡ Some file → EndsFound made inner end other → (left_out : ℕ) → other ≡ Input (End left_out) → left_out ≡ left_out_of file
right-left made inner file end other told ends left_out is = elim (plain-told made inner file end other told ends left_out is) [
  | inl not ↦ absurd (not-plain made inner end other ends not left_out is)
  | inr right ↦ right
]

pub played-list : (resync : Bool) (files : Option (List (List ℕ × List ℕ))) (name : List ℕ) (buffer : ℕ) (content : List ℕ) (outer made inner : SourceView) (cut : PlayCut) (played : PlayedCut)
    → outer ≡ play_source resync (option_map (λ fs. file_of fs name) files) → IfSome outer.left (λ left. left ≡ content) → EndsAs (play_of content) cut.count cut.end
    → ReadsSource no_stuffing buffer outer made cut.count (cause_of cut.end) → ClosesPlay made inner cut played → PlayedList resync files name buffer content inner cut played
played-list false files name buffer content outer made inner cut played is told ends reads closes = elim closes.closes [
  | inl own ↦ own-list files name buffer content outer made inner cut played ends reads closes.count is told own.0 own.2
  | inr found ↦ absurd (own-found made inner (origin-read buffer cut.count (cause_of cut.end) outer made reads ∙ ap (λ (s : SourceView). s.origin) is) found.0)
]
played-list true None name buffer content outer made inner cut played is told ends reads closes = elim closes.closes [
  | inl own ↦ absurd (found-own None made.origin (origin-read buffer cut.count (cause_of cut.end) outer made reads ∙ ap (λ (s : SourceView). s.origin) is) (ap (λ (s : SourceView). s.origin) own.0 ∙ own.1))
  | inr found ↦ found-list None name buffer content outer made inner cut played ends reads closes.count is found.0 found.1 (left-of (end_of played.end)) (content, left-of (end_of played.end), refl) (λ left_out e. sym (ap left-of e))
]
played-list true (Some files) name buffer content outer made inner cut played is told ends reads closes = elim closes.closes [
  | inl own ↦ absurd (found-own (Some (file_of files name)) made.origin (origin-read buffer cut.count (cause_of cut.end) outer made reads ∙ ap (λ (s : SourceView). s.origin) is) (ap (λ (s : SourceView). s.origin) own.0 ∙ own.1))
  | inr found ↦ (let file : List ℕ = file_of files name in
      let bytes : (found_in Ts file).bytes ≡ content = subst (λ (s : SourceView). IfSome s.left (λ left. left ≡ content)) is told in
      found-list (Some files) name buffer content outer made inner cut played ends reads closes.count is found.0 found.1 (left_out_of file)
      (subst (λ c. leaving (left_out_of file) (play_of c) ≡ found_play file) bytes (found-leaves file))
      (right-left made inner file cut.end (end_of played.end) (ap (λ (o : Origin). o.bytes) (origin-read buffer cut.count (cause_of cut.end) outer made reads ∙ ap (λ (s : SourceView). s.origin) is)) found.1))
]

-- ---- a read that failed

pub read-fault : (resync : Bool) (buffer : ℕ) (old new : SourceView) (n : ℕ) (why : Cause) → ReadsFile resync buffer old new n why → why ≡ cause.Input ReadFault → 0 < new.faults
read-fault true buffer old new n why reads is = reads.1 is
read-fault false buffer old new n why reads is = subst (λ k. 0 < k) (ap (λ (s : SourceView). s.faults) (reads.at_fault is).failed) (raised-some old.faults)

pub counts-read : (resync : Bool) (buffer : ℕ) (old new : SourceView) (n : ℕ) (why : Cause) → ReadsFile resync buffer old new n why → why ≡ cause.Input ReadFault
    → (read : List ℕ) × (old.left ≡ before read new.left) × CountsRead resync read n
counts-read true buffer old new n why reads is = (reads.0.0, reads.0.1, tt)
counts-read false buffer old new n why reads is = (let f = reads.at_fault is in (reads.read, ap (λ (s : SourceView). s.left) f.failed, f.cut_is))
