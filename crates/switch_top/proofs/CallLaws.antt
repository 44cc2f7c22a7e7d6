-- What follows from a call whose plays were played, in the words of the switched list.
use Rattle.std.proofs.Common.{◌≡◌, ℕ, zero, suc, ◌+◌, List, [], ◌∷◌, ◌++◌, length, take, drop, Bool, true, false, Option, Some, refl, ap, sym, ◌∙◌, subst, arith, inl, inr, append-nil, append_assoc}
use Rattle.std.specs.Prelude.{if◌then◌else◌, ◌||◌, ◌⊎◌, ◌≤◌, ◌-◌, ◌^◌, min}
use Rattle.std.proofs.lemmas.List.{take_all}
use Rattle.ts_outside.specs.Source.{SourceView}
use Rattle.ts_outside.specs.Told.{grown}
use Rattle.ts_outside.specs.Count.{HasCause, IsQuiet, raised}
use Rattle.ts_outside.proofs.Views.{HasCause-raised}
use Rattle.ts_outside.specs.declared.requests.Asked.{Asked}
use Rattle.ts_outside.specs.Desk.{DeskView, file_of}
use Rattle.ts_outside.specs.Saying.{Says, ReportsText}
use Rattle.ts_outside.specs.Entries.{outputs_with}
use Rattle.ts_outside.specs.Faultless.{NothingFails}
use Rattle.ts_packet.specs.declared.cell.Cell.{Cell}
use Rattle.ts_packet.specs.Cells.{Live, Dropped}
use Rattle.chain_model.specs.declared.input_end.InputEnd.{InputEnd}
use Rattle.chain_model.specs.declared.input_end.InputEnd.TheVariants as how
use Rattle.chain_model.specs.Apply.{StageList, input_over}
use Rattle.chain_model.specs.Written.{written, cell_bytes, IsPartOfFirst}
use Rattle.chain_plays.specs.declared.played.PlayEnd.{PlayEnd}
use Rattle.chain_plays.specs.declared.played.PlayEnd.TheVariants.{Input, WriteFault}
use Rattle.chain_plays.specs.PlayList.{cause_of, GivesAll, EndsAs}
use Rattle.switch_top.specs.declared.status.SwitchStatus.{SwitchStatus}
use Rattle.switch_top.specs.declared.status.SwitchStatus.TheVariants as status
use Rattle.switch_top.specs.PlayNames.{PlayName}
use Rattle.switch_top.specs.PlayLists.{list_of, IsListOf}
use Rattle.switch_top.specs.Lines.{play_line, switch_end_line}
use Rattle.switch_top.specs.Switched.{PlayList, lists_of, played, switched, end_of_list, line_of, switched_report, is_plain, last_of}
use Rattle.switch_top.specs.PlaysAfter.{names_of, cells_of, lines_of, sources_of, all_asked, opened_source, asked_of, with_inputs, LastRead, AsksNext}
use Rattle.switch_top.specs.SwitchEnds.{status_of, when_late, IsPart, SwitchRan, SwitchWanted}
use Rattle.switch_top.specs.SwitchTheorem.{IsPureSwitch, WritesSwitched, WritesFirst, TellsWhole, NothingLate, status_of_plays, ReadFailed}
use Rattle.switch_top.proofs.SwitchLemmas.{flat-append, length-append}
use Rattle.switch_top.proofs.PlayListLemmas.{read-fault}
use Rattle.switch_top.proofs.SwitchedLaws.{all-cells, last-on, list-told, behind-on, behind-cells, behind-lines, behind-played, report-of}

-- ---- bytes

take-drop : (n : ℕ) (l : List Cell) → take n l ++ drop n l ≡ l
take-drop zero l = refl
take-drop (suc n) [] = refl
take-drop (suc n) (x ∷ l) = ap (λ m. x ∷ m) (take-drop n l)

part-of : (cells : List Cell) (part : List ℕ) → IsPartOfFirst cells part → (rest : List ℕ) × (written cells ≡ part ++ rest)
part-of [] part p = absurd p
part-of (Dropped ∷ cells) part p = absurd p
part-of (Live packet labels ∷ cells) part p = (p.0 ++ written cells, ap (λ l. l ++ written cells) p.2 ∙ append_assoc part p.0 (written cells))

part-rest : (cells : List Cell) (n : ℕ) (end : PlayEnd) (part : List ℕ) → IsPart cells n end part → (rest : List ℕ) × (written (drop n cells) ≡ part ++ rest)
part-rest cells n (Input own) part e = (written (drop n cells), sym (ap (λ p. p ++ written (drop n cells)) e))
part-rest cells n WriteFault part p = part-of (drop n cells) part p

assoc : (b t p r x : List ℕ) → b ++ ((t ++ (p ++ r)) ++ x) ≡ (b ++ (t ++ p)) ++ (r ++ x)
assoc b t p r x = ap (λ l. b ++ l) (append_assoc t (p ++ r) x ∙ ap (λ l. t ++ l) (append_assoc p r x) ∙ sym (append_assoc t p (r ++ x))) ∙ sym (append_assoc b (t ++ p) (r ++ x))

-- packets of plays that are over, some of the next one, and a part of one packet more begin all of them
begins-all : (behind cells later : List Cell) (n : ℕ) (end : PlayEnd) (part : List ℕ) → IsPart cells n end part
    → (rest : List ℕ) × (written (behind ++ (cells ++ later)) ≡ (written behind ++ (written (take n cells) ++ part)) ++ rest)
begins-all behind cells later n end part p =
    let more = part-rest cells n end part p in
    let whole : written cells ≡ written (take n cells) ++ (part ++ more.0) = ap written (sym (take-drop n cells)) ∙ flat-append cell_bytes (take n cells) (drop n cells) ∙ ap (λ l. written (take n cells) ++ l) more.1 in (
      more.0 ++ written later,
      flat-append cell_bytes behind (cells ++ later)
          ∙ ap (λ l. written behind ++ l) (flat-append cell_bytes cells later)
          ∙ ap (λ l. written behind ++ (l ++ written later)) whole
          ∙ assoc (written behind) (written (take n cells)) part more.0 (written later),
    )

-- ---- statuses

pub quiet-absurd : (old new : ℕ) → IsQuiet old new → HasCause old new → ⊥
quiet-absurd old new q h = (let lt = h.rose q.below in let e = q.same in omega (arith, lt, e))

abbrev pub late_status : Bool → ℕ → PlayEnd → SwitchStatus
late_status late input end = if late then when_late (status_of input end) else status_of input end

-- an end that a list has by itself, without a fault
abbrev IsOwn : PlayEnd → Type 0
IsOwn (Input (how.End left)) = Unit {0}
IsOwn (Input (how.Sync packet)) = Unit {0}
IsOwn (Input how.ReadFault) = ⊥
IsOwn (Input how.TooLong) = Unit {0}
IsOwn WriteFault = ⊥

-- a status after which the whole list is written is that of the end itself, which is the list's own
whole-own : (late : Bool) (input : ℕ) (end : PlayEnd) → TellsWhole (late_status late input end) → IsOwn end × (late_status late input end ≡ status_of input end)
whole-own true input (Input (how.End left)) t = absurd t
whole-own true input (Input (how.Sync packet)) t = (tt, refl)
whole-own true input (Input how.ReadFault) t = absurd t
whole-own true input (Input how.TooLong) t = (tt, refl)
whole-own true input WriteFault t = absurd t
whole-own false input (Input (how.End left)) t = (tt, refl)
whole-own false input (Input (how.Sync packet)) t = (tt, refl)
whole-own false input (Input how.ReadFault) t = absurd t
whole-own false input (Input how.TooLong) t = (tt, refl)
whole-own false input WriteFault t = absurd t

-- a read fault is that of the end
fault-own : (late : Bool) (input : ℕ) (end : PlayEnd) → late_status late input end ≡ status.ReadFault → end ≡ Input how.ReadFault
fault-own true input (Input (how.End left)) e = absurd (let bad : status.WriteFault ≡ status.ReadFault = e in cc)
fault-own true input (Input (how.Sync packet)) e = absurd (let bad : status.Sync (min input (2 ^ 32 - 1)) packet ≡ status.ReadFault = e in cc)
fault-own true input (Input how.ReadFault) e = refl
fault-own true input (Input how.TooLong) e = absurd (let bad : status.TooLong ≡ status.ReadFault = e in cc)
fault-own true input WriteFault e = absurd (let bad : status.WriteFault ≡ status.ReadFault = e in cc)
fault-own false input (Input (how.End left)) e = absurd (let bad : status.Done ≡ status.ReadFault = e in cc)
fault-own false input (Input (how.Sync packet)) e = absurd (let bad : status.Sync (min input (2 ^ 32 - 1)) packet ≡ status.ReadFault = e in cc)
fault-own false input (Input how.ReadFault) e = refl
fault-own false input (Input how.TooLong) e = absurd (let bad : status.TooLong ≡ status.ReadFault = e in cc)
fault-own false input WriteFault e = absurd (let bad : status.WriteFault ≡ status.ReadFault = e in cc)

-- a write fault is that of the end, or something failed after a plain one
write-own : (late : Bool) (input : ℕ) (end : PlayEnd) → late_status late input end ≡ status.WriteFault → (end ≡ WriteFault) ⊎ (late ≡ true)
write-own true input end e = inr refl
write-own false input (Input (how.End left)) e = absurd (let bad : status.Done ≡ status.WriteFault = e in cc)
write-own false input (Input (how.Sync packet)) e = absurd (let bad : status.Sync (min input (2 ^ 32 - 1)) packet ≡ status.WriteFault = e in cc)
write-own false input (Input how.ReadFault) e = absurd (let bad : status.ReadFault ≡ status.WriteFault = e in cc)
write-own false input (Input how.TooLong) e = absurd (let bad : status.TooLong ≡ status.WriteFault = e in cc)
write-own false input WriteFault e = inl refl

-- `Done` comes after a plain end, and nothing was late
done-own : (late : Bool) (input : ℕ) (end : PlayEnd) → late_status late input end ≡ status.Done → (late ≡ false) × ((left : ℕ) × (end ≡ Input (how.End left)))
done-own true input (Input (how.End left)) e = absurd (let bad : status.WriteFault ≡ status.Done = e in cc)
done-own true input (Input (how.Sync packet)) e = absurd (let bad : status.Sync (min input (2 ^ 32 - 1)) packet ≡ status.Done = e in cc)
done-own true input (Input how.ReadFault) e = absurd (let bad : status.ReadFault ≡ status.Done = e in cc)
done-own true input (Input how.TooLong) e = absurd (let bad : status.TooLong ≡ status.Done = e in cc)
done-own true input WriteFault e = absurd (let bad : status.WriteFault ≡ status.Done = e in cc)
done-own false input (Input (how.End left)) e = (refl, (left, refl))
done-own false input (Input (how.Sync packet)) e = absurd (let bad : status.Sync (min input (2 ^ 32 - 1)) packet ≡ status.Done = e in cc)
done-own false input (Input how.ReadFault) e = absurd (let bad : status.ReadFault ≡ status.Done = e in cc)
done-own false input (Input how.TooLong) e = absurd (let bad : status.TooLong ≡ status.Done = e in cc)
done-own false input WriteFault e = absurd (let bad : status.WriteFault ≡ status.Done = e in cc)

last-append : (play : PlayList) (plays : List PlayList) (last : PlayList) → last_of play (plays ++ last ∷ []) ≡ last
last-append play [] last = refl
last-append play (next ∷ plays) last = last-append next plays last

status-append : (plays : List PlayList) (last : PlayList) → status_of_plays (plays ++ last ∷ []) ≡ status_of last.input (end_of_list last.list.ended)
status-append [] last = refl
status-append (play ∷ plays) last = ap (λ (l : PlayList). status_of l.input (end_of_list l.list.ended)) (last-append play plays last)

or-false : (a b : Bool) → (a || b) ≡ false → (a ≡ false) × (b ≡ false)
or-false false b e = (refl, e)
or-false true b e = absurd (let bad : true ≡ false = e in cc)

or-true : (a b : Bool) → (a || b) ≡ true → (a ≡ true) ⊎ (b ≡ true)
or-true false b e = inr e
or-true true b e = inl refl

-- the end gives the whole list where it is the list's own
gives-own : (list : StageList) (n : ℕ) (end : PlayEnd) → EndsAs list n end → IsOwn end → (own : InputEnd) × (end ≡ Input own) × GivesAll list n own
gives-own list n (Input (how.End left)) ends own = (how.End left, refl, ends)
gives-own list n (Input (how.Sync packet)) ends own = (how.Sync packet, refl, ends)
gives-own list n (Input how.ReadFault) ends own = absurd own
gives-own list n (Input how.TooLong) ends own = (how.TooLong, refl, ends)
gives-own list n WriteFault ends own = absurd own

-- at most one source was closed after that of the last play
pub one-more : (resync : Bool) (start : DeskView) (later : List PlayName) (ahead : List Asked) (more : List SourceView) → AsksNext resync start later ahead more → length more ≤ 1
one-more resync start later ahead more (inl a) = (let l = ap (λ (x : List SourceView). length x) a.2 in omega (arith, l))
one-more resync start later ahead more (inr a) = elim a.3 [
  | inl n ↦ (let l = ap (λ (x : List SourceView). length x) n.1 in omega (arith, l))
  | inr n ↦ (let l = ap (λ (x : List SourceView). length x) n.2 in omega (arith, l))
]

-- ---- the plays were played

module _ (resync : Bool) (buffer : ℕ) (names : List PlayName) (output : Option (List ℕ)) (start new : DeskView) (answer : SwitchStatus) (r : SwitchRan resync buffer names output start new answer) where
  module _ (files : List (List ℕ × List ℕ)) (told : start.files ≡ Some files) where
    last-is : r.list ≡ list_of resync (file_of files r.name)
    last-is = list-told resync start files told r.name r.list r.list_is

    abbrev last : PlayList
    last = record { input = r.input; list = list_of resync (file_of files r.name) }

    -- whatever fault there was, the bytes begin those of the switched list
    pub ran-first : WritesFirst (lists_of resync files names) output start new
    ran-first =
        let after = all-cells (if is_plain last.list.ended then played (lists_of resync files r.later) else []) in
        let split : switched (lists_of resync files names) ≡ cells_of r.behind ++ (r.list.cells ++ after) =
        ap (λ n. switched (lists_of resync files n)) r.names_are
        ∙ behind-played resync start files told r.behind (record { input = r.input; name = r.name } ∷ r.later) r.all
        ∙ ap (λ (z : StageList). cells_of r.behind ++ (z.cells ++ after)) (sym last-is) in
        let b = begins-all (cells_of r.behind) r.list.cells after r.n r.end r.part r.part_is in
        inr (written (cells_of r.behind) ++ (written (take r.n r.list.cells) ++ r.part), b.0, r.written_is, ap written split ∙ b.1)

    -- where the last end is that of its list, they are all of them
    module _ (own : InputEnd) (end_is : r.end ≡ Input own) (gives : GivesAll r.list r.n own) where
      ended : last.list.ended ≡ Some (input_over own)
      ended = ap (λ (z : StageList). z.ended) (sym last-is) ∙ gives.ended

      played-is : played (lists_of resync files names) ≡ lists_of resync files (names_of r.behind) ++ last ∷ []
      played-is =
          ap (λ n. played (lists_of resync files n)) r.names_are
          ∙ behind-on resync start files told r.behind (record { input = r.input; name = r.name } ∷ r.later) r.all
          ∙ ap (λ l. lists_of resync files (names_of r.behind) ++ l) (last-on last (lists_of resync files r.later) own ended (λ left e. ap (lists_of resync files) (r.plain_is_last left (end_is ∙ ap Input e))))

      switched-is : switched (lists_of resync files names) ≡ cells_of r.behind ++ r.list.cells
      switched-is =
          ap all-cells played-is
          ∙ flat-append (λ (p : PlayList). p.list.cells) (lists_of resync files (names_of r.behind)) (last ∷ [])
          ∙ ap (λ l. l ++ all-cells (last ∷ [])) (behind-cells resync start files told r.behind r.all)
          ∙ ap (λ l. cells_of r.behind ++ l) (append-nil last.list.cells)
          ∙ ap (λ (z : StageList). cells_of r.behind ++ z.cells) (sym last-is)

      whole-is : new.outputs ≡ outputs_with output start.outputs (written (switched (lists_of resync files names)))
      whole-is = r.written_is ∙ ap (outputs_with output start.outputs)
          (ap (λ p. written (cells_of r.behind) ++ (written (take r.n r.list.cells) ++ p)) (subst (λ e. IsPart r.list.cells r.n e r.part) end_is r.part_is)
          ∙ ap (λ l. written (cells_of r.behind) ++ l) (append-nil _)
          ∙ ap (λ l. written (cells_of r.behind) ++ written l) (take_all r.n r.list.cells (let g = gives.whole in omega (arith, g)))
          ∙ sym (flat-append cell_bytes (cells_of r.behind) r.list.cells)
          ∙ ap written (sym switched-is))

      count-is : length (switched (lists_of resync files names)) ≡ length (cells_of r.behind) + r.n
      count-is = ap (λ l. length l) switched-is ∙ length-append (cells_of r.behind) r.list.cells ∙ ap (λ n. length (cells_of r.behind) + n) (sym gives.whole)

      end-is : end_of_list last.list.ended ≡ r.end
      end-is = ap end_of_list ended ∙ sym end_is

      report-is : switched_report (lists_of resync files names) ≡ lines_of r.behind ++ (play_line r.input r.n r.end ++ switch_end_line r.input r.end (length (cells_of r.behind) + r.n))
      report-is =
          report-of (lists_of resync files (names_of r.behind)) last (lists_of resync files names) played-is
          ∙ ap (λ l. l ++ (line_of last ++ switch_end_line r.input (end_of_list last.list.ended) (length (switched (lists_of resync files names))))) (behind-lines resync start files told r.behind r.all)
          ∙ ap (λ e. lines_of r.behind ++ (play_line r.input (length last.list.cells) e ++ switch_end_line r.input e (length (switched (lists_of resync files names))))) end-is
          ∙ ap (λ n. lines_of r.behind ++ (play_line r.input n r.end ++ switch_end_line r.input r.end (length (switched (lists_of resync files names))))) (ap (λ (z : StageList). length z.cells) (sym last-is) ∙ sym gives.whole)
          ∙ ap (λ c. lines_of r.behind ++ (play_line r.input r.n r.end ++ switch_end_line r.input r.end c)) count-is

      status-is : status_of_plays (played (lists_of resync files names)) ≡ status_of r.input r.end
      status-is = ap status_of_plays played-is ∙ status-append (lists_of resync files (names_of r.behind)) last ∙ ap (status_of r.input) end-is

      abbrev text : List ℕ
      text = lines_of r.behind ++ (play_line r.input r.n r.end ++ switch_end_line r.input r.end (length (cells_of r.behind) + r.n))

      said : (failed : Bool) → Says r.closed new text failed → ReportsText start new (switched_report (lists_of resync files names))
      said failed says = subst (ReportsText start new) (sym report-is) (by failed says)
        where
          by : (failed : Bool) → Says r.closed new text failed → ReportsText start new text
          by false says = inl (ap (λ (d : DeskView). d.reported) says ∙ ap (λ o. grown o text) r.reported_before, ap (λ (d : DeskView). d.report_faults) says ∙ r.counted_before)
          by true says = inr (
            says.0,
            says.1,
            ap (λ (d : DeskView). d.reported) says.2 ∙ ap (λ o. grown o (take says.0 text)) r.reported_before,
            subst (HasCause start.report_faults) (sym (ap (λ (d : DeskView). d.report_faults) says.2 ∙ ap raised r.counted_before)) (HasCause-raised start.report_faults),
          )

      -- nothing was late: all of it is reported
      pure-of : (late failed : Bool) → late ≡ false → failed ≡ false → Says r.closed new text failed → answer ≡ late_status (late || failed) r.input r.end
          → IsPureSwitch (lists_of resync files names) output start new answer
      pure-of late failed l f says is = record {
        written_is = whole-is;
        reported_is =
            ap (λ (d : DeskView). d.reported) (subst (Says r.closed new text) f says) ∙ ap (λ o. grown o text) r.reported_before ∙ ap (grown start.reported) (sym report-is);
        answer_is = is ∙ ap (λ b. late_status (b || failed) r.input r.end) l ∙ ap (λ b. late_status b r.input r.end) f ∙ sym status-is;
      }

      whole-of : (failed : Bool) → Says r.closed new text failed → answer ≡ status_of r.input r.end → WritesSwitched (lists_of resync files names) output start new answer
      whole-of failed says is = record { written_is = whole-is; reported_is = said failed says; answer_is = is ∙ sym status-is }

    -- nothing failed
    pub ran-pure : NothingFails start new → (answer ≡ status.NoMemory) ⊎ IsPureSwitch (lists_of resync files names) output start new answer
    ran-pure nothing = elim r.reported [
      | inl s ↦ inr (
          let g = gives-own r.list r.n r.end r.ends (own-end r.end refl) in
          pure-of g.0 g.1 g.2 r.late s.0 (not-late r.late refl) (not-failed s.0 _ s.1) s.1 s.2
          )
      | inr n ↦ inl n.0
    ]
      where
        no-write : HasCause start.write_faults r.closed.write_faults → ⊥
        no-write h = quiet-absurd start.write_faults new.write_faults nothing.writes (subst (HasCause start.write_faults) (sym r.writes) h)

        own-end : (end : PlayEnd) → r.end ≡ end → IsOwn end
        own-end (Input (how.End left)) e = tt
        own-end (Input (how.Sync packet)) e = tt
        own-end (Input how.ReadFault) e = absurd (quiet-absurd start.read_faults new.read_faults nothing.reads (r.read_fault e))
        own-end (Input how.TooLong) e = tt
        own-end WriteFault e = absurd (no-write (r.counts.fault e))

        not-late : (late : Bool) → r.late ≡ late → r.late ≡ false
        not-late false e = e
        not-late true e = absurd (no-write (r.counts.late_cause e))

        not-failed : (failed : Bool) (report : List ℕ) → Says r.closed new report failed → failed ≡ false
        not-failed false report says = refl
        not-failed true report says = absurd (quiet-absurd start.report_faults new.report_faults nothing.reports
            (subst (HasCause start.report_faults) (sym (ap (λ (d : DeskView). d.report_faults) says.2 ∙ ap raised r.counted_before)) (HasCause-raised start.report_faults)))

    -- after `Done`, `Sync` and `TooLong` the whole list is written
    pub ran-whole : TellsWhole answer → WritesSwitched (lists_of resync files names) output start new answer
    ran-whole tells = elim r.reported [
      | inl s ↦ (
          let own = whole-own (r.late || s.0) r.input r.end (subst TellsWhole s.2 tells) in
          let g = gives-own r.list r.n r.end r.ends own.0 in
          whole-of g.0 g.1 g.2 s.0 s.1 (s.2 ∙ own.1)
          )
      | inr n ↦ absurd (subst TellsWhole n.0 tells)
    ]

  -- `Done`: neither count rose
  pub ran-done : answer ≡ status.Done → NothingLate start new
  ran-done done = elim r.reported [
    | inl s ↦ (
        let d = done-own (r.late || s.0) r.input r.end (sym s.2 ∙ done) in
        let l = or-false r.late s.0 d.0 in
        record {
          writes = r.writes ∙ r.counts.still l.0 (λ w. (let bad : Input (how.End d.1.0) ≡ WriteFault = sym d.1.1 ∙ w in cc));
          reports = ap (λ (v : DeskView). v.report_faults) (subst (Says r.closed new _) l.1 s.1) ∙ r.counted_before;
        }
        )
    | inr n ↦ absurd (let bad : status.NoMemory ≡ status.Done = sym n.0 ∙ done in cc)
  ]

  -- a read fault has its cause, and shows
  pub ran-fault : answer ≡ status.ReadFault → HasCause start.read_faults new.read_faults × ReadFailed start new
  ran-fault is = elim r.reported [
    | inl s ↦ (let e = fault-own (r.late || s.0) r.input r.end (sym s.2 ∙ is) in (r.read_fault e, shows r.ok r.last_read r.asked e))
    | inr n ↦ absurd (let bad : status.NoMemory ≡ status.ReadFault = sym n.0 ∙ is in cc)
  ]
    where
      shows : (ok : Bool) → LastRead resync buffer start r.behind r.name r.n r.end r.later r.ahead ok r.sources
          → new.asked ≡ grown start.asked (all_asked r.behind ++ asked_of ok (record { input = r.input; name = r.name }) ∷ r.ahead)
          → r.end ≡ Input how.ReadFault → ReadFailed start new
      shows false l asked e = inl (all_asked r.behind, record { input = r.input; name = r.name }, r.ahead, (let none = ap (λ (x : List Asked). length x) l.3 in omega (arith, none)), asked)
      shows true l asked e =
          inr (sources_of r.behind, l.0, l.1, one-more resync start r.later r.ahead l.1 l.3, read-fault resync buffer (opened_source start r.name) l.0 r.n (cause_of r.end) l.4 (ap cause_of e), r.closed_in ∙ ap (with_inputs start.closed_in) l.2)

  -- a write fault has its cause
  pub ran-write : answer ≡ status.WriteFault → HasCause start.write_faults new.write_faults ⊎ HasCause start.report_faults new.report_faults
  ran-write is = elim r.reported [
    | inl s ↦ elim (write-own (r.late || s.0) r.input r.end (sym s.2 ∙ is)) [
      | inl w ↦ inl (subst (HasCause start.write_faults) (sym r.writes) (r.counts.fault w))
      | inr l ↦ elim (or-true r.late s.0 l) [
        | inl late ↦ inl (subst (HasCause start.write_faults) (sym r.writes) (r.counts.late_cause late))
        | inr failed ↦ inr (let says = subst (Says r.closed new _) failed s.1 in subst (HasCause start.report_faults) (sym (ap (λ (d : DeskView). d.report_faults) says.2 ∙ ap raised r.counted_before)) (HasCause-raised start.report_faults))
      ]
    ]
    | inr n ↦ absurd (let bad : status.NoMemory ≡ status.WriteFault = sym n.0 ∙ is in cc)
  ]

-- ---- memory ran out while they were

module _ (resync : Bool) (names : List PlayName) (output : Option (List ℕ)) (start new : DeskView) (answer : SwitchStatus) (w : SwitchWanted resync names output start new answer)
    (files : List (List ℕ × List ℕ)) (told : start.files ≡ Some files) where
  pub wanted-first : WritesFirst (lists_of resync files names) output start new
  wanted-first = elim w.of_next [ inl none ↦ nothing-of none | inr some ↦ some-of some.0 some.1 some.2 some.3 some.4 some.5 ]
    where
      split : switched (lists_of resync files names) ≡ cells_of w.behind ++ switched (lists_of resync files w.later)
      split = ap (λ n. switched (lists_of resync files n)) w.names_are ∙ behind-played resync start files told w.behind w.later w.all

      nothing-of : w.more ≡ [] → WritesFirst (lists_of resync files names) output start new
      nothing-of none =
          let b = begins-all (cells_of w.behind) w.more (switched (lists_of resync files w.later)) w.n w.end w.part w.part_is in
          inr (
            written (cells_of w.behind) ++ (written (take w.n w.more) ++ w.part),
            b.0,
            w.written_is,
            ap written (split ∙ ap (λ l. cells_of w.behind ++ (l ++ switched (lists_of resync files w.later))) (sym none)) ∙ b.1,
          )

      some-of : (play : PlayName) (rest : List PlayName) (list : StageList) → w.later ≡ play ∷ rest → IsListOf resync start.files play.name list → w.more ≡ list.cells → WritesFirst (lists_of resync files names) output start new
      some-of play rest list later is more =
          let of_file = list_of resync (file_of files play.name) in
          let after = all-cells (if is_plain of_file.ended then played (lists_of resync files rest) else []) in
          let b = begins-all (cells_of w.behind) w.more after w.n w.end w.part w.part_is in
          inr (
            written (cells_of w.behind) ++ (written (take w.n w.more) ++ w.part),
            b.0,
            w.written_is,
            ap written (split ∙ ap (λ l. cells_of w.behind ++ switched (lists_of resync files l)) later
                ∙ ap (λ l. cells_of w.behind ++ (l ++ after)) (ap (λ (z : StageList). z.cells) (sym (list-told resync start files told play.name list is)) ∙ sym more)) ∙ b.1,
          )
