-- What is reported of a run whose lines were printed while it went: the rest of the report.
use Rattle.std.proofs.Common.{◌≡◌, ℕ, ◌≤◌, List, [], ◌++◌, map, Bool, true, false, ◌||◌, if◌then◌else◌, Option, None, Some, refl, ap, sym, ◌∙◌, subst, append_assoc}
use Rattle.std.specs.Prelude.{codes}
use Rattle.std.specs.List.{AllByRecursion}
use Rattle.std.proofs.lemmas.Grind.{flat_map-append, fold-append}
use Rattle.ts_outside.specs.Desk.{DeskView}
use Rattle.ts_outside.specs.Saying.{Says}
use Rattle.packet_forms.specs.declared.forms.Form.{Form}
use Rattle.chain_args.specs.declared.general_conf.GeneralConf.{GeneralConf}
use Rattle.chain_model.specs.Prefix.{IsPrefix}
use Rattle.chain_model.specs.PureRun.{Chain, chain_rules}
use Rattle.chain_model.specs.Reports.{end_line}
use Rattle.chain_model.specs.declared.cause.Cause.{Cause}
use Rattle.chain_model.specs.Stuffed.{Stuffing}
use Rattle.chain_live.specs.LiveReports.{LiveLine}
use Rattle.chain_tells.specs.InputLines.{lines_with}
use Rattle.search_source.specs.Gaps.{no_gaps, with_end}
use Rattle.search_source.specs.declared.file_source.KeptGaps.{KeptGaps}
use Rattle.search_source.specs.declared.gap.Gap.{Gap}
use Rattle.search_source.specs.declared.gap_counts.GapCounts.{GapCounts}
use Rattle.tsp_top.specs.CallOutcome.{run_status}
use Rattle.tsp_top.specs.InputRounds.{ExtendsTold, KnowsEnd, rest_faulty, rest_printed}
use Rattle.tsp_top.specs.LeftOut.{LeftOut, counts_below, counts_text, has_gaps, input_faulty, is_below, left_behind, with_below}
use Rattle.tsp_top.specs.LiveEnds.{PrintedTo}
use Rattle.tsp_top.specs.PlannedChain.{stuffing_of}
use Rattle.tsp_top.specs.Printed.{end_printed, gap_line, input_ended, live_line, live_text, printed_line, reported_as, summaries_printed, told_lines}
use Rattle.tsp_top.specs.Reported.{SaysFirst, StandsUnreported}
use Rattle.tsp_top.specs.declared.status.Status.{Status}
use Rattle.tsp_top.proofs.EndLemmas.{live-report}
use Rattle.tsp_top.proofs.GapLemmas.{none-counted, same-left}
use Rattle.tsp_top.proofs.Pieces.{stays_failed}
use Rattle.tsp_top.proofs.RoundRows.{told-all, told-first}

abbrev pub Below : Stuffing → ℕ → List Gap → Type 0
Below stuffing m = AllByRecursion (λ (gap : Gap). is_below stuffing m gap.before ≡ true)

-- ---- the lines of a run go on from those that were printed

-- what is left out has this form and these gaps
lines-as : (stuffing : Stuffing) (form other : Form) (gaps more : List Gap) (chain : Chain) (m : ℕ) → other ≡ form → more ≡ gaps
    → lines_with (map (gap_line stuffing other) more) chain m ≡ lines_with (map (gap_line stuffing form) gaps) chain m
lines-as stuffing form other gaps more chain m same are =
    ap (λ (f : Form). lines_with (map (gap_line stuffing f) more) chain m) same ∙ ap (λ (l : List Gap). lines_with (map (gap_line stuffing form) l) chain m) are

pub told-begins : (general : GeneralConf) (form : Form) (gaps : List Gap) (at : ℕ) (kept : Option KeptGaps) (why : Cause) (left_out : Option LeftOut) (chain : Chain) (cut : ℕ)
    → ExtendsTold (stuffing_of general) form gaps at kept why left_out → Below (stuffing_of general) at gaps → at ≤ cut
    → (more : List LiveLine) × (told_lines general left_out chain cut ≡ lines_with (map (gap_line (stuffing_of general) form) gaps) chain at ++ more)
told-begins general form gaps at None why None chain cut none below le =
    let s : Stuffing = stuffing_of general in
    let first = told-first s form chain at cut [] [] le tt tt in
    (first.0, first.1 ∙ ap (λ (l : List Gap). lines_with (map (gap_line s form) l) chain at ++ first.0) (sym none))
told-begins general form gaps at None why (Some out) chain cut none below le = absurd none
told-begins general form gaps at (Some kept) why None chain cut none below le = absurd none
told-begins general form gaps at (Some kept) why (Some out) chain cut extends below le =
    let s : Stuffing = stuffing_of general in
    let first = told-first s form chain at cut gaps extends.0.later le below extends.0.behind in
    (first.0, lines-as s form out.form (gaps ++ extends.0.later) out.gaps chain cut extends.0.form_is extends.0.all_are ∙ first.1)

pub told-ends : (general : GeneralConf) (form : Form) (gaps : List Gap) (at : ℕ) (kept : Option KeptGaps) (why : Cause) (left_out : Option LeftOut) (chain : Chain) (cut : ℕ)
    → ExtendsTold (stuffing_of general) form gaps at kept why left_out → at ≡ cut
    → told_lines general left_out chain cut ≡ lines_with (map (gap_line (stuffing_of general) form) gaps) chain cut
told-ends general form gaps at None why None chain cut none same =
    ap (λ (l : List Gap). lines_with (map (gap_line (stuffing_of general) form) l) chain cut) (sym none)
told-ends general form gaps at None why (Some out) chain cut none same = absurd none
told-ends general form gaps at (Some kept) why None chain cut none same = absurd none
told-ends general form gaps at (Some kept) why (Some out) chain cut extends same =
    let s : Stuffing = stuffing_of general in
    lines-as s form out.form (gaps ++ extends.0.later) out.gaps chain cut extends.0.form_is extends.0.all_are
    ∙ told-all s form chain cut gaps extends.0.later (subst (λ (n : ℕ). AllByRecursion (λ (gap : Gap). is_below s n gap.before ≡ false) extends.0.later) same extends.0.behind)

-- the first of them stand printed where there was no memory for the rest
pub stands-live : (general : GeneralConf) (form : Form) (gaps : List Gap) (at : ℕ) (kept : Option KeptGaps) (why : Cause) (left_out : Option LeftOut) (chain : Chain) (cut : ℕ)
    (old new : DeskView) (failed whole : Bool) (counts : GapCounts) → general.live ≡ true → Below (stuffing_of general) at gaps → ExtendsTold (stuffing_of general) form gaps at kept why left_out
    → PrintedTo general chain cut form gaps at old new failed whole counts → StandsUnreported general.live general.bare (told_lines general left_out chain cut) old new
stands-live general form gaps at kept why left_out chain cut old new failed whole counts live below extends printed =
    let lines : List LiveLine = told_lines general left_out chain cut in
    let B : Bool → Type 0 = λ b. StandsUnreported b general.bare lines old new in
    let more = told-begins general form gaps at kept why left_out chain cut extends below printed.within in
    let begins : IsPrefix printed.first lines = (
      printed.begins.0 ++ more.0,
      more.1 ∙ (ap (λ (l : List LiveLine). l ++ more.0) printed.begins.1 ∙ append_assoc printed.first printed.begins.0 more.0),
    ) in
    let says : SaysFirst general.bare lines old new = record { first = printed.first; begins = begins; failed = failed; said = printed.said } in
    subst B (sym live) says

-- ---- what else is said of the input

rest-counts : (stuffing : Stuffing) (cut : ℕ) (form other : Form) (gaps later all : List Gap) → other ≡ form → all ≡ gaps ++ later
    → AllByRecursion (λ (gap : Gap). is_below stuffing cut gap.before ≡ false) later → counts_below stuffing cut other all ≡ counts_below stuffing cut form gaps
rest-counts stuffing cut form other gaps later all same are behind =
    ap (λ (f : Form). counts_below stuffing cut f all) same ∙ ap (counts_below stuffing cut form) are
    ∙ fold-append (with_below stuffing cut form) no_gaps gaps later
    ∙ none-counted stuffing cut form (counts_below stuffing cut form gaps) later behind

pub rest-same : (bare : Bool) (stuffing : Stuffing) (form : Form) (gaps : List Gap) (at cut : ℕ) (kept : Option KeptGaps) (why : Cause) (left_out : Option LeftOut) (counts : GapCounts)
    → ExtendsTold stuffing form gaps at kept why left_out → at ≡ cut → counts ≡ counts_below stuffing cut form gaps → KnowsEnd kept why
    → (rest_printed bare counts kept why ≡ input_ended bare stuffing left_out cut why) × (rest_faulty counts kept why ≡ input_faulty stuffing left_out cut why)
rest-same bare stuffing form gaps at cut None why None counts extends same are known = (refl, refl)
rest-same bare stuffing form gaps at cut None why (Some out) counts extends same are known = absurd extends
rest-same bare stuffing form gaps at cut (Some kept) why None counts extends same are known = absurd extends
rest-same bare stuffing form gaps at cut (Some kept) why (Some out) counts extends same are known =
    let behind = subst (λ (n : ℕ). AllByRecursion (λ (gap : Gap). is_below stuffing n gap.before ≡ false) extends.0.later) same extends.0.behind in
    let own : counts ≡ counts_below stuffing cut out.form out.gaps = are ∙ sym (rest-counts stuffing cut form out.form gaps extends.0.later out.gaps extends.0.form_is extends.0.all_are behind) in
    let left : left_behind why kept.behind ≡ left_behind why out.behind = same-left why kept.behind out.behind (λ at_end. sym (extends.1 at_end (known at_end))) in
    let line : GapCounts → List ℕ = λ c. printed_line bare 0 (codes "file") (counts_text c) in (
      ap (λ (n : ℕ). end_printed bare n ++ line (with_end counts n)) left
          ∙ ap (λ (c : GapCounts). end_printed bare (left_behind why out.behind) ++ line (with_end c (left_behind why out.behind))) own,
      ap (λ (n : ℕ). has_gaps (with_end counts n)) left ∙ ap (λ (c : GapCounts). has_gaps (with_end c (left_behind why out.behind))) own,
    )

-- ---- the rest of the report

or-true : (b : Bool) → (b || true) ≡ true
or-true true = refl
or-true false = refl

-- after a failure the status is the same whether there is a fault or not
late-status : (general : GeneralConf) (one other : Bool) (why : Cause) (late : Bool) → late ≡ true → run_status general one why late ≡ run_status general other why late
late-status general one other why true is = refl
late-status general one other why false is = absurd cc

module _ (general : GeneralConf) (left_out : Option LeftOut) (chain : Chain) (cut at : ℕ) (why : Cause) (form : Form) (gaps : List Gap) (kept : Option KeptGaps) (counts : GapCounts)
    (first desk new : DeskView) (whole fails faulty faults late closing : Bool) (piece : List ℕ) (status : Status)
    (live : general.live ≡ true) (is_whole : whole ≡ true) (below : Below (stuffing_of general) at gaps) (extends : ExtendsTold (stuffing_of general) form gaps at kept why left_out) (known : KnowsEnd kept why)
    (piece_is : piece ≡ rest_printed general.bare counts kept why ++ (summaries_printed general.bare (chain_rules chain) chain.input cut 0 chain.plugins ++ (if general.bare then [] else end_line why cut)))
    (faulty_is : faulty ≡ (rest_faulty counts kept why || faults)) (late_is : late ≡ (closing || fails)) (status_is : status ≡ run_status general faulty why late) where
  abbrev pub ending : List ℕ
  ending = summaries_printed general.bare (chain_rules chain) chain.input cut 0 chain.plugins ++ (if general.bare then [] else end_line why cut)

  abbrev pub lines : List LiveLine
  lines = told_lines general left_out chain cut

  abbrev pub Reported : Type 0
  Reported = (failed : Bool) × Says first new (reported_as general left_out chain cut why) failed
      × (status ≡ run_status general (input_faulty (stuffing_of general) left_out cut why || faults) why (closing || failed)) × KnowsEnd kept why

  -- no report had failed before
  reported-well : PrintedTo general chain cut form gaps at first desk false whole counts → ((text : List ℕ) → Says first desk text false → Says first new (text ++ piece) fails) → Reported
  reported-well printed says =
      let all = printed.all is_whole refl in
      let rest = rest-same general.bare (stuffing_of general) form gaps at cut kept why left_out counts extends all.0 all.1 known in
      let own : printed.first ≡ lines =
      all.2 ∙ ap (λ (n : ℕ). lines_with (map (gap_line (stuffing_of general) form) gaps) chain n) all.0 ∙ sym (told-ends general form gaps at kept why left_out chain cut extends all.0) in
      let text : live_text general.bare printed.first ++ piece ≡ reported_as general left_out chain cut why =
      ap (λ (l : List LiveLine). live_text general.bare l ++ piece) own
      ∙ ap (λ (t : List ℕ). live_text general.bare lines ++ t) (piece_is ∙ ap (λ (t : List ℕ). t ++ ending) rest.0)
      ∙ live-report general left_out chain cut why live in (
        fails,
        subst (λ (t : List ℕ). Says first new t fails) text (says (live_text general.bare printed.first) printed.said),
        status_is ∙ ap (λ (b : Bool). run_status general b why late) (faulty_is ∙ ap (λ (b : Bool). b || faults) rest.1)
            ∙ ap (λ (b : Bool). run_status general (input_faulty (stuffing_of general) left_out cut why || faults) why b) late_is,
        known,
      )

  -- one had
  reported-late : PrintedTo general chain cut form gaps at first desk true whole counts → fails ≡ true → new ≡ desk → Reported
  reported-late printed failed same =
      let more = told-begins general form gaps at kept why left_out chain cut extends below printed.within in
      let rest : List LiveLine = printed.begins.0 ++ more.0 in
      let own : lines ≡ printed.first ++ rest = more.1 ∙ (ap (λ (l : List LiveLine). l ++ more.0) printed.begins.1 ∙ append_assoc printed.first printed.begins.0 more.0) in
      let said : List ℕ = input_ended general.bare (stuffing_of general) left_out cut why ++ ending in
      let behind : List ℕ = live_text general.bare rest ++ said in
      let text : live_text general.bare printed.first ++ behind ≡ reported_as general left_out chain cut why =
      sym (append_assoc (live_text general.bare printed.first) (live_text general.bare rest) said)
      ∙ ap (λ (t : List ℕ). t ++ said) (sym (flat_map-append (live_line general.bare) printed.first rest) ∙ ap (live_text general.bare) (sym own))
      ∙ live-report general left_out chain cut why live in
      let is_late : late ≡ true = late_is ∙ ap (λ (b : Bool). closing || b) failed ∙ or-true closing in (
        true,
        subst (λ (d : DeskView). Says first d (reported_as general left_out chain cut why) true) (sym same)
            (subst (λ (t : List ℕ). Says first desk t true) text (stays_failed first desk (live_text general.bare printed.first) behind printed.said)),
        status_is ∙ late-status general faulty (input_faulty (stuffing_of general) left_out cut why || faults) why late is_late
            ∙ ap (λ (b : Bool). run_status general (input_faulty (stuffing_of general) left_out cut why || faults) why b) (is_late ∙ sym (or-true closing)),
        known,
      )

  pub live-reported : (failed : Bool) → PrintedTo general chain cut form gaps at first desk failed whole counts → ((text : List ℕ) → Says first desk text failed → Says first new (text ++ piece) fails)
      → (failed ≡ true → (fails ≡ true) × (new ≡ desk)) → Reported
  live-reported false printed says over = reported-well printed says
  live-reported true printed says over = reported-late printed (over refl).0 (over refl).1
