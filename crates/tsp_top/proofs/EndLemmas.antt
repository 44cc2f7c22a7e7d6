-- The end of a report, whether its lines were printed before or not.
use Rattle.std.proofs.Common.{◌≡◌, inl, inr, ℕ, suc, List, [], ◌∷◌, ◌++◌, take, Bool, true, false, if◌then◌else◌, Option, refl, ap, sym, ◌∙◌, subst, append-nil}
use Rattle.ts_outside.specs.Source.{SourceView}
use Rattle.ts_outside.specs.Sink.{SinkView}
use Rattle.ts_outside.specs.Desk.{DeskView, reports, report_failed}
use Rattle.ts_outside.specs.Saying.{Says}
use Rattle.chain_args.specs.declared.general_conf.GeneralConf.{GeneralConf}
use Rattle.chain_model.specs.Apply.{StageList}
use Rattle.chain_model.specs.PluginRule.{PluginRule}
use Rattle.chain_model.specs.PureRun.{Chain, chain_rules}
use Rattle.chain_model.specs.Reports.{NamedRule, end_line, plugin_report}
use Rattle.chain_model.specs.StageLists.{stage_list}
use Rattle.chain_model.specs.declared.cause.Cause.{Cause}
use Rattle.chain_live.specs.LiveReports.{LiveLine, summaries_from}
use Rattle.stage_run.specs.declared.input_part.InputPart.{InputPart}
use Rattle.stage_run.specs.declared.input_part.InputPart.TheVariants.{Stream, Nulls, Generated}
use Rattle.stage_run.specs.declared.output_part.OutputPart.{OutputPart}
use Rattle.stage_run.specs.declared.output_part.OutputPart.TheVariants as out
use Rattle.tsp_top.specs.Printed.{input_ended, input_printed, live_asked, live_text, reported_as, reports_asked, summaries_printed, told_lines}
use Rattle.tsp_top.specs.LeftOut.{LeftOut}
use Rattle.tsp_top.specs.PlannedChain.{stuffing_of}
use Rattle.packet_forms.specs.declared.forms.Form.{Form}
use Rattle.search_source.specs.declared.gap.Gap.{Gap}
use Rattle.search_source.specs.declared.gap_counts.GapCounts.{GapCounts}
use Rattle.tsp_top.specs.LiveEnds.{PrintedTo}
use Rattle.tsp_top.specs.Ran.{closed_desk}
use Rattle.tsp_top.specs.Reported.{ReportsAsked, ReportsRun, StandsUnreported}
use Rattle.tsp_top.specs.declared.status.Status.{Status}

-- ---- reports before and after the ends are closed

module _ {S K : Type 0} (inner : S → SourceView) (seen : K → SinkView) where
  closed-reports : (from : InputPart S) (to : OutputPart K) (failed : Bool) (d : DeskView) (text : List ℕ) → closed_desk inner seen (reports d text) from to failed ≡ reports (closed_desk inner seen d from to failed) text
  closed-reports (Stream source) (out.Stream sink) failed d text = refl
  closed-reports (Stream source) out.Discard failed d text = refl
  closed-reports (Nulls count) (out.Stream sink) failed d text = refl
  closed-reports (Nulls count) out.Discard failed d text = refl
  closed-reports (Generated generator count) (out.Stream sink) failed d text = refl
  closed-reports (Generated generator count) out.Discard failed d text = refl

  closed-failed : (from : InputPart S) (to : OutputPart K) (failed : Bool) (d : DeskView) → closed_desk inner seen (report_failed d) from to failed ≡ report_failed (closed_desk inner seen d from to failed)
  closed-failed (Stream source) (out.Stream sink) failed d = refl
  closed-failed (Stream source) out.Discard failed d = refl
  closed-failed (Nulls count) (out.Stream sink) failed d = refl
  closed-failed (Nulls count) out.Discard failed d = refl
  closed-failed (Generated generator count) (out.Stream sink) failed d = refl
  closed-failed (Generated generator count) out.Discard failed d = refl

  -- what was reported stands so after both ends are closed
  pub closed-says : (from : InputPart S) (to : OutputPart K) (closing : Bool) (old new : DeskView) (text : List ℕ) (failed : Bool) → Says old new text failed
      → Says (closed_desk inner seen old from to closing) (closed_desk inner seen new from to closing) text failed
  closed-says from to closing old new text false said =
      ap (λ (d : DeskView). closed_desk inner seen d from to closing) said ∙ closed-reports from to closing old text
  closed-says from to closing old new text true said = (
    said.0,
    said.1,
    ap (λ (d : DeskView). closed_desk inner seen d from to closing) said.2
        ∙ (closed-failed from to closing (reports old (take said.0 text)) ∙ ap (λ (d : DeskView). report_failed d) (closed-reports from to closing old (take said.0 text))),
  )

  pub closed-printed : (from : InputPart S) (to : OutputPart K) (closing : Bool) (general : GeneralConf) (chain : Chain) (cut : ℕ) (form : Form) (gaps : List Gap) (at : ℕ) (old new made : DeskView) (failed whole : Bool) (counts : GapCounts)
      → made ≡ closed_desk inner seen new from to closing → PrintedTo general chain cut form gaps at old new failed whole counts
      → PrintedTo general chain cut form gaps at (closed_desk inner seen old from to closing) made failed whole counts
  closed-printed from to closing general chain cut form gaps at old new made failed whole counts is printed =
      let M : DeskView → Type 0 = λ d. Says (closed_desk inner seen old from to closing) d (live_text general.bare printed.first) failed in
      record {
        within = printed.within;
        first = printed.first;
        begins = printed.begins;
        said = subst M (sym is) (closed-says from to closing old new (live_text general.bare printed.first) failed printed.said);
        all = printed.all;
      }

  -- what is reported after both ends were closed goes on behind what was printed before that
  pub closed-live : (from : InputPart S) (to : OutputPart K) (closing told : Bool) (general : GeneralConf) (text : List ℕ) (lines : List LiveLine) (faulty : Bool) (K : Type 0) (why : Cause)
      (chain : Chain) (cut : ℕ) (form : Form) (gaps : List Gap) (at : ℕ) (opened ran made new : DeskView) (failed whole : Bool) (counts : GapCounts) (status : Status)
      → told ≡ closing → made ≡ closed_desk inner seen ran from to closing → PrintedTo general chain cut form gaps at opened ran failed whole counts
      → ((first : DeskView) → PrintedTo general chain cut form gaps at first made failed whole counts → ReportsAsked general text lines faulty K why told first new status)
      → ReportsAsked general text lines faulty K why closing (closed_desk inner seen opened from to closing) new status
  closed-live from to closing told general text lines faulty K why chain cut form gaps at opened ran made new failed whole counts status e is printed reported =
      let first : DeskView = closed_desk inner seen opened from to closing in
      let B : Bool → Type 0 = λ b. ReportsAsked general text lines faulty K why b first new status in
      subst B e (reported first (closed-printed from to closing general chain cut form gaps at opened ran made failed whole counts is printed))

  -- a desk that nothing was reported at, after both ends were closed
  pub closed-silent : (from : InputPart S) (to : OutputPart K) (closing : Bool) (ran opened made : DeskView) → made ≡ closed_desk inner seen ran from to closing → ran ≡ opened
      → made ≡ closed_desk inner seen opened from to closing
  closed-silent from to closing ran opened made is same = is ∙ ap (λ (d : DeskView). closed_desk inner seen d from to closing) same

-- ---- the whole report

summaries-plain : (rules : List PluginRule) (input : StageList) (m j : ℕ) (plugins : List NamedRule)
    → summaries_printed false rules input m j plugins ≡ summaries_from (λ (i : ℕ). (stage_list rules input i).cells) m j plugins
summaries-plain rules input m j [] = refl
summaries-plain rules input m j (plugin ∷ rest) =
    ap (λ (l : List ℕ). plugin_report (suc j) plugin.name (plugin.rule.summary_of (take m (stage_list rules input j).cells)) ++ l) (summaries-plain rules input m (suc j) rest)

-- the lines, what else the input reports, the summaries, and then the line for the end or nothing
live-same : (bare : Bool) (lines : List LiveLine) (said : List ℕ) (chain : Chain) (m : ℕ) (why : Cause)
    → live_text bare lines ++ (said ++ (summaries_printed bare (chain_rules chain) chain.input m 0 chain.plugins ++ (if bare then [] else end_line why m))) ≡ live_asked bare lines said chain m why
live-same true lines said chain m why =
    ap (λ (l : List ℕ). live_text true lines ++ (said ++ l)) (append-nil (summaries_printed true (chain_rules chain) chain.input m 0 chain.plugins))
live-same false lines said chain m why =
    ap (λ (l : List ℕ). live_text false lines ++ (said ++ (l ++ end_line why m))) (summaries-plain (chain_rules chain) chain.input m 0 chain.plugins)

pub live-report : (general : GeneralConf) (left_out : Option LeftOut) (chain : Chain) (m : ℕ) (why : Cause) → general.live ≡ true
    → live_text general.bare (told_lines general left_out chain m) ++ (input_ended general.bare (stuffing_of general) left_out m why
    ++ (summaries_printed general.bare (chain_rules chain) chain.input m 0 chain.plugins ++ (if general.bare then [] else end_line why m)))
    ≡ reported_as general left_out chain m why
live-report general left_out chain m why live =
    let lines : List LiveLine = told_lines general left_out chain m in
    let said : List ℕ = input_ended general.bare (stuffing_of general) left_out m why in
    live-same general.bare lines said chain m why
    ∙ sym (ap (λ (b : Bool). if b then live_asked general.bare lines said chain m why
    else input_printed general.bare (stuffing_of general) left_out m why ++ reports_asked general chain.plugins chain.input m why) live)

-- of a run whose lines are printed at its end
pub plain-report : (general : GeneralConf) (left_out : Option LeftOut) (chain : Chain) (m : ℕ) (why : Cause) → general.live ≡ false
    → reported_as general left_out chain m why ≡ input_printed general.bare (stuffing_of general) left_out m why ++ reports_asked general chain.plugins chain.input m why
plain-report general left_out chain m why plain =
    ap (λ (b : Bool). if b then live_asked general.bare (told_lines general left_out chain m) (input_ended general.bare (stuffing_of general) left_out m why) chain m why
    else input_printed general.bare (stuffing_of general) left_out m why ++ reports_asked general chain.plugins chain.input m why) plain

-- ---- what was asked for

pub asked-plain : (general : GeneralConf) (left_out : Option LeftOut) (chain : Chain) (m : ℕ) (why : Cause) (lines : List LiveLine) (faulty : Bool) (K : Type 0) (closing : Bool) (old new : DeskView) (status : Status) → general.live ≡ false
    → ReportsRun general (input_printed general.bare (stuffing_of general) left_out m why ++ reports_asked general chain.plugins chain.input m why) faulty K why closing old new status
    → ReportsAsked general (reported_as general left_out chain m why) lines faulty K why closing old new status
asked-plain general left_out chain m why lines faulty K closing old new status plain (inl said) =
    let T : List ℕ → Type 0 = λ t. Says old new t said.0 in
    inl (said.0, subst T (sym (plain-report general left_out chain m why plain)) said.1, said.2, said.3)
asked-plain general left_out chain m why lines faulty K closing old new status plain (inr none) =
    let B : Bool → Type 0 = λ b. StandsUnreported b general.bare lines old new in
    inr (none.0, subst B (sym plain) none.1)
