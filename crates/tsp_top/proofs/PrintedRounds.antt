-- What was printed of a run while it went, with the gaps of its input or without.
use Rattle.std.proofs.Common.{◌≡◌, ◌≢◌, ℕ, ◌≤◌, ◌<◌, ◌^◌, List, [], ◌∷◌, length, map, Bool, true, false, not, ◌&&◌, Some, Result, IfOk, OnErr, refl, ap, sym, ◌∙◌, subst, append-nil, arith}
use Rattle.std.specs.Prelude.{fold}
use Rattle.std.specs.List.{AllByRecursion}
use Rattle.std.specs.declared.alloc.AllocError.{AllocError}
use Rattle.std.proofs.lemmas.Result.{IfOk-weaker}
use Rattle.ts_outside.specs.Desk.{DeskView}
use Rattle.ts_outside.specs.Saying.{Says}
use Rattle.ts_outside.specs.Source.{SourceView, Origin}
use Rattle.ts_outside.specs.Told.{before}
use Rattle.ts_outside.specs.declared.sources.Source.{Ghosts}
use Rattle.chain_args.specs.declared.general_conf.GeneralConf.{GeneralConf}
use Rattle.chain_args.specs.declared.plan_type.Plan.{Plan}
use Rattle.chain_core.specs.declared.closed.Closed.{Closed}
use Rattle.chain_core.specs.declared.core_plan.CorePlan.{CorePlan}
use Rattle.chain_model.specs.Reports.{NamedRule, rules_of}
use Rattle.chain_model.specs.PureRun.{Chain}
use Rattle.chain_model.specs.Stuffed as model
use Rattle.chain_live.specs.LiveReports.{LiveLine, lines_below}
use Rattle.chain_rounds.specs.Merged.{merged}
use Rattle.chain_rounds.specs.Round.{AreNames, place}
use Rattle.chain_rounds.specs.Told.{shown}
use Rattle.chain_run.specs.RunOf.{NeverBegan}
use Rattle.chain_run.specs.RunTold.{HeardSinceOne}
use Rattle.chain_run.specs.Runs.{RunStart, began_with}
use Rattle.plugin_trait.specs.declared.heard.Heard.{Heard}
use Rattle.chain_tells.specs.InputLines.{lines_with}
use Rattle.chain_tells.specs.PrintingRounds.{PrintsRound}
use Rattle.chain_tells.specs.Rounds.{Round, HeardRounds, LiveRounds, RoundStands, lines_of_rounds}
use Rattle.chain_tells.specs.declared.printing.Printing.{Printing}
use Rattle.packet_forms.specs.declared.forms.Form.{Form}
use Rattle.packet_search.specs.Rule.{deciding_bytes}
use Rattle.search_source.specs.Coming.{found_in}
use Rattle.search_source.specs.Gaps.{no_gaps, with_gap}
use Rattle.search_source.specs.Since.{NotedOf}
use Rattle.search_source.specs.declared.file_source.FileSource.{FileSource}
use Rattle.search_source.specs.declared.file_source.FileSource.TheVariants.{Placed, Found}
use Rattle.search_source.specs.declared.gap.Gap.{Gap}
use Rattle.search_source.specs.declared.gap_counts.GapCounts.{GapCounts}
use Rattle.search_source.specs.declared.noted_source.NotedSource.{NotedSource}
use Rattle.stage_run.specs.Seeing.{Seeing, heard_rule}
use Rattle.stage_run.specs.declared.output_part.OutputPart.{OutputPart}
use Rattle.stage_run.specs.declared.stuffing.Stuffing.{Stuffing}
use Rattle.stage_run.specs.InputStands as stage
use Rattle.stage_run.specs.declared.input_part.InputPart.{InputPart}
use Rattle.stage_run.specs.declared.input_part.InputPart.TheVariants.{Stream}
use Rattle.tsp_top.specs.InputRounds.{IsPlaced, ToldGaps, WritesRound, counts_after, noted_gaps}
use Rattle.tsp_top.specs.LeftOut.{counts_below}
use Rattle.tsp_top.specs.LiveEnds.{EndsLive, PrintedTo, RanLive}
use Rattle.tsp_top.specs.PlannedChain.{named_rules, stuffing_of}
use Rattle.tsp_top.specs.Printed.{gap_line, live_text}
use Rattle.tsp_top.specs.Printing.{HasPrinted, name_at}
use Rattle.tsp_top.specs.Ran.{chain_over}
use Rattle.tsp_top.specs.declared.input_texts.InputTexts.{InputTexts}
use Rattle.tsp_top.proofs.LiveLemmas.{names-are, on-err-of, ran-live}
use Rattle.tsp_top.proofs.RoundLemmas as printing
use Rattle.tsp_top.proofs.RoundRows.{cut-lines}
use Rattle.tsp_top.proofs.GapRounds.{filter-whole}
use Rattle.tsp_top.proofs.ToldLemmas.{all-counted, form_of, told-gaps}
use Rattle.tsp_top.proofs.ToldLemmas as telling

-- ---- an input whose packets are at their places

pub nothing-told : {S : Type 0} (seen : S → SourceView) (stuffing : model.Stuffing) (from : InputPart S) (at : ℕ) (form : Form) → IsPlaced seen from → ToldGaps seen stuffing from at form []
nothing-told {S} seen stuffing from at form placed = record {
  placed = λ _. refl;
  form_is = λ source own is units. absurd (apart source own is units);
  below = tt;
  known = λ source own file is left origin small. absurd (apart source own is (ap (λ (o : Origin). o.unit) origin));
}
  where
    apart : (source : S) (own : Form) → from ≡ Stream source → (seen source).origin.unit ≡ deciding_bytes own → ⊥
    apart source own is units = (subst (λ (p : InputPart S). IsPlaced seen p) is placed) own units

pub printed-plain : (general : GeneralConf) (chain : Chain) (cut : ℕ) (form : Form) (old new : DeskView) (failed whole : Bool) (counts : GapCounts) → counts ≡ no_gaps
    → HasPrinted general.bare (lines_below chain cut) old new failed whole → PrintedTo general chain cut form [] cut old new failed whole counts
printed-plain general chain cut form old new failed whole counts none printed = record {
  within = omega arith;
  first = printed.first;
  begins = printed.begins;
  said = printed.said;
  all = λ is well. (refl, none, printed.all is);
}

-- ---- an input whose gaps were told round by round

both-true : (a b : Bool) → (a && not b) ≡ true → (a ≡ true) × (b ≡ false)
both-true true false e = (refl, refl)
both-true true true e = absurd cc
both-true false b e = absurd cc

module _ {P S K Pl D : Type 0} {ghosts : Ghosts S} (see : Seeing (FileSource P (NotedSource S ghosts)) K Pl) (begun : RunStart (FileSource P (NotedSource S ghosts)) K)
    (seen : D → DeskView) (old now : InputTexts × Printing × D) (general : GeneralConf)
    (some : 1 ≤ (stage.stuffing_of old.0.stuffing).every) (same_stuffing : begun.stuffing ≡ stage.stuffing_of old.0.stuffing)
    (stuffing_is : stage.stuffing_of old.0.stuffing ≡ stuffing_of general) (bare_is : old.0.bare ≡ general.bare) (counts_none : old.0.counts ≡ no_gaps)
    (found : (source : NotedSource S ghosts) → (see.source (Found source)).origin.unit ≡ deciding_bytes source.source.finder.form)
    (placed : (source : P) (form : Form) → (see.source (Placed source)).origin.unit ≢ deciding_bytes form)
    (law : (source : NotedSource S ghosts) (form : Form) (file given : List ℕ) (old : SourceView)
    → old.left ≡ Some (found_in form file).bytes → old.origin ≡ record { unit = deciding_bytes form; bytes = Some file }
    → old.left ≡ before given (see.source (Found source)).left → old.origin ≡ (see.source (Found source)).origin → length file < 2 ^ 63 → source.lost ≡ false
    → NotedOf form file given source.from (noted_gaps source))
    (wants_not : old.1.wants ≡ false) (failed_not : old.1.failed ≡ false) where
  abbrev pub Src : Type 0
  Src = FileSource P (NotedSource S ghosts)

  abbrev pub stuffing : model.Stuffing
  stuffing = stage.stuffing_of old.0.stuffing

  abbrev pub Stands : Round Src → Type 0
  Stands = RoundStands see begun

  goes : (w : ℕ) (rounds : List (Round Src)) → printing.Ordered {P = P} {S = S} {D = D} {ghosts = ghosts} seen old w rounds → telling.Goes see begun stuffing some same_stuffing found placed law w rounds
  goes w [] order = order
  goes w (round ∷ earlier) order = (order.0, order.1, goes round.from earlier order.3)

  counts-same : (rounds : List (Round Src)) → printing.counts {P = P} {S = S} {D = D} {ghosts = ghosts} seen old rounds ≡ telling.counts see begun stuffing some same_stuffing found placed law rounds
  counts-same [] = counts_none
  counts-same (round ∷ earlier) = ap (λ (c : GapCounts). counts_after stuffing round.from round.to c round.source) (counts-same earlier)

  pub printed-rounds : (chain : Chain) (w cut : ℕ) (rounds : List (Round Src)) (all whole : Bool) → HeardRounds (PrintsRound seen WritesRound) old now w rounds → AllByRecursion Stands rounds
      → map (shown (name_at old.0.items.now)) (lines_of_rounds rounds) ≡ lines_below chain w → w ≤ cut → (all ≡ true → w ≡ cut) → whole ≡ (all && not now.1.wants)
      → (at : ℕ) × (gaps : List Gap) × ToldGaps see.source (stuffing_of general) begun.from at (form_of begun.from) gaps
      × PrintedTo general chain cut (form_of begun.from) gaps at (seen old.2) (seen now.2) now.1.failed whole now.0.counts
  printed-rounds chain w cut rounds all whole heard stand lines within ends is =
      let p = printing.since-first seen old Stands wants_not failed_not (λ r stands. (stands.goes_on, stands.lines)) now w rounds heard stand in
      let order = goes p.at p.done p.order in
      let form : Form = form_of begun.from in
      let gaps : List Gap = telling.told see begun stuffing some same_stuffing found placed law p.done in
      let own = told-gaps see begun stuffing some same_stuffing found placed law p.at p.done order p.stand in
      let line = gap_line stuffing form in
      let rows : printing.rows seen old p.done ≡ map line gaps = telling.rows-are see begun stuffing some same_stuffing found placed law p.done p.stand in
      let plug : printing.plug seen old p.done ≡ lines_below chain p.at =
      cut-lines chain p.at w (printing.plug seen old p.done) p.rest p.le (sym p.plug_is ∙ lines) (printing.plug-before seen old p.at p.done p.order) p.rest_from in
      let kept = filter-whole _ (map line gaps) (telling.all-before-lines stuffing form p.at gaps own.below) in
      let first : printing.both seen old p.done ≡ lines_with (map line gaps) chain p.at =
      ap (λ (l : List LiveLine). merged place l (printing.plug seen old p.done)) rows
      ∙ ap (merged place (map line gaps)) plug
      ∙ ap (λ (l : List LiveLine). merged place l (lines_below chain p.at)) (sym kept) in
      let T : model.Stuffing → Type 0 = λ s. ToldGaps see.source s begun.from p.at form gaps in
      let F : model.Stuffing → List LiveLine = λ s. lines_with (map (gap_line s form) gaps) chain p.at in (
        p.at,
        gaps,
        subst T stuffing_is own,
        record {
          within = omega (arith, p.le, within);
          first = F (stuffing_of general);
          begins = ([], sym (append-nil (F (stuffing_of general))));
          said = subst (λ (l : List LiveLine). Says (seen old.2) (seen now.2) (live_text general.bare l) now.1.failed) (first ∙ ap F stuffing_is)
              (subst (λ (b : Bool). Says (seen old.2) (seen now.2) (live_text b (printing.both seen old p.done)) now.1.failed) bare_is p.said);
          all = λ yes well.
              let parts = both-true all now.1.wants (sym is ∙ yes) in
              let going = p.going parts.1 well in
              let at_end : p.at ≡ cut = going.1 ∙ ends parts.0 in
              let counted : now.0.counts ≡ fold (with_gap form) no_gaps gaps =
              going.2.counts_are ∙ counts-same rounds
              ∙ ap (λ (l : List (Round Src)). telling.counts see begun stuffing some same_stuffing found placed law l) (sym going.0)
              ∙ telling.counts-are see begun stuffing some same_stuffing found placed law p.done p.stand in (
                at_end,
                counted ∙ sym (ap (λ (s : model.Stuffing). counts_below s cut form gaps) (sym stuffing_is)
                    ∙ ap (λ (n : ℕ). counts_below stuffing n form gaps) (sym at_end)
                    ∙ all-counted stuffing p.at form no_gaps gaps own.below),
                refl,
              );
        },
      )

-- a run in one thread whose rounds were printed
pub live-rounds : {P S K Pl D : Type 0} {ghosts : Ghosts S} (see : Seeing (FileSource P (NotedSource S ghosts)) K Pl) (plan : Plan) (stuffing : Stuffing) (numbers : CorePlan)
    (from made_from : InputPart (FileSource P (NotedSource S ghosts))) (plugins made : List (Heard Pl)) (to made_to : OutputPart K)
    (seen : D → DeskView) (old now : InputTexts × Printing × D) (all whole : Bool) (closed : Result Closed AllocError)
    → ((named : List NamedRule) (name_of : ℕ → List ℕ) → map (heard_rule see) plugins ≡ rules_of named → AreNames name_of 0 named
    → IfOk closed (LiveRounds see named name_of (PrintsRound seen WritesRound) old now all from made_from stuffing plugins made to made_to numbers))
    → OnErr closed (NeverBegan from made_from plugins made to made_to)
    → OnErr closed ((now.0 ≡ old.0) × (now.1 ≡ old.1) × (now.2 ≡ old.2))
    → old.0.items.now ≡ plan.plugins → old.0.stuffing ≡ stuffing → 1 ≤ stuffing.every → stage.stuffing_of stuffing ≡ stuffing_of plan.general
    → old.0.bare ≡ plan.general.bare → old.0.counts ≡ no_gaps → old.1.wants ≡ false → old.1.failed ≡ false → whole ≡ (all && not now.1.wants)
    → ((source : NotedSource S ghosts) → (see.source (Found source)).origin.unit ≡ deciding_bytes source.source.finder.form)
    → ((source : P) (form : Form) → (see.source (Placed source)).origin.unit ≢ deciding_bytes form)
    → ((source : NotedSource S ghosts) (form : Form) (file given : List ℕ) (old : SourceView)
    → old.left ≡ Some (found_in form file).bytes → old.origin ≡ record { unit = deciding_bytes form; bytes = Some file }
    → old.left ≡ before given (see.source (Found source)).left → old.origin ≡ (see.source (Found source)).origin → length file < 2 ^ 63 → source.lost ≡ false
    → NotedOf form file given source.from (noted_gaps source))
    → EndsLive see plan stuffing numbers from made_from plugins made to made_to (seen old.2) (seen now.2) now.1.failed whole now.0.counts closed
live-rounds see plan stuffing numbers from made_from plugins made to made_to seen old now all whole closed heard never silent items stuffing_same some stuffing_is bare counts_none wants failed is found placed law =
    let own : stage.stuffing_of old.0.stuffing ≡ stage.stuffing_of stuffing = ap stage.stuffing_of stuffing_same in
    let every : 1 ≤ (stage.stuffing_of old.0.stuffing).every = subst (λ (s : Stuffing). 1 ≤ s.every) (sym stuffing_same) some in
    record {
      run = λ tables rules.
          IfOk-weaker closed
          (LiveRounds see (named_rules plan.plugins tables) (name_at old.0.items.now) (PrintsRound seen WritesRound) old now all from made_from stuffing plugins made to made_to numbers)
          (λ (c : Closed). RanLive see plan tables stuffing numbers from made_from plugins made to made_to (seen old.2) (seen now.2) now.1.failed whole now.0.counts c)
          (λ c live.
          let told = printed-rounds see (began_with see from stuffing plugins to numbers) seen old now plan.general every (sym own) (own ∙ stuffing_is) bare counts_none found placed law wants failed
          (chain_over plan tables live.run.list) live.w c.cut live.rounds all whole live.heard live.stand live.lines live.within live.whole is in
          ran-live see (HeardSinceOne see (λ _. live.w)) (λ p h m stands. stands.1.holds) plan tables stuffing numbers from made_from plugins made to made_to (seen old.2) (seen now.2) now.1.failed whole now.0.counts c
          live.run (form_of from) told.1 told.0 told.2 told.3)
          (heard (named_rules plan.plugins tables) (name_at old.0.items.now) rules (names-are old.0.items.now plan.plugins tables 0 items));
      never_began = never;
      silent = on-err-of closed _ _ (λ same. ap seen same.2) silent;
    }
