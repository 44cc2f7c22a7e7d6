-- Gaps of an input that are told round by round while the run goes. This project's own rule.
use Rattle.std.specs.Prelude.{◌≡◌, ◌≢◌, ◌⊎◌, ◌<◌, ◌^◌, ℕ, ◌-◌, ◌&&◌, not, Bool, true, false, List, [], ◌++◌, length, map, filter, fold, codes, Option, None, Some, option_to_list}
use Rattle.std.specs.List.{AllByRecursion}
use Rattle.ts_outside.specs.Source.{SourceView}
use Rattle.packet_search.specs.Rule.{deciding_bytes}
use Rattle.stage_run.specs.declared.input_part.InputPart.{InputPart}
use Rattle.stage_run.specs.declared.input_part.InputPart.TheVariants.{Stream}
use Rattle.search_source.specs.Coming.{found_in}
use Rattle.search_source.specs.declared.file_source.KeptGaps.{KeptGaps}
use Rattle.chain_model.specs.declared.cause.Cause.{Cause}
use Rattle.ts_outside.specs.declared.sources.Source.{Ghosts}
use Rattle.search_source.specs.Gaps.{with_end, with_gap}
use Rattle.search_source.specs.declared.file_source.FileSource.{FileSource}
use Rattle.search_source.specs.declared.file_source.FileSource.TheVariants.{Placed, Found}
use Rattle.search_source.specs.declared.gap.Gap.{Gap}
use Rattle.search_source.specs.declared.gap_counts.GapCounts.{GapCounts}
use Rattle.search_source.specs.declared.noted_source.NotedSource.{NotedSource}
use Rattle.chain_model.specs.Stuffed.{Stuffing}
use Rattle.chain_live.specs.LiveReports.{LiveLine}
use Rattle.chain_rounds.specs.Merged.{merged}
use Rattle.chain_rounds.specs.Round.{place}
use Rattle.chain_rounds.specs.Told.{shown}
use Rattle.chain_tells.specs.Rounds.{Round}
use Rattle.tsp_top.specs.LeftOut.{KnowsAll, LeftOut, counts_text, has_gaps, is_at_end, is_below, kept_out, left_behind}
use Rattle.stage_run.specs.InputStands.{stuffing_of}
use Rattle.packet_forms.specs.declared.forms.Form.{Form}
use Rattle.plugin_settings.specs.declared.plugin_item.PluginItem.{PluginItem}
use Rattle.chain_rounds.specs.declared.told_line.ToldLine.{ToldLine}
use Rattle.tsp_top.specs.Printed.{end_printed, gap_line, live_text, printed_line}
use Rattle.tsp_top.specs.Printing.{name_at}
use Rattle.tsp_top.specs.declared.input_texts.InputTexts.{InputTexts}

-- the packet behind the gap is at a position from one to another
abbrev pub is_between : Stuffing → ℕ → ℕ → Gap → Bool
is_between stuffing from to gap = is_below stuffing to gap.before && not (is_below stuffing from gap.before)

-- gaps as lines, as far as their packets are at positions from one to another
abbrev pub gap_rows : Stuffing → Form → ℕ → ℕ → List Gap → List LiveLine
gap_rows stuffing form from to gaps = map (gap_line stuffing form) (filter (is_between stuffing from to) gaps)

-- lines of the input and of plugins with these settings as one text, in the order of positions, the input in front at each
abbrev pub round_text : Bool → List PluginItem → List LiveLine → List ToldLine → List ℕ
round_text bare items input lines = live_text bare (merged place input (map (shown (name_at items)) lines))

-- the gaps that a source has noted and not let go
abbrev pub noted_gaps : {S : Type 0} {ghosts : Ghosts S} → NotedSource S ghosts → List Gap
noted_gaps source = source.gaps.items ++ option_to_list source.source.finder.noted

module _ {P S : Type 0} {ghosts : Ghosts S} where
  -- the lines of an input in a round: none where packets are at their places
  abbrev pub lines_at : Stuffing → ℕ → ℕ → Option (FileSource P (NotedSource S ghosts)) → List LiveLine
  lines_at stuffing from to None = []
  lines_at stuffing from to (Some (Placed source)) = []
  lines_at stuffing from to (Some (Found source)) = gap_rows stuffing source.source.finder.form from to (noted_gaps source)

  -- these counts, and the gaps of a round
  abbrev pub counts_after : Stuffing → ℕ → ℕ → GapCounts → Option (FileSource P (NotedSource S ghosts)) → GapCounts
  counts_after stuffing from to counts None = counts
  counts_after stuffing from to counts (Some (Placed source)) = counts
  counts_after stuffing from to counts (Some (Found source)) =
      fold (with_gap source.source.finder.form) counts (filter (is_between stuffing from to) (noted_gaps source))

  -- no gap of a round is wanting: none was lost, and those that were let go are before it
  abbrev pub HasAll : Stuffing → ℕ → Option (FileSource P (NotedSource S ghosts)) → Type 0
  HasAll stuffing from None = Unit {0}
  HasAll stuffing from (Some (Placed source)) = Unit {0}
  HasAll stuffing from (Some (Found source)) =
      (source.lost ≡ false) × ((source.from ≡ 0) ⊎ (is_below stuffing from (source.from - 1) ≡ true))

  -- a round has this text: its lines in the order of positions, those of the input in front at each; and what it tells of the
  -- input's gaps is all that there is, and was counted
  pub record WritesRound (old new : InputTexts) (round : Round (FileSource P (NotedSource S ghosts))) (text : List ℕ) : Type 0 where
    pub text_is : text ≡ round_text old.bare old.items.now (lines_at (stuffing_of old.stuffing) round.from round.to round.source) round.lines
    pub has_all : HasAll (stuffing_of old.stuffing) round.from round.source
    pub bare_same : new.bare ≡ old.bare
    pub stuffing_same : new.stuffing ≡ old.stuffing
    pub items_same : new.items ≡ old.items
    pub counts_are : new.counts ≡ counts_after (stuffing_of old.stuffing) round.from round.to old.counts round.source

-- ---- the end of a run whose gaps were told

-- what else the input reports then, where these gaps were told and counted
abbrev pub rest_printed : Bool → GapCounts → Option KeptGaps → Cause → List ℕ
rest_printed bare counts None why = []
rest_printed bare counts (Some kept) why =
    end_printed bare (left_behind why kept.behind)
    ++ printed_line bare 0 (codes "file") (counts_text (with_end counts (left_behind why kept.behind)))

-- and whether it has a fault
abbrev pub rest_faulty : GapCounts → Option KeptGaps → Cause → Bool
rest_faulty counts None why = false
rest_faulty counts (Some kept) why = has_gaps (with_end counts (left_behind why kept.behind))

-- what is behind the last packet is known, where that counts
abbrev pub KnowsEnd : Option KeptGaps → Cause → Type 0
KnowsEnd None why = Unit {0}
KnowsEnd (Some kept) why = is_at_end why ≡ true → kept.over ≡ true

-- packets are not found again in this input
abbrev pub IsPlaced : {S : Type 0} → (S → SourceView) → InputPart S → Type 0
IsPlaced seen (Stream source) = (form : Form) → (seen source).origin.unit ≢ deciding_bytes form
IsPlaced seen _ = Unit {0}

-- what was told of the gaps of an input before a position, where packets are in this form: none where they are at their places;
-- and of a file that is known all gaps before it, and no others
pub record ToldGaps {S : Type 0} (seen : S → SourceView) (stuffing : Stuffing) (from : InputPart S) (at : ℕ) (form : Form) (gaps : List Gap) : Type 0 where
  pub placed : IsPlaced seen from → gaps ≡ []
  pub form_is : (source : S) (own : Form) → from ≡ Stream source → (seen source).origin.unit ≡ deciding_bytes own → form ≡ own
  pub below : AllByRecursion (λ (gap : Gap). is_below stuffing at gap.before ≡ true) gaps
  pub known : (source : S) (own : Form) (file : List ℕ) → from ≡ Stream source → (seen source).left ≡ Some (found_in own file).bytes
      → (seen source).origin ≡ record { unit = deciding_bytes own; bytes = Some file } → length file < 2 ^ 63
      → gaps ≡ filter (λ gap. is_below stuffing at gap.before) (found_in own file).gaps

-- ---- what is left out of an input of which these gaps were told

-- they are the first of its gaps, and those behind them are before no packet that comes before the position
pub record ExtendsGaps (stuffing : Stuffing) (form : Form) (gaps : List Gap) (at : ℕ) (left_out : LeftOut) : Type 0 where
  pub later : List Gap
  pub all_are : left_out.gaps ≡ gaps ++ later
  pub behind : AllByRecursion (λ (gap : Gap). is_below stuffing at gap.before ≡ false) later
  pub form_is : left_out.form ≡ form

-- and so much is left out behind the last packet as was kept, where that counts; nothing is where nothing was kept
abbrev pub ExtendsTold : Stuffing → Form → List Gap → ℕ → Option KeptGaps → Cause → Option LeftOut → Type 0
ExtendsTold stuffing form gaps at None why None = gaps ≡ []
ExtendsTold stuffing form gaps at None why (Some out) = ⊥
ExtendsTold stuffing form gaps at (Some kept) why None = ⊥
ExtendsTold stuffing form gaps at (Some kept) why (Some out) =
    ExtendsGaps stuffing form gaps at out × (is_at_end why ≡ true → kept.over ≡ true → out.behind ≡ kept.behind)

-- what is left out of the input of a run: what was kept of it, or with `--live` what goes on from what was told
abbrev pub IsLeftOut : Bool → Stuffing → Form → List Gap → ℕ → Option KeptGaps → Cause → Option LeftOut → Type 0
IsLeftOut false stuffing form gaps at kept why left_out = left_out ≡ kept_out kept
IsLeftOut true stuffing form gaps at kept why left_out = ExtendsTold stuffing form gaps at kept why left_out

-- and what is known of it where the run was reported
abbrev pub Knows : Bool → Stuffing → Option KeptGaps → ℕ → Cause → Type 0
Knows false stuffing kept m why = KnowsAll stuffing kept m why
Knows true stuffing kept m why = KnowsEnd kept why
