-- The report of a run as the general options ask for it: with or without the plugins' numbers and names, and in the order of
-- plugins or, with `--live`, in that of packets. This project's own rule.
use Rattle.std.specs.Prelude.{ℕ, suc, Bool, true, false, List, [], ◌∷◌, ◌++◌, ◌==◌, map, take, codes, if◌then◌else◌, Option, None, Some}
use Rattle.ts_packet.specs.declared.cell.Cell.{Cell}
use Rattle.std.specs.List.{flat_map}
use Rattle.std.specs.Fmt.{decimal}
use Rattle.packet_forms.specs.declared.forms.Form.{Form}
use Rattle.search_source.specs.declared.gap.Gap.{Gap}
use Rattle.chain_model.specs.Stuffed.{Stuffing}
use Rattle.tsp_top.specs.LeftOut.{LeftOut, all_counts, counts_text, gap_text, is_below, left_behind, position_of}
use Rattle.tsp_top.specs.PlannedChain.{stuffing_of}
use Rattle.chain_args.specs.declared.general_conf.GeneralConf.{GeneralConf}
use Rattle.chain_model.specs.PluginRule.{PluginRule}
use Rattle.chain_model.specs.Apply.{StageList}
use Rattle.chain_model.specs.StageLists.{stage_list}
use Rattle.chain_model.specs.declared.cause.Cause.{Cause}
use Rattle.chain_model.specs.Reports.{NamedRule, end_line, plugin_line, said_of, rules_of, reports}
use Rattle.chain_model.specs.PureRun.{Chain, chain_rules}
use Rattle.chain_live.specs.LiveReports.{LiveLine, list_met, summaries_from}
use Rattle.chain_tells.specs.InputLines.{lines_with}

-- a line of plugin `j` as it is printed, bare or not: its text alone, or behind the plugin's number and name
abbrev pub printed_line : Bool → ℕ → List ℕ → List ℕ → List ℕ
printed_line bare j name text = if bare then text ++ 10 ∷ [] else plugin_line j name text

-- what is printed of a gap: its line where the packet behind it is before the cut
abbrev pub gap_printed : Bool → Stuffing → ℕ → Form → Gap → List ℕ
gap_printed bare stuffing m form gap =
    if is_below stuffing m gap.before then printed_line bare 0 (codes "file") (gap_text form gap) else []

-- of so many bytes that are left out behind the last packet
abbrev pub end_printed : Bool → ℕ → List ℕ
end_printed bare behind =
    if behind == 0 then [] else printed_line bare 0 (codes "file") (decimal behind ++ codes " bytes left out at the end")

-- what the input reports of a run that was cut at `m` for this cause, behind the lines of its gaps: its summary
abbrev pub input_ended : Bool → Stuffing → Option LeftOut → ℕ → Cause → List ℕ
input_ended bare stuffing None m why = []
input_ended bare stuffing (Some left_out) m why =
    end_printed bare (left_behind why left_out.behind)
    ++ printed_line bare 0 (codes "file") (counts_text (all_counts stuffing m why left_out))

-- what the input reports of a run that was cut at `m` for this cause, in front of plugin 1: nothing where its packets are at
-- their places; else a line for each gap before the cut, and its summary
abbrev pub input_printed : Bool → Stuffing → Option LeftOut → ℕ → Cause → List ℕ
input_printed bare stuffing None m why = []
input_printed bare stuffing (Some left_out) m why =
    flat_map (gap_printed bare stuffing m left_out.form) left_out.gaps
    ++ (end_printed bare (left_behind why left_out.behind)
    ++ printed_line bare 0 (codes "file") (counts_text (all_counts stuffing m why left_out)))

-- a gap as a line: at the position of the packet behind it, of the number 0
abbrev pub gap_line : Stuffing → Form → Gap → LiveLine
gap_line stuffing form gap =
    record { at = position_of stuffing gap.before; plugin = 0; name = codes "file"; text = gap_text form gap }

-- the lines of the input: one for each gap
abbrev pub input_lines : Stuffing → Option LeftOut → List LiveLine
input_lines stuffing None = []
input_lines stuffing (Some left_out) = map (gap_line stuffing left_out.form) left_out.gaps

-- the lines of a chain and its input at the positions below `m`
abbrev pub told_lines : GeneralConf → Option LeftOut → Chain → ℕ → List LiveLine
told_lines general left_out chain m = lines_with (input_lines (stuffing_of general) left_out) chain m

-- what `said` gives of plugin `j` and of those after it, as it is printed: each over the first `m` cells of the list that it
-- meets
abbrev pub printed_by : (PluginRule → List Cell → List (List ℕ)) → Bool → List PluginRule → StageList → ℕ → ℕ
    → List NamedRule → List ℕ
printed_by said bare rules input m j [] = []
printed_by said bare rules input m j (plugin ∷ rest) =
    flat_map (printed_line bare (suc j) plugin.name) (said plugin.rule (take m (stage_list rules input j).cells))
    ++ printed_by said bare rules input m (suc j) rest

-- all that these plugins report
abbrev pub printed_from : Bool → List PluginRule → StageList → ℕ → ℕ → List NamedRule → List ℕ
printed_from = printed_by said_of

-- their summaries alone
abbrev pub summary_said : PluginRule → List Cell → List (List ℕ)
summary_said rule cells = rule.summary_of cells

abbrev pub summaries_printed : Bool → List PluginRule → StageList → ℕ → ℕ → List NamedRule → List ℕ
summaries_printed = printed_by summary_said

-- what is reported of a run that was cut at `m` for this cause: with `--bare` the lines alone, and no line for the end
abbrev pub reports_asked : GeneralConf → List NamedRule → StageList → ℕ → Cause → List ℕ
reports_asked general plugins input m cause =
    if general.bare then printed_from true (rules_of plugins) input m 0 plugins else reports plugins input m cause

-- lines as they are printed while the run goes, bare or not
abbrev pub live_line : Bool → LiveLine → List ℕ
live_line bare line = printed_line bare line.plugin line.name line.text

abbrev pub live_text : Bool → List LiveLine → List ℕ
live_text bare lines = flat_map (live_line bare) lines

-- what is reported with `--live` of a run of a chain that was cut at `m` for this cause: the lines in the order of packets, those of
-- the input in front at each; then what else the input reports, the summaries, and the line for the end; with `--bare` the lines
-- alone, and no line for the end
abbrev pub live_asked : Bool → List LiveLine → List ℕ → Chain → ℕ → Cause → List ℕ
live_asked bare lines said chain m cause =
    if bare then live_text true lines ++ (said ++ summaries_printed true (chain_rules chain) chain.input m 0 chain.plugins)
    else live_text false lines ++ (said ++ (summaries_from (list_met chain) m 0 chain.plugins ++ end_line cause m))

-- what is reported of a run of a chain, as the general options ask
abbrev pub reported_as : GeneralConf → Option LeftOut → Chain → ℕ → Cause → List ℕ
reported_as general left_out chain m cause =
    if general.live
    then live_asked general.bare (told_lines general left_out chain m) (input_ended general.bare (stuffing_of general) left_out m cause) chain m cause
    else input_printed general.bare (stuffing_of general) left_out m cause ++ reports_asked general chain.plugins chain.input m cause
