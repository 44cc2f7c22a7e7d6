-- The set of all plugins: their names, their options, which settings are valid, and their rules. What is said of each is in
-- its own crate. This project's own rule. Written by tools/plugins from plugins.txt.
use Rattle.std.specs.Prelude.{ℕ, List, [], ◌∷◌, Bool, true, false, Option, find}
use Rattle.std.specs.Str.{bytes_eq}
use Rattle.chain_model.specs.PluginRule.{PluginRule}
use Rattle.plugin_options.specs.OptionTable.{OptionTable}
use Rattle.plugin_entry.specs.PluginEntry.{ConfEntry, KindEntry, of_conf, of_kind}
use Rattle.plug_pass.specs.FilterEntry.{filter_entry}
use Rattle.plug_pass.specs.SkipEntry.{skip_entry}
use Rattle.plug_pass.specs.SliceEntry.{slice_entry}
use Rattle.plug_pass.specs.PatternEntry.{pattern_entry}
use Rattle.plug_end.specs.UntilEntry.{until_entry}
use Rattle.plug_watch.specs.CountEntry.{count_entry}
use Rattle.plug_watch.specs.ContinuityEntry.{continuity_entry}
use Rattle.plug_move.specs.RemapEntry.{remap_entry}
use Rattle.plug_inject.specs.InjectEntry.{inject_entry}
use Rattle.plug_edit.specs.PatEntry.{pat_entry}
use Rattle.plug_edit.specs.CatEntry.{cat_entry}
use Rattle.plug_edit.specs.PmtEntry.{pmt_entry}
use Rattle.plug_edit.specs.SdtEntry.{sdt_entry}
use Rattle.plug_edit.specs.NitEntry.{nit_entry}
use Rattle.plug_time.specs.TimeEntry.{time_entry}
use Rattle.plug_eit.specs.EitEntry.{eit_entry}
use Rattle.plug_service.specs.ZapEntry.{zap_entry}
use Rattle.plug_service.specs.SvremoveEntry.{svremove_entry}
use Rattle.plug_rename.specs.SvrenameEntry.{svrename_entry}
use Rattle.plug_analyze.specs.AnalyzeEntry.{analyze_entry}
use Rattle.plug_info.specs.InfoEntry.{info_entry}
use Rattle.plug_tables.specs.TablesEntry.{tables_entry}
use Rattle.plug_window.specs.CompactEntry.{compact_entry}
use Rattle.plug_window.specs.RmorphanEntry.{rmorphan_entry}
use Rattle.plug_pcr.specs.PcrverifyEntry.{pcrverify_entry}
use Rattle.plug_times.specs.TimestampsEntry.{timestamps_entry}
use Rattle.plug_rate.specs.RateEntry.{rate_entry}
use Rattle.plug_monitor.specs.MonitorEntry.{monitor_entry}
use Rattle.plug_restuff.specs.RestuffEntry.{restuff_entry}
use Rattle.plugin_settings.specs.declared.plugin_conf.PluginConf.{PluginConf}
use Rattle.plugin_settings.specs.declared.plugin_conf.PluginConf.TheVariants.{Filter, Skip, Slice, Pattern, Until, Count, Continuity, Remap, Inject, Pat, Cat, Pmt, Sdt, Nit, Time, Eit, Zap, Svremove, Svrename, Analyze, Info, Tables, Compact, Rmorphan, Pcrverify, Timestamps, Rate, Monitor, Restuff}
use Rattle.plugin_settings.specs.declared.plugin_conf.PluginKind.{PluginKind}
use Rattle.plugin_settings.specs.declared.plugin_conf.PluginKind.TheVariants as kind

-- the plugins
abbrev pub kinds : List PluginKind
kinds = kind.Filter
    ∷ kind.Skip
    ∷ kind.Slice
    ∷ kind.Pattern
    ∷ kind.Until
    ∷ kind.Count
    ∷ kind.Continuity
    ∷ kind.Remap
    ∷ kind.Inject
    ∷ kind.Pat
    ∷ kind.Cat
    ∷ kind.Pmt
    ∷ kind.Sdt
    ∷ kind.Nit
    ∷ kind.Time
    ∷ kind.Eit
    ∷ kind.Zap
    ∷ kind.Svremove
    ∷ kind.Svrename
    ∷ kind.Analyze
    ∷ kind.Info
    ∷ kind.Tables
    ∷ kind.Compact
    ∷ kind.Rmorphan
    ∷ kind.Pcrverify
    ∷ kind.Timestamps
    ∷ kind.Rate
    ∷ kind.Monitor
    ∷ kind.Restuff
    ∷ []

-- what is said of a kind
abbrev pub kind_entry : PluginKind → KindEntry PluginConf
kind_entry kind.Filter = of_kind Filter filter_entry
kind_entry kind.Skip = of_kind Skip skip_entry
kind_entry kind.Slice = of_kind Slice slice_entry
kind_entry kind.Pattern = of_kind Pattern pattern_entry
kind_entry kind.Until = of_kind Until until_entry
kind_entry kind.Count = of_kind Count count_entry
kind_entry kind.Continuity = of_kind Continuity continuity_entry
kind_entry kind.Remap = of_kind Remap remap_entry
kind_entry kind.Inject = of_kind Inject inject_entry
kind_entry kind.Pat = of_kind Pat pat_entry
kind_entry kind.Cat = of_kind Cat cat_entry
kind_entry kind.Pmt = of_kind Pmt pmt_entry
kind_entry kind.Sdt = of_kind Sdt sdt_entry
kind_entry kind.Nit = of_kind Nit nit_entry
kind_entry kind.Time = of_kind Time time_entry
kind_entry kind.Eit = of_kind Eit eit_entry
kind_entry kind.Zap = of_kind Zap zap_entry
kind_entry kind.Svremove = of_kind Svremove svremove_entry
kind_entry kind.Svrename = of_kind Svrename svrename_entry
kind_entry kind.Analyze = of_kind Analyze analyze_entry
kind_entry kind.Info = of_kind Info info_entry
kind_entry kind.Tables = of_kind Tables tables_entry
kind_entry kind.Compact = of_kind Compact compact_entry
kind_entry kind.Rmorphan = of_kind Rmorphan rmorphan_entry
kind_entry kind.Pcrverify = of_kind Pcrverify pcrverify_entry
kind_entry kind.Timestamps = of_kind Timestamps timestamps_entry
kind_entry kind.Rate = of_kind Rate rate_entry
kind_entry kind.Monitor = of_kind Monitor monitor_entry
kind_entry kind.Restuff = of_kind Restuff restuff_entry

-- what is said of settings
abbrev pub entry_of : PluginConf → ConfEntry PluginKind
entry_of (Filter conf) = of_conf kind.Filter filter_entry conf
entry_of (Skip conf) = of_conf kind.Skip skip_entry conf
entry_of (Slice conf) = of_conf kind.Slice slice_entry conf
entry_of (Pattern conf) = of_conf kind.Pattern pattern_entry conf
entry_of (Until conf) = of_conf kind.Until until_entry conf
entry_of (Count conf) = of_conf kind.Count count_entry conf
entry_of (Continuity conf) = of_conf kind.Continuity continuity_entry conf
entry_of (Remap conf) = of_conf kind.Remap remap_entry conf
entry_of (Inject conf) = of_conf kind.Inject inject_entry conf
entry_of (Pat conf) = of_conf kind.Pat pat_entry conf
entry_of (Cat conf) = of_conf kind.Cat cat_entry conf
entry_of (Pmt conf) = of_conf kind.Pmt pmt_entry conf
entry_of (Sdt conf) = of_conf kind.Sdt sdt_entry conf
entry_of (Nit conf) = of_conf kind.Nit nit_entry conf
entry_of (Time conf) = of_conf kind.Time time_entry conf
entry_of (Eit conf) = of_conf kind.Eit eit_entry conf
entry_of (Zap conf) = of_conf kind.Zap zap_entry conf
entry_of (Svremove conf) = of_conf kind.Svremove svremove_entry conf
entry_of (Svrename conf) = of_conf kind.Svrename svrename_entry conf
entry_of (Analyze conf) = of_conf kind.Analyze analyze_entry conf
entry_of (Info conf) = of_conf kind.Info info_entry conf
entry_of (Tables conf) = of_conf kind.Tables tables_entry conf
entry_of (Compact conf) = of_conf kind.Compact compact_entry conf
entry_of (Rmorphan conf) = of_conf kind.Rmorphan rmorphan_entry conf
entry_of (Pcrverify conf) = of_conf kind.Pcrverify pcrverify_entry conf
entry_of (Timestamps conf) = of_conf kind.Timestamps timestamps_entry conf
entry_of (Rate conf) = of_conf kind.Rate rate_entry conf
entry_of (Monitor conf) = of_conf kind.Monitor monitor_entry conf
entry_of (Restuff conf) = of_conf kind.Restuff restuff_entry conf

-- the name of a kind on the command line and in the reports
abbrev pub name_of_kind : PluginKind → List ℕ
name_of_kind k = (kind_entry k).name

-- the kind of plugin with a name; none where there is none
abbrev pub plugin_kind_named : List ℕ → Option PluginKind
plugin_kind_named name = find (λ k. bytes_eq name (name_of_kind k)) kinds

-- the options of a kind
abbrev pub options_of_plugin : PluginKind → OptionTable PluginConf
options_of_plugin k = (kind_entry k).options

-- the plugin has a summary, and so the option `--every`
abbrev pub has_summary : PluginKind → Bool
has_summary kind.Count = true
has_summary kind.Continuity = true
has_summary kind.Analyze = true
has_summary kind.Info = true
has_summary kind.Pcrverify = true
has_summary kind.Timestamps = true
has_summary kind.Rate = true
has_summary kind.Monitor = true
has_summary _ = false

-- the kind of plugin to which settings belong
abbrev pub kind_of : PluginConf → PluginKind
kind_of conf = (entry_of conf).kind

-- its name
abbrev pub name_of : PluginConf → List ℕ
name_of conf = name_of_kind (kind_of conf)

-- the settings have what the plugin requires, each number in its range, and no two that exclude each other
abbrev pub IsValid : PluginConf → Type 0
IsValid conf = (entry_of conf).is_valid

-- the file whose sections a plugin takes, where its settings name one; the empty name is standard input
abbrev pub table_file_of : PluginConf → Option (List ℕ)
table_file_of conf = (entry_of conf).table_file

-- the rule of the settings, with the sections of the file that they name, where they name one
abbrev pub rule_of : PluginConf → List (List ℕ) → PluginRule
rule_of conf sections = (entry_of conf).rule sections

-- the number of positions after the greatest mark for which a plugin allocates its memory before the run; none for the
-- plugins whose lines grow with the stream, for those that keep tables, and for `inject`, whose own clauses say that no
-- step runs out of memory
abbrev pub preallocated_of : PluginConf → ℕ → Option ℕ
preallocated_of conf buffer = (entry_of conf).preallocated buffer

-- the plugin agrees to a common end, and does not end the chain alone
abbrev pub uses_joint : PluginConf → Bool
uses_joint conf = (entry_of conf).joint

-- the plugin has nothing to report: neither lines nor a summary
abbrev pub is_silent : PluginConf → Bool
is_silent conf = (entry_of conf).silent
