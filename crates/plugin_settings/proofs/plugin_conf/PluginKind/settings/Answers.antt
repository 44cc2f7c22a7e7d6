-- Written by tools/plugins from plugins.txt.
use Rattle.plug_pass.specs.FilterEntry.{filter_entry}
use Rattle.plug_pass.specs.SkipEntry.{skip_entry}
use Rattle.plug_pass.specs.SliceEntry.{slice_entry}
use Rattle.plug_pass.specs.PatternEntry.{pattern_entry}
use Rattle.plug_end.specs.UntilEntry.{until_entry}
use Rattle.plug_watch.specs.CountEntry.{count_entry}
use Rattle.plug_watch.specs.ContinuityEntry.{continuity_entry}
use Rattle.plug_move.specs.RemapEntry.{remap_entry}
use Rattle.plug_inject.specs.InjectEntry.{inject_entry}
use Rattle.plug_edit.specs.PatEntry.{pat_entry}
use Rattle.plug_edit.specs.CatEntry.{cat_entry}
use Rattle.plug_edit.specs.PmtEntry.{pmt_entry}
use Rattle.plug_edit.specs.SdtEntry.{sdt_entry}
use Rattle.plug_edit.specs.NitEntry.{nit_entry}
use Rattle.plug_time.specs.TimeEntry.{time_entry}
use Rattle.plug_eit.specs.EitEntry.{eit_entry}
use Rattle.plug_service.specs.ZapEntry.{zap_entry}
use Rattle.plug_service.specs.SvremoveEntry.{svremove_entry}
use Rattle.plug_rename.specs.SvrenameEntry.{svrename_entry}
use Rattle.plug_analyze.specs.AnalyzeEntry.{analyze_entry}
use Rattle.plug_info.specs.InfoEntry.{info_entry}
use Rattle.plug_tables.specs.TablesEntry.{tables_entry}
use Rattle.plug_window.specs.CompactEntry.{compact_entry}
use Rattle.plug_window.specs.RmorphanEntry.{rmorphan_entry}
use Rattle.plug_pcr.specs.PcrverifyEntry.{pcrverify_entry}
use Rattle.plug_times.specs.TimestampsEntry.{timestamps_entry}
use Rattle.plug_rate.specs.RateEntry.{rate_entry}
use Rattle.plug_monitor.specs.MonitorEntry.{monitor_entry}
use Rattle.plug_restuff.specs.RestuffEntry.{restuff_entry}
use Rattle.plugin_settings.specs.Plugins.{IsValid}
use Rattle.plugin_settings.specs.declared.plugin_conf.PluginConf.TheVariants as conf
use Rattle.plugin_settings.proofs.ArmLemmas.{made, read_into}
use Rattle.plugin_settings.proofs.plugin_conf.PluginKind.settings.Goals as goal

pub returns-in-Filter-clause-reads : goal.returns-in-Filter-clause-reads
returns-in-Filter-clause-reads c = rw c.in-Filter.is (read_into conf.Filter filter_entry.options c.args.found.now _ _ c.map.ensures.cases c.read.ensures.reads)

pub returns-in-Filter-clause-valid : goal.returns-in-Filter-clause-valid
returns-in-Filter-clause-valid c = made conf.Filter _ IsValid _ _ c.map.ensures.cases (λ _ p. p) c.read.ensures.valid

pub returns-in-Skip-clause-reads : goal.returns-in-Skip-clause-reads
returns-in-Skip-clause-reads c = rw c.in-Skip.is (read_into conf.Skip skip_entry.options c.args.found.now _ _ c.map-in-Skip.ensures.cases c.read-in-Skip.ensures.reads)

pub returns-in-Skip-clause-valid : goal.returns-in-Skip-clause-valid
returns-in-Skip-clause-valid c = made conf.Skip _ IsValid _ _ c.map-in-Skip.ensures.cases (λ _ p. p) c.read-in-Skip.ensures.valid

pub returns-in-Slice-clause-reads : goal.returns-in-Slice-clause-reads
returns-in-Slice-clause-reads c = rw c.in-Slice.is (read_into conf.Slice slice_entry.options c.args.found.now _ _ c.map-in-Slice.ensures.cases c.read-in-Slice.ensures.reads)

pub returns-in-Slice-clause-valid : goal.returns-in-Slice-clause-valid
returns-in-Slice-clause-valid c = made conf.Slice _ IsValid _ _ c.map-in-Slice.ensures.cases (λ _ p. p) c.read-in-Slice.ensures.valid

pub returns-in-Pattern-clause-reads : goal.returns-in-Pattern-clause-reads
returns-in-Pattern-clause-reads c = rw c.in-Pattern.is (read_into conf.Pattern pattern_entry.options c.args.found.now _ _ c.map-in-Pattern.ensures.cases c.read-in-Pattern.ensures.reads)

pub returns-in-Pattern-clause-valid : goal.returns-in-Pattern-clause-valid
returns-in-Pattern-clause-valid c = made conf.Pattern _ IsValid _ _ c.map-in-Pattern.ensures.cases (λ _ p. p) c.read-in-Pattern.ensures.valid

pub returns-in-Until-clause-reads : goal.returns-in-Until-clause-reads
returns-in-Until-clause-reads c = rw c.in-Until.is (read_into conf.Until until_entry.options c.args.found.now _ _ c.map-in-Until.ensures.cases c.read-in-Until.ensures.reads)

pub returns-in-Until-clause-valid : goal.returns-in-Until-clause-valid
returns-in-Until-clause-valid c = made conf.Until _ IsValid _ _ c.map-in-Until.ensures.cases (λ _ p. p) c.read-in-Until.ensures.valid

pub returns-in-Count-clause-reads : goal.returns-in-Count-clause-reads
returns-in-Count-clause-reads c = rw c.in-Count.is (read_into conf.Count count_entry.options c.args.found.now _ _ c.map-in-Count.ensures.cases c.read-in-Count.ensures.reads)

pub returns-in-Count-clause-valid : goal.returns-in-Count-clause-valid
returns-in-Count-clause-valid c = made conf.Count _ IsValid _ _ c.map-in-Count.ensures.cases (λ _ p. p) c.read-in-Count.ensures.valid

pub returns-in-Continuity-clause-reads : goal.returns-in-Continuity-clause-reads
returns-in-Continuity-clause-reads c = rw c.in-Continuity.is (read_into conf.Continuity continuity_entry.options c.args.found.now _ _ c.map-in-Continuity.ensures.cases c.read-in-Continuity.ensures.reads)

pub returns-in-Continuity-clause-valid : goal.returns-in-Continuity-clause-valid
returns-in-Continuity-clause-valid c = made conf.Continuity _ IsValid _ _ c.map-in-Continuity.ensures.cases (λ _ p. p) c.read-in-Continuity.ensures.valid

pub returns-in-Remap-clause-reads : goal.returns-in-Remap-clause-reads
returns-in-Remap-clause-reads c = rw c.in-Remap.is (read_into conf.Remap remap_entry.options c.args.found.now _ _ c.map-in-Remap.ensures.cases c.read-in-Remap.ensures.reads)

pub returns-in-Remap-clause-valid : goal.returns-in-Remap-clause-valid
returns-in-Remap-clause-valid c = made conf.Remap _ IsValid _ _ c.map-in-Remap.ensures.cases (λ _ p. p) c.read-in-Remap.ensures.valid

pub returns-in-Inject-clause-reads : goal.returns-in-Inject-clause-reads
returns-in-Inject-clause-reads c = rw c.in-Inject.is (read_into conf.Inject inject_entry.options c.args.found.now _ _ c.map-in-Inject.ensures.cases c.read-in-Inject.ensures.reads)

pub returns-in-Inject-clause-valid : goal.returns-in-Inject-clause-valid
returns-in-Inject-clause-valid c = made conf.Inject _ IsValid _ _ c.map-in-Inject.ensures.cases (λ _ p. p) c.read-in-Inject.ensures.valid

pub returns-in-Pat-clause-reads : goal.returns-in-Pat-clause-reads
returns-in-Pat-clause-reads c = rw c.in-Pat.is (read_into conf.Pat pat_entry.options c.args.found.now _ _ c.map-in-Pat.ensures.cases c.read-in-Pat.ensures.reads)

pub returns-in-Pat-clause-valid : goal.returns-in-Pat-clause-valid
returns-in-Pat-clause-valid c = made conf.Pat _ IsValid _ _ c.map-in-Pat.ensures.cases (λ _ p. p) c.read-in-Pat.ensures.valid

pub returns-in-Cat-clause-reads : goal.returns-in-Cat-clause-reads
returns-in-Cat-clause-reads c = rw c.in-Cat.is (read_into conf.Cat cat_entry.options c.args.found.now _ _ c.map-in-Cat.ensures.cases c.read-in-Cat.ensures.reads)

pub returns-in-Cat-clause-valid : goal.returns-in-Cat-clause-valid
returns-in-Cat-clause-valid c = made conf.Cat _ IsValid _ _ c.map-in-Cat.ensures.cases (λ _ p. p) c.read-in-Cat.ensures.valid

pub returns-in-Pmt-clause-reads : goal.returns-in-Pmt-clause-reads
returns-in-Pmt-clause-reads c = rw c.in-Pmt.is (read_into conf.Pmt pmt_entry.options c.args.found.now _ _ c.map-in-Pmt.ensures.cases c.read-in-Pmt.ensures.reads)

pub returns-in-Pmt-clause-valid : goal.returns-in-Pmt-clause-valid
returns-in-Pmt-clause-valid c = made conf.Pmt _ IsValid _ _ c.map-in-Pmt.ensures.cases (λ _ p. p) c.read-in-Pmt.ensures.valid

pub returns-in-Sdt-clause-reads : goal.returns-in-Sdt-clause-reads
returns-in-Sdt-clause-reads c = rw c.in-Sdt.is (read_into conf.Sdt sdt_entry.options c.args.found.now _ _ c.map-in-Sdt.ensures.cases c.read-in-Sdt.ensures.reads)

pub returns-in-Sdt-clause-valid : goal.returns-in-Sdt-clause-valid
returns-in-Sdt-clause-valid c = made conf.Sdt _ IsValid _ _ c.map-in-Sdt.ensures.cases (λ _ p. p) c.read-in-Sdt.ensures.valid

pub returns-in-Nit-clause-reads : goal.returns-in-Nit-clause-reads
returns-in-Nit-clause-reads c = rw c.in-Nit.is (read_into conf.Nit nit_entry.options c.args.found.now _ _ c.map-in-Nit.ensures.cases c.read-in-Nit.ensures.reads)

pub returns-in-Nit-clause-valid : goal.returns-in-Nit-clause-valid
returns-in-Nit-clause-valid c = made conf.Nit _ IsValid _ _ c.map-in-Nit.ensures.cases (λ _ p. p) c.read-in-Nit.ensures.valid

pub returns-in-Time-clause-reads : goal.returns-in-Time-clause-reads
returns-in-Time-clause-reads c = rw c.in-Time.is (read_into conf.Time time_entry.options c.args.found.now _ _ c.map-in-Time.ensures.cases c.read-in-Time.ensures.reads)

pub returns-in-Time-clause-valid : goal.returns-in-Time-clause-valid
returns-in-Time-clause-valid c = made conf.Time _ IsValid _ _ c.map-in-Time.ensures.cases (λ _ p. p) c.read-in-Time.ensures.valid

pub returns-in-Eit-clause-reads : goal.returns-in-Eit-clause-reads
returns-in-Eit-clause-reads c = rw c.in-Eit.is (read_into conf.Eit eit_entry.options c.args.found.now _ _ c.map-in-Eit.ensures.cases c.read-in-Eit.ensures.reads)

pub returns-in-Eit-clause-valid : goal.returns-in-Eit-clause-valid
returns-in-Eit-clause-valid c = made conf.Eit _ IsValid _ _ c.map-in-Eit.ensures.cases (λ _ p. p) c.read-in-Eit.ensures.valid

pub returns-in-Zap-clause-reads : goal.returns-in-Zap-clause-reads
returns-in-Zap-clause-reads c = rw c.in-Zap.is (read_into conf.Zap zap_entry.options c.args.found.now _ _ c.map-in-Zap.ensures.cases c.read-in-Zap.ensures.reads)

pub returns-in-Zap-clause-valid : goal.returns-in-Zap-clause-valid
returns-in-Zap-clause-valid c = made conf.Zap _ IsValid _ _ c.map-in-Zap.ensures.cases (λ _ p. p) c.read-in-Zap.ensures.valid

pub returns-in-Svremove-clause-reads : goal.returns-in-Svremove-clause-reads
returns-in-Svremove-clause-reads c = rw c.in-Svremove.is (read_into conf.Svremove svremove_entry.options c.args.found.now _ _ c.map-in-Svremove.ensures.cases c.read-in-Svremove.ensures.reads)

pub returns-in-Svremove-clause-valid : goal.returns-in-Svremove-clause-valid
returns-in-Svremove-clause-valid c = made conf.Svremove _ IsValid _ _ c.map-in-Svremove.ensures.cases (λ _ p. p) c.read-in-Svremove.ensures.valid

pub returns-in-Svrename-clause-reads : goal.returns-in-Svrename-clause-reads
returns-in-Svrename-clause-reads c = rw c.in-Svrename.is (read_into conf.Svrename svrename_entry.options c.args.found.now _ _ c.map-in-Svrename.ensures.cases c.read-in-Svrename.ensures.reads)

pub returns-in-Svrename-clause-valid : goal.returns-in-Svrename-clause-valid
returns-in-Svrename-clause-valid c = made conf.Svrename _ IsValid _ _ c.map-in-Svrename.ensures.cases (λ _ p. p) c.read-in-Svrename.ensures.valid

pub returns-in-Analyze-clause-reads : goal.returns-in-Analyze-clause-reads
returns-in-Analyze-clause-reads c = rw c.in-Analyze.is (read_into conf.Analyze analyze_entry.options c.args.found.now _ _ c.map-in-Analyze.ensures.cases c.read-in-Analyze.ensures.reads)

pub returns-in-Analyze-clause-valid : goal.returns-in-Analyze-clause-valid
returns-in-Analyze-clause-valid c = made conf.Analyze _ IsValid _ _ c.map-in-Analyze.ensures.cases (λ _ p. p) c.read-in-Analyze.ensures.valid

pub returns-in-Info-clause-reads : goal.returns-in-Info-clause-reads
returns-in-Info-clause-reads c = rw c.in-Info.is (read_into conf.Info info_entry.options c.args.found.now _ _ c.map-in-Info.ensures.cases c.read-in-Info.ensures.reads)

pub returns-in-Info-clause-valid : goal.returns-in-Info-clause-valid
returns-in-Info-clause-valid c = made conf.Info _ IsValid _ _ c.map-in-Info.ensures.cases (λ _ p. p) c.read-in-Info.ensures.valid

pub returns-in-Tables-clause-reads : goal.returns-in-Tables-clause-reads
returns-in-Tables-clause-reads c = rw c.in-Tables.is (read_into conf.Tables tables_entry.options c.args.found.now _ _ c.map-in-Tables.ensures.cases c.read-in-Tables.ensures.reads)

pub returns-in-Tables-clause-valid : goal.returns-in-Tables-clause-valid
returns-in-Tables-clause-valid c = made conf.Tables _ IsValid _ _ c.map-in-Tables.ensures.cases (λ _ p. p) c.read-in-Tables.ensures.valid

pub returns-in-Compact-clause-reads : goal.returns-in-Compact-clause-reads
returns-in-Compact-clause-reads c = rw c.in-Compact.is (read_into conf.Compact compact_entry.options c.args.found.now _ _ c.map-in-Compact.ensures.cases c.read-in-Compact.ensures.reads)

pub returns-in-Compact-clause-valid : goal.returns-in-Compact-clause-valid
returns-in-Compact-clause-valid c = made conf.Compact _ IsValid _ _ c.map-in-Compact.ensures.cases (λ _ p. p) c.read-in-Compact.ensures.valid

pub returns-in-Rmorphan-clause-reads : goal.returns-in-Rmorphan-clause-reads
returns-in-Rmorphan-clause-reads c = rw c.in-Rmorphan.is (read_into conf.Rmorphan rmorphan_entry.options c.args.found.now _ _ c.map-in-Rmorphan.ensures.cases c.read-in-Rmorphan.ensures.reads)

pub returns-in-Rmorphan-clause-valid : goal.returns-in-Rmorphan-clause-valid
returns-in-Rmorphan-clause-valid c = made conf.Rmorphan _ IsValid _ _ c.map-in-Rmorphan.ensures.cases (λ _ p. p) c.read-in-Rmorphan.ensures.valid

pub returns-in-Pcrverify-clause-reads : goal.returns-in-Pcrverify-clause-reads
returns-in-Pcrverify-clause-reads c = rw c.in-Pcrverify.is (read_into conf.Pcrverify pcrverify_entry.options c.args.found.now _ _ c.map-in-Pcrverify.ensures.cases c.read-in-Pcrverify.ensures.reads)

pub returns-in-Pcrverify-clause-valid : goal.returns-in-Pcrverify-clause-valid
returns-in-Pcrverify-clause-valid c = made conf.Pcrverify _ IsValid _ _ c.map-in-Pcrverify.ensures.cases (λ _ p. p) c.read-in-Pcrverify.ensures.valid

pub returns-in-Timestamps-clause-reads : goal.returns-in-Timestamps-clause-reads
returns-in-Timestamps-clause-reads c = rw c.in-Timestamps.is (read_into conf.Timestamps timestamps_entry.options c.args.found.now _ _ c.map-in-Timestamps.ensures.cases c.read-in-Timestamps.ensures.reads)

pub returns-in-Timestamps-clause-valid : goal.returns-in-Timestamps-clause-valid
returns-in-Timestamps-clause-valid c = made conf.Timestamps _ IsValid _ _ c.map-in-Timestamps.ensures.cases (λ _ p. p) c.read-in-Timestamps.ensures.valid

pub returns-in-Rate-clause-reads : goal.returns-in-Rate-clause-reads
returns-in-Rate-clause-reads c = rw c.in-Rate.is (read_into conf.Rate rate_entry.options c.args.found.now _ _ c.map-in-Rate.ensures.cases c.read-in-Rate.ensures.reads)

pub returns-in-Rate-clause-valid : goal.returns-in-Rate-clause-valid
returns-in-Rate-clause-valid c = made conf.Rate _ IsValid _ _ c.map-in-Rate.ensures.cases (λ _ p. p) c.read-in-Rate.ensures.valid

pub returns-in-Monitor-clause-reads : goal.returns-in-Monitor-clause-reads
returns-in-Monitor-clause-reads c = rw c.in-Monitor.is (read_into conf.Monitor monitor_entry.options c.args.found.now _ _ c.map-in-Monitor.ensures.cases c.read-in-Monitor.ensures.reads)

pub returns-in-Monitor-clause-valid : goal.returns-in-Monitor-clause-valid
returns-in-Monitor-clause-valid c = made conf.Monitor _ IsValid _ _ c.map-in-Monitor.ensures.cases (λ _ p. p) c.read-in-Monitor.ensures.valid

pub returns-in-Restuff-clause-reads : goal.returns-in-Restuff-clause-reads
returns-in-Restuff-clause-reads c = rw c.in-Restuff.is (read_into conf.Restuff restuff_entry.options c.args.found.now _ _ c.map-in-Restuff.ensures.cases c.read-in-Restuff.ensures.reads)

pub returns-in-Restuff-clause-valid : goal.returns-in-Restuff-clause-valid
returns-in-Restuff-clause-valid c = made conf.Restuff _ IsValid _ _ c.map-in-Restuff.ensures.cases (λ _ p. p) c.read-in-Restuff.ensures.valid
