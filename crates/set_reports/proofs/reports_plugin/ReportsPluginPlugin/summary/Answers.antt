-- Written by tools/plugins from plugins.txt.
use Rattle.set_reports.proofs.reports_plugin.ReportsPluginPlugin.summary.Goals as goal

pub summary-requires : goal.summary-requires
summary-requires c = rw c.in-Count.is at c.requires

pub returns-in-Count : goal.returns-in-Count
returns-in-Count c = rw c.in-Count.is c.summary.ensures

pub summary-requires-in-Continuity : goal.summary-requires-in-Continuity
summary-requires-in-Continuity c = rw c.in-Continuity.is at c.requires

pub returns-in-Continuity : goal.returns-in-Continuity
returns-in-Continuity c = rw c.in-Continuity.is c.summary-in-Continuity.ensures

pub summary-requires-in-Analyze : goal.summary-requires-in-Analyze
summary-requires-in-Analyze c = rw c.in-Analyze.is at c.requires

pub returns-in-Analyze : goal.returns-in-Analyze
returns-in-Analyze c = rw c.in-Analyze.is c.summary-in-Analyze.ensures

pub summary-requires-in-Info : goal.summary-requires-in-Info
summary-requires-in-Info c = rw c.in-Info.is at c.requires

pub returns-in-Info : goal.returns-in-Info
returns-in-Info c = rw c.in-Info.is c.summary-in-Info.ensures

pub summary-requires-in-Tables : goal.summary-requires-in-Tables
summary-requires-in-Tables c = rw c.in-Tables.is at c.requires

pub returns-in-Tables : goal.returns-in-Tables
returns-in-Tables c = rw c.in-Tables.is c.summary-in-Tables.ensures

pub summary-requires-in-Pcrverify : goal.summary-requires-in-Pcrverify
summary-requires-in-Pcrverify c = rw c.in-Pcrverify.is at c.requires

pub returns-in-Pcrverify : goal.returns-in-Pcrverify
returns-in-Pcrverify c = rw c.in-Pcrverify.is c.summary-in-Pcrverify.ensures

pub summary-requires-in-Timestamps : goal.summary-requires-in-Timestamps
summary-requires-in-Timestamps c = rw c.in-Timestamps.is at c.requires

pub returns-in-Timestamps : goal.returns-in-Timestamps
returns-in-Timestamps c = rw c.in-Timestamps.is c.summary-in-Timestamps.ensures

pub summary-requires-in-Rate : goal.summary-requires-in-Rate
summary-requires-in-Rate c = rw c.in-Rate.is at c.requires

pub returns-in-Rate : goal.returns-in-Rate
returns-in-Rate c = rw c.in-Rate.is c.summary-in-Rate.ensures

pub summary-requires-in-Monitor : goal.summary-requires-in-Monitor
summary-requires-in-Monitor c = rw c.in-Monitor.is at c.requires

pub returns-in-Monitor : goal.returns-in-Monitor
returns-in-Monitor c = rw c.in-Monitor.is c.summary-in-Monitor.ensures
