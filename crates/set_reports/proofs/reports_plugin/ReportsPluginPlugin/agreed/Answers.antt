-- Written by tools/plugins from plugins.txt.
use Rattle.set_reports.proofs.reports_plugin.ReportsPluginPlugin.agreed.Goals as goal

pub agreed-requires : goal.agreed-requires
agreed-requires c = rw c.in-Count.is at c.requires

pub returns-in-Count : goal.returns-in-Count
returns-in-Count c = rw c.in-Count.is c.agreed.ensures

pub agreed-requires-in-Continuity : goal.agreed-requires-in-Continuity
agreed-requires-in-Continuity c = rw c.in-Continuity.is at c.requires

pub returns-in-Continuity : goal.returns-in-Continuity
returns-in-Continuity c = rw c.in-Continuity.is c.agreed-in-Continuity.ensures

pub agreed-requires-in-Analyze : goal.agreed-requires-in-Analyze
agreed-requires-in-Analyze c = rw c.in-Analyze.is at c.requires

pub returns-in-Analyze : goal.returns-in-Analyze
returns-in-Analyze c = rw c.in-Analyze.is c.agreed-in-Analyze.ensures

pub agreed-requires-in-Info : goal.agreed-requires-in-Info
agreed-requires-in-Info c = rw c.in-Info.is at c.requires

pub returns-in-Info : goal.returns-in-Info
returns-in-Info c = rw c.in-Info.is c.agreed-in-Info.ensures

pub agreed-requires-in-Tables : goal.agreed-requires-in-Tables
agreed-requires-in-Tables c = rw c.in-Tables.is at c.requires

pub returns-in-Tables : goal.returns-in-Tables
returns-in-Tables c = rw c.in-Tables.is c.agreed-in-Tables.ensures

pub agreed-requires-in-Pcrverify : goal.agreed-requires-in-Pcrverify
agreed-requires-in-Pcrverify c = rw c.in-Pcrverify.is at c.requires

pub returns-in-Pcrverify : goal.returns-in-Pcrverify
returns-in-Pcrverify c = rw c.in-Pcrverify.is c.agreed-in-Pcrverify.ensures

pub agreed-requires-in-Timestamps : goal.agreed-requires-in-Timestamps
agreed-requires-in-Timestamps c = rw c.in-Timestamps.is at c.requires

pub returns-in-Timestamps : goal.returns-in-Timestamps
returns-in-Timestamps c = rw c.in-Timestamps.is c.agreed-in-Timestamps.ensures

pub agreed-requires-in-Rate : goal.agreed-requires-in-Rate
agreed-requires-in-Rate c = rw c.in-Rate.is at c.requires

pub returns-in-Rate : goal.returns-in-Rate
returns-in-Rate c = rw c.in-Rate.is c.agreed-in-Rate.ensures

pub agreed-requires-in-Monitor : goal.agreed-requires-in-Monitor
agreed-requires-in-Monitor c = rw c.in-Monitor.is at c.requires

pub returns-in-Monitor : goal.returns-in-Monitor
returns-in-Monitor c = rw c.in-Monitor.is c.agreed-in-Monitor.ensures
