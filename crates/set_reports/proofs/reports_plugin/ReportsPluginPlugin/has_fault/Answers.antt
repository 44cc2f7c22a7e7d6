-- Written by tools/plugins from plugins.txt.
use Rattle.set_reports.proofs.reports_plugin.ReportsPluginPlugin.has_fault.Goals as goal

pub has_fault-requires : goal.has_fault-requires
has_fault-requires c = rw c.in-Count.is at c.requires

pub returns-in-Count : goal.returns-in-Count
returns-in-Count c = rw c.in-Count.is c.has_fault.ensures

pub has_fault-requires-in-Continuity : goal.has_fault-requires-in-Continuity
has_fault-requires-in-Continuity c = rw c.in-Continuity.is at c.requires

pub returns-in-Continuity : goal.returns-in-Continuity
returns-in-Continuity c = rw c.in-Continuity.is c.has_fault-in-Continuity.ensures

pub has_fault-requires-in-Analyze : goal.has_fault-requires-in-Analyze
has_fault-requires-in-Analyze c = rw c.in-Analyze.is at c.requires

pub returns-in-Analyze : goal.returns-in-Analyze
returns-in-Analyze c = rw c.in-Analyze.is c.has_fault-in-Analyze.ensures

pub has_fault-requires-in-Info : goal.has_fault-requires-in-Info
has_fault-requires-in-Info c = rw c.in-Info.is at c.requires

pub returns-in-Info : goal.returns-in-Info
returns-in-Info c = rw c.in-Info.is c.has_fault-in-Info.ensures

pub has_fault-requires-in-Tables : goal.has_fault-requires-in-Tables
has_fault-requires-in-Tables c = rw c.in-Tables.is at c.requires

pub returns-in-Tables : goal.returns-in-Tables
returns-in-Tables c = rw c.in-Tables.is c.has_fault-in-Tables.ensures

pub has_fault-requires-in-Pcrverify : goal.has_fault-requires-in-Pcrverify
has_fault-requires-in-Pcrverify c = rw c.in-Pcrverify.is at c.requires

pub returns-in-Pcrverify : goal.returns-in-Pcrverify
returns-in-Pcrverify c = rw c.in-Pcrverify.is c.has_fault-in-Pcrverify.ensures

pub has_fault-requires-in-Timestamps : goal.has_fault-requires-in-Timestamps
has_fault-requires-in-Timestamps c = rw c.in-Timestamps.is at c.requires

pub returns-in-Timestamps : goal.returns-in-Timestamps
returns-in-Timestamps c = rw c.in-Timestamps.is c.has_fault-in-Timestamps.ensures

pub has_fault-requires-in-Rate : goal.has_fault-requires-in-Rate
has_fault-requires-in-Rate c = rw c.in-Rate.is at c.requires

pub returns-in-Rate : goal.returns-in-Rate
returns-in-Rate c = rw c.in-Rate.is c.has_fault-in-Rate.ensures

pub has_fault-requires-in-Monitor : goal.has_fault-requires-in-Monitor
has_fault-requires-in-Monitor c = rw c.in-Monitor.is at c.requires

pub returns-in-Monitor : goal.returns-in-Monitor
returns-in-Monitor c = rw c.in-Monitor.is c.has_fault-in-Monitor.ensures
