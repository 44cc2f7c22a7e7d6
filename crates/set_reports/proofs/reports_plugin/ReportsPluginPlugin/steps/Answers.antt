-- Written by tools/plugins from plugins.txt.
use Rattle.set_reports.proofs.reports_plugin.ReportsPluginPlugin.steps.Goals as goal

pub steps-requires : goal.steps-requires
steps-requires c = rw c.in-Count.is at c.requires

pub returns-in-Count : goal.returns-in-Count
returns-in-Count c = rw c.in-Count.is c.steps.ensures

pub steps-requires-in-Continuity : goal.steps-requires-in-Continuity
steps-requires-in-Continuity c = rw c.in-Continuity.is at c.requires

pub returns-in-Continuity : goal.returns-in-Continuity
returns-in-Continuity c = rw c.in-Continuity.is c.steps-in-Continuity.ensures

pub steps-requires-in-Analyze : goal.steps-requires-in-Analyze
steps-requires-in-Analyze c = rw c.in-Analyze.is at c.requires

pub returns-in-Analyze : goal.returns-in-Analyze
returns-in-Analyze c = rw c.in-Analyze.is c.steps-in-Analyze.ensures

pub steps-requires-in-Info : goal.steps-requires-in-Info
steps-requires-in-Info c = rw c.in-Info.is at c.requires

pub returns-in-Info : goal.returns-in-Info
returns-in-Info c = rw c.in-Info.is c.steps-in-Info.ensures

pub steps-requires-in-Tables : goal.steps-requires-in-Tables
steps-requires-in-Tables c = rw c.in-Tables.is at c.requires

pub returns-in-Tables : goal.returns-in-Tables
returns-in-Tables c = rw c.in-Tables.is c.steps-in-Tables.ensures

pub steps-requires-in-Pcrverify : goal.steps-requires-in-Pcrverify
steps-requires-in-Pcrverify c = rw c.in-Pcrverify.is at c.requires

pub returns-in-Pcrverify : goal.returns-in-Pcrverify
returns-in-Pcrverify c = rw c.in-Pcrverify.is c.steps-in-Pcrverify.ensures

pub steps-requires-in-Timestamps : goal.steps-requires-in-Timestamps
steps-requires-in-Timestamps c = rw c.in-Timestamps.is at c.requires

pub returns-in-Timestamps : goal.returns-in-Timestamps
returns-in-Timestamps c = rw c.in-Timestamps.is c.steps-in-Timestamps.ensures

pub steps-requires-in-Rate : goal.steps-requires-in-Rate
steps-requires-in-Rate c = rw c.in-Rate.is at c.requires

pub returns-in-Rate : goal.returns-in-Rate
returns-in-Rate c = rw c.in-Rate.is c.steps-in-Rate.ensures

pub steps-requires-in-Monitor : goal.steps-requires-in-Monitor
steps-requires-in-Monitor c = rw c.in-Monitor.is at c.requires

pub returns-in-Monitor : goal.returns-in-Monitor
returns-in-Monitor c = rw c.in-Monitor.is c.steps-in-Monitor.ensures
