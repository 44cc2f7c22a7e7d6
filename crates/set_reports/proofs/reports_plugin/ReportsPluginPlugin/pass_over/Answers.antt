-- Written by tools/plugins from plugins.txt.
use Rattle.std.proofs.Common.{refl}
use Rattle.set_reports.proofs.reports_plugin.ReportsPluginPlugin.pass_over.Goals as goal

pub pass_over-requires : goal.pass_over-requires
pass_over-requires c = rw c.in-Count.is at c.requires

pub returns-in-Count : goal.returns-in-Count
returns-in-Count c = rw c.in-Count.is c.pass_over.ensures

pub pass_over-requires-in-Continuity : goal.pass_over-requires-in-Continuity
pass_over-requires-in-Continuity c = rw c.in-Continuity.is at c.requires

pub returns-in-Continuity : goal.returns-in-Continuity
returns-in-Continuity c = rw c.in-Continuity.is c.pass_over-in-Continuity.ensures

pub pass_over-requires-in-Analyze : goal.pass_over-requires-in-Analyze
pass_over-requires-in-Analyze c = rw c.in-Analyze.is at c.requires

pub returns-in-Analyze : goal.returns-in-Analyze
returns-in-Analyze c = rw c.in-Analyze.is (record {
  meets = c.pass_over-in-Analyze.ensures.meets;
  same_rule = refl;
  same_preallocated = refl;
  same_silent = refl;
})

pub pass_over-requires-in-Info : goal.pass_over-requires-in-Info
pass_over-requires-in-Info c = rw c.in-Info.is at c.requires

pub returns-in-Info : goal.returns-in-Info
returns-in-Info c = rw c.in-Info.is (record {
  meets = c.pass_over-in-Info.ensures.meets;
  same_rule = c.pass_over-in-Info.ensures.same_rule;
  same_preallocated = c.pass_over-in-Info.ensures.same_preallocated;
  same_silent = refl;
})

pub pass_over-requires-in-Tables : goal.pass_over-requires-in-Tables
pass_over-requires-in-Tables c = rw c.in-Tables.is at c.requires

pub returns-in-Tables : goal.returns-in-Tables
returns-in-Tables c = rw c.in-Tables.is c.pass_over-in-Tables.ensures

pub pass_over-requires-in-Pcrverify : goal.pass_over-requires-in-Pcrverify
pass_over-requires-in-Pcrverify c = rw c.in-Pcrverify.is at c.requires

pub returns-in-Pcrverify : goal.returns-in-Pcrverify
returns-in-Pcrverify c = rw c.in-Pcrverify.is c.pass_over-in-Pcrverify.ensures

pub pass_over-requires-in-Timestamps : goal.pass_over-requires-in-Timestamps
pass_over-requires-in-Timestamps c = rw c.in-Timestamps.is at c.requires

pub returns-in-Timestamps : goal.returns-in-Timestamps
returns-in-Timestamps c = rw c.in-Timestamps.is c.pass_over-in-Timestamps.ensures

pub pass_over-requires-in-Rate : goal.pass_over-requires-in-Rate
pass_over-requires-in-Rate c = rw c.in-Rate.is at c.requires

pub returns-in-Rate : goal.returns-in-Rate
returns-in-Rate c = rw c.in-Rate.is c.pass_over-in-Rate.ensures

pub pass_over-requires-in-Monitor : goal.pass_over-requires-in-Monitor
pass_over-requires-in-Monitor c = rw c.in-Monitor.is at c.requires

pub returns-in-Monitor : goal.returns-in-Monitor
returns-in-Monitor c = rw c.in-Monitor.is c.pass_over-in-Monitor.ensures
