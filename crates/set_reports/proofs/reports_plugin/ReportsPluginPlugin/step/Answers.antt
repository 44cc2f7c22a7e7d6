-- Written by tools/plugins from plugins.txt.
use Rattle.std.proofs.Common.{refl}
use Rattle.set_reports.proofs.reports_plugin.ReportsPluginPlugin.step.Goals as goal

pub step-requires : goal.step-requires
step-requires c = rw c.in-Count.is at c.requires

pub returns-in-Count : goal.returns-in-Count
returns-in-Count c = rw c.in-Count.is (record {
  tells = c.step.ensures.tells;
  meets = c.step.ensures.meets;
  same_rule = c.step.ensures.same_rule;
  same_preallocated = c.step.ensures.same_preallocated;
  room = c.step.ensures.room;
  same_silent = refl;
})

pub step-requires-in-Continuity : goal.step-requires-in-Continuity
step-requires-in-Continuity c = rw c.in-Continuity.is at c.requires

pub returns-in-Continuity : goal.returns-in-Continuity
returns-in-Continuity c = rw c.in-Continuity.is (record {
  tells = c.step-in-Continuity.ensures.tells;
  meets = c.step-in-Continuity.ensures.meets;
  same_rule = c.step-in-Continuity.ensures.same_rule;
  same_preallocated = c.step-in-Continuity.ensures.same_preallocated;
  room = c.step-in-Continuity.ensures.room;
  same_silent = refl;
})

pub step-requires-in-Analyze : goal.step-requires-in-Analyze
step-requires-in-Analyze c = rw c.in-Analyze.is at c.requires

pub returns-in-Analyze : goal.returns-in-Analyze
returns-in-Analyze c = rw c.in-Analyze.is (record {
  tells = c.step-in-Analyze.ensures.tells;
  meets = c.step-in-Analyze.ensures.meets;
  same_preallocated = c.step-in-Analyze.ensures.same_preallocated;
  room = c.step-in-Analyze.ensures.room;
  same_rule = refl;
  same_silent = refl;
})

pub step-requires-in-Info : goal.step-requires-in-Info
step-requires-in-Info c = rw c.in-Info.is at c.requires

pub returns-in-Info : goal.returns-in-Info
returns-in-Info c = rw c.in-Info.is (record {
  tells = c.step-in-Info.ensures.tells;
  meets = c.step-in-Info.ensures.meets;
  same_rule = c.step-in-Info.ensures.same_rule;
  same_preallocated = c.step-in-Info.ensures.same_preallocated;
  room = c.step-in-Info.ensures.room;
  same_silent = refl;
})

pub step-requires-in-Tables : goal.step-requires-in-Tables
step-requires-in-Tables c = rw c.in-Tables.is at c.requires

pub returns-in-Tables : goal.returns-in-Tables
returns-in-Tables c = rw c.in-Tables.is (record {
  tells = c.step-in-Tables.ensures.tells;
  meets = c.step-in-Tables.ensures.meets;
  same_rule = c.step-in-Tables.ensures.same_rule;
  room = c.step-in-Tables.ensures.room;
  same_preallocated = refl;
  same_silent = refl;
})

pub step-requires-in-Pcrverify : goal.step-requires-in-Pcrverify
step-requires-in-Pcrverify c = rw c.in-Pcrverify.is at c.requires

pub returns-in-Pcrverify : goal.returns-in-Pcrverify
returns-in-Pcrverify c = rw c.in-Pcrverify.is (record {
  tells = c.step-in-Pcrverify.ensures.tells;
  meets = c.step-in-Pcrverify.ensures.meets;
  same_rule = c.step-in-Pcrverify.ensures.same_rule;
  same_preallocated = c.step-in-Pcrverify.ensures.same_preallocated;
  room = c.step-in-Pcrverify.ensures.room;
  same_silent = refl;
})

pub step-requires-in-Timestamps : goal.step-requires-in-Timestamps
step-requires-in-Timestamps c = rw c.in-Timestamps.is at c.requires

pub returns-in-Timestamps : goal.returns-in-Timestamps
returns-in-Timestamps c = rw c.in-Timestamps.is (record {
  tells = c.step-in-Timestamps.ensures.tells;
  meets = c.step-in-Timestamps.ensures.meets;
  same_rule = c.step-in-Timestamps.ensures.same_rule;
  same_preallocated = c.step-in-Timestamps.ensures.same_preallocated;
  room = c.step-in-Timestamps.ensures.room;
  same_silent = refl;
})

pub step-requires-in-Rate : goal.step-requires-in-Rate
step-requires-in-Rate c = rw c.in-Rate.is at c.requires

pub returns-in-Rate : goal.returns-in-Rate
returns-in-Rate c = rw c.in-Rate.is (record {
  tells = c.step-in-Rate.ensures.tells;
  meets = c.step-in-Rate.ensures.meets;
  same_rule = c.step-in-Rate.ensures.same_rule;
  same_preallocated = c.step-in-Rate.ensures.same_preallocated;
  room = c.step-in-Rate.ensures.room;
  same_silent = refl;
})

pub step-requires-in-Monitor : goal.step-requires-in-Monitor
step-requires-in-Monitor c = rw c.in-Monitor.is at c.requires

pub returns-in-Monitor : goal.returns-in-Monitor
returns-in-Monitor c = rw c.in-Monitor.is (record {
  tells = c.step-in-Monitor.ensures.tells;
  meets = c.step-in-Monitor.ensures.meets;
  same_rule = c.step-in-Monitor.ensures.same_rule;
  same_preallocated = c.step-in-Monitor.ensures.same_preallocated;
  room = c.step-in-Monitor.ensures.room;
  same_silent = refl;
})
