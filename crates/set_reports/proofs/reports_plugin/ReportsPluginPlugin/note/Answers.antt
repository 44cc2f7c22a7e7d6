-- Written by tools/plugins from plugins.txt.
use Rattle.std.proofs.Common.{refl, false}
use Rattle.std.proofs.lemmas.Bool.{both_ways}
use Rattle.set_reports.proofs.reports_plugin.ReportsPluginPlugin.note.Goals as goal

pub note-requires : goal.note-requires
note-requires c = rw c.in-Count.is at c.requires

pub returns-in-Count : goal.returns-in-Count
returns-in-Count c = rw c.in-Count.is (record {
  gives = c.note.ensures.gives;
  same_rule = c.note.ensures.same_rule;
  same_preallocated = c.note.ensures.same_preallocated;
  room = c.note.ensures.room;
  same_silent = refl;
  silent = λ silent. absurd (both_ways false refl silent);
})

pub note-requires-in-Continuity : goal.note-requires-in-Continuity
note-requires-in-Continuity c = rw c.in-Continuity.is at c.requires

pub returns-in-Continuity : goal.returns-in-Continuity
returns-in-Continuity c = rw c.in-Continuity.is (record {
  gives = c.note-in-Continuity.ensures.gives;
  same_rule = c.note-in-Continuity.ensures.same_rule;
  same_preallocated = c.note-in-Continuity.ensures.same_preallocated;
  room = c.note-in-Continuity.ensures.room;
  same_silent = refl;
  silent = λ silent. absurd (both_ways false refl silent);
})

pub note-requires-in-Analyze : goal.note-requires-in-Analyze
note-requires-in-Analyze c = rw c.in-Analyze.is at c.requires

pub returns-in-Analyze : goal.returns-in-Analyze
returns-in-Analyze c = rw c.in-Analyze.is (record {
  gives = c.note-in-Analyze.ensures.gives;
  same_preallocated = c.note-in-Analyze.ensures.same_preallocated;
  room = c.note-in-Analyze.ensures.room;
  same_rule = refl;
  same_silent = refl;
  silent = λ silent. absurd (both_ways false refl silent);
})

pub note-requires-in-Info : goal.note-requires-in-Info
note-requires-in-Info c = rw c.in-Info.is at c.requires

pub returns-in-Info : goal.returns-in-Info
returns-in-Info c = rw c.in-Info.is (record {
  gives = c.note-in-Info.ensures.gives;
  same_rule = c.note-in-Info.ensures.same_rule;
  same_preallocated = c.note-in-Info.ensures.same_preallocated;
  room = c.note-in-Info.ensures.room;
  same_silent = refl;
  silent = λ silent. absurd (both_ways false refl silent);
})

pub note-requires-in-Tables : goal.note-requires-in-Tables
note-requires-in-Tables c = rw c.in-Tables.is at c.requires

pub returns-in-Tables : goal.returns-in-Tables
returns-in-Tables c = rw c.in-Tables.is c.note-in-Tables.ensures

pub note-requires-in-Pcrverify : goal.note-requires-in-Pcrverify
note-requires-in-Pcrverify c = rw c.in-Pcrverify.is at c.requires

pub returns-in-Pcrverify : goal.returns-in-Pcrverify
returns-in-Pcrverify c = rw c.in-Pcrverify.is (record {
  gives = c.note-in-Pcrverify.ensures.gives;
  same_rule = c.note-in-Pcrverify.ensures.same_rule;
  same_preallocated = c.note-in-Pcrverify.ensures.same_preallocated;
  room = c.note-in-Pcrverify.ensures.room;
  same_silent = refl;
  silent = λ silent. absurd (both_ways false refl silent);
})

pub note-requires-in-Timestamps : goal.note-requires-in-Timestamps
note-requires-in-Timestamps c = rw c.in-Timestamps.is at c.requires

pub returns-in-Timestamps : goal.returns-in-Timestamps
returns-in-Timestamps c = rw c.in-Timestamps.is (record {
  gives = c.note-in-Timestamps.ensures.gives;
  same_rule = c.note-in-Timestamps.ensures.same_rule;
  same_preallocated = c.note-in-Timestamps.ensures.same_preallocated;
  room = c.note-in-Timestamps.ensures.room;
  same_silent = refl;
  silent = λ silent. absurd (both_ways false refl silent);
})

pub note-requires-in-Rate : goal.note-requires-in-Rate
note-requires-in-Rate c = rw c.in-Rate.is at c.requires

pub returns-in-Rate : goal.returns-in-Rate
returns-in-Rate c = rw c.in-Rate.is (record {
  gives = c.note-in-Rate.ensures.gives;
  same_rule = c.note-in-Rate.ensures.same_rule;
  same_preallocated = c.note-in-Rate.ensures.same_preallocated;
  room = c.note-in-Rate.ensures.room;
  same_silent = refl;
  silent = λ silent. absurd (both_ways false refl silent);
})

pub note-requires-in-Monitor : goal.note-requires-in-Monitor
note-requires-in-Monitor c = rw c.in-Monitor.is at c.requires

pub returns-in-Monitor : goal.returns-in-Monitor
returns-in-Monitor c = rw c.in-Monitor.is (record {
  gives = c.note-in-Monitor.ensures.gives;
  same_rule = c.note-in-Monitor.ensures.same_rule;
  same_preallocated = c.note-in-Monitor.ensures.same_preallocated;
  room = c.note-in-Monitor.ensures.room;
  same_silent = refl;
  silent = λ silent. absurd (both_ways false refl silent);
})
