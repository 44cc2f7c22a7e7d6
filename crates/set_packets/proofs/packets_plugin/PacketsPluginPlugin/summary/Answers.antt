-- Written by tools/plugins from plugins.txt.
use Rattle.set_packets.proofs.packets_plugin.PacketsPluginPlugin.summary.Goals as goal

pub summary-requires : goal.summary-requires
summary-requires c = rw c.in-Filter.is at c.requires

pub returns-in-Filter : goal.returns-in-Filter
returns-in-Filter c = rw c.in-Filter.is c.summary.ensures

pub summary-requires-in-Skip : goal.summary-requires-in-Skip
summary-requires-in-Skip c = rw c.in-Skip.is at c.requires

pub returns-in-Skip : goal.returns-in-Skip
returns-in-Skip c = rw c.in-Skip.is c.summary-in-Skip.ensures

pub summary-requires-in-Slice : goal.summary-requires-in-Slice
summary-requires-in-Slice c = rw c.in-Slice.is at c.requires

pub returns-in-Slice : goal.returns-in-Slice
returns-in-Slice c = rw c.in-Slice.is c.summary-in-Slice.ensures

pub summary-requires-in-Pattern : goal.summary-requires-in-Pattern
summary-requires-in-Pattern c = rw c.in-Pattern.is at c.requires

pub returns-in-Pattern : goal.returns-in-Pattern
returns-in-Pattern c = rw c.in-Pattern.is c.summary-in-Pattern.ensures

pub summary-requires-in-Until : goal.summary-requires-in-Until
summary-requires-in-Until c = rw c.in-Until.is at c.requires

pub returns-in-Until : goal.returns-in-Until
returns-in-Until c = rw c.in-Until.is c.summary-in-Until.ensures

pub summary-requires-in-Remap : goal.summary-requires-in-Remap
summary-requires-in-Remap c = rw c.in-Remap.is at c.requires

pub returns-in-Remap : goal.returns-in-Remap
returns-in-Remap c = rw c.in-Remap.is c.summary-in-Remap.ensures

pub summary-requires-in-Inject : goal.summary-requires-in-Inject
summary-requires-in-Inject c = rw c.in-Inject.is at c.requires

pub returns-in-Inject : goal.returns-in-Inject
returns-in-Inject c = rw c.in-Inject.is c.summary-in-Inject.ensures

pub summary-requires-in-Compact : goal.summary-requires-in-Compact
summary-requires-in-Compact c = rw c.in-Compact.is at c.requires

pub returns-in-Compact : goal.returns-in-Compact
returns-in-Compact c = rw c.in-Compact.is c.summary-in-Compact.ensures

pub summary-requires-in-Rmorphan : goal.summary-requires-in-Rmorphan
summary-requires-in-Rmorphan c = rw c.in-Rmorphan.is at c.requires

pub returns-in-Rmorphan : goal.returns-in-Rmorphan
returns-in-Rmorphan c = rw c.in-Rmorphan.is c.summary-in-Rmorphan.ensures

pub summary-requires-in-Restuff : goal.summary-requires-in-Restuff
summary-requires-in-Restuff c = rw c.in-Restuff.is at c.requires

pub returns-in-Restuff : goal.returns-in-Restuff
returns-in-Restuff c = rw c.in-Restuff.is c.summary-in-Restuff.ensures
