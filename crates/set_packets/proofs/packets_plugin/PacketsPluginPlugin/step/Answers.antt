-- Written by tools/plugins from plugins.txt.
use Rattle.set_packets.proofs.packets_plugin.PacketsPluginPlugin.step.Goals as goal

pub step-requires : goal.step-requires
step-requires c = rw c.in-Filter.is at c.requires

pub returns-in-Filter : goal.returns-in-Filter
returns-in-Filter c = rw c.in-Filter.is c.step.ensures

pub step-requires-in-Skip : goal.step-requires-in-Skip
step-requires-in-Skip c = rw c.in-Skip.is at c.requires

pub returns-in-Skip : goal.returns-in-Skip
returns-in-Skip c = rw c.in-Skip.is c.step-in-Skip.ensures

pub step-requires-in-Slice : goal.step-requires-in-Slice
step-requires-in-Slice c = rw c.in-Slice.is at c.requires

pub returns-in-Slice : goal.returns-in-Slice
returns-in-Slice c = rw c.in-Slice.is c.step-in-Slice.ensures

pub step-requires-in-Pattern : goal.step-requires-in-Pattern
step-requires-in-Pattern c = rw c.in-Pattern.is at c.requires

pub returns-in-Pattern : goal.returns-in-Pattern
returns-in-Pattern c = rw c.in-Pattern.is c.step-in-Pattern.ensures

pub step-requires-in-Until : goal.step-requires-in-Until
step-requires-in-Until c = rw c.in-Until.is at c.requires

pub returns-in-Until : goal.returns-in-Until
returns-in-Until c = rw c.in-Until.is c.step-in-Until.ensures

pub step-requires-in-Remap : goal.step-requires-in-Remap
step-requires-in-Remap c = rw c.in-Remap.is at c.requires

pub returns-in-Remap : goal.returns-in-Remap
returns-in-Remap c = rw c.in-Remap.is c.step-in-Remap.ensures

pub step-requires-in-Inject : goal.step-requires-in-Inject
step-requires-in-Inject c = rw c.in-Inject.is at c.requires

pub returns-in-Inject : goal.returns-in-Inject
returns-in-Inject c = rw c.in-Inject.is c.step-in-Inject.ensures

pub step-requires-in-Compact : goal.step-requires-in-Compact
step-requires-in-Compact c = rw c.in-Compact.is at c.requires

pub returns-in-Compact : goal.returns-in-Compact
returns-in-Compact c = rw c.in-Compact.is c.step-in-Compact.ensures

pub step-requires-in-Rmorphan : goal.step-requires-in-Rmorphan
step-requires-in-Rmorphan c = rw c.in-Rmorphan.is at c.requires

pub returns-in-Rmorphan : goal.returns-in-Rmorphan
returns-in-Rmorphan c = rw c.in-Rmorphan.is c.step-in-Rmorphan.ensures

pub step-requires-in-Restuff : goal.step-requires-in-Restuff
step-requires-in-Restuff c = rw c.in-Restuff.is at c.requires

pub returns-in-Restuff : goal.returns-in-Restuff
returns-in-Restuff c = rw c.in-Restuff.is c.step-in-Restuff.ensures
