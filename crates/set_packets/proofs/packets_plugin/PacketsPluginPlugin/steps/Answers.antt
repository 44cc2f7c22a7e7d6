-- Written by tools/plugins from plugins.txt.
use Rattle.set_packets.proofs.packets_plugin.PacketsPluginPlugin.steps.Goals as goal

pub steps-requires : goal.steps-requires
steps-requires c = rw c.in-Filter.is at c.requires

pub returns-in-Filter : goal.returns-in-Filter
returns-in-Filter c = rw c.in-Filter.is c.steps.ensures

pub steps-requires-in-Skip : goal.steps-requires-in-Skip
steps-requires-in-Skip c = rw c.in-Skip.is at c.requires

pub returns-in-Skip : goal.returns-in-Skip
returns-in-Skip c = rw c.in-Skip.is c.steps-in-Skip.ensures

pub steps-requires-in-Slice : goal.steps-requires-in-Slice
steps-requires-in-Slice c = rw c.in-Slice.is at c.requires

pub returns-in-Slice : goal.returns-in-Slice
returns-in-Slice c = rw c.in-Slice.is c.steps-in-Slice.ensures

pub steps-requires-in-Pattern : goal.steps-requires-in-Pattern
steps-requires-in-Pattern c = rw c.in-Pattern.is at c.requires

pub returns-in-Pattern : goal.returns-in-Pattern
returns-in-Pattern c = rw c.in-Pattern.is c.steps-in-Pattern.ensures

pub steps-requires-in-Until : goal.steps-requires-in-Until
steps-requires-in-Until c = rw c.in-Until.is at c.requires

pub returns-in-Until : goal.returns-in-Until
returns-in-Until c = rw c.in-Until.is c.steps-in-Until.ensures

pub steps-requires-in-Remap : goal.steps-requires-in-Remap
steps-requires-in-Remap c = rw c.in-Remap.is at c.requires

pub returns-in-Remap : goal.returns-in-Remap
returns-in-Remap c = rw c.in-Remap.is c.steps-in-Remap.ensures

pub steps-requires-in-Inject : goal.steps-requires-in-Inject
steps-requires-in-Inject c = rw c.in-Inject.is at c.requires

pub returns-in-Inject : goal.returns-in-Inject
returns-in-Inject c = rw c.in-Inject.is c.steps-in-Inject.ensures

pub steps-requires-in-Compact : goal.steps-requires-in-Compact
steps-requires-in-Compact c = rw c.in-Compact.is at c.requires

pub returns-in-Compact : goal.returns-in-Compact
returns-in-Compact c = rw c.in-Compact.is c.steps-in-Compact.ensures

pub steps-requires-in-Rmorphan : goal.steps-requires-in-Rmorphan
steps-requires-in-Rmorphan c = rw c.in-Rmorphan.is at c.requires

pub returns-in-Rmorphan : goal.returns-in-Rmorphan
returns-in-Rmorphan c = rw c.in-Rmorphan.is c.steps-in-Rmorphan.ensures

pub steps-requires-in-Restuff : goal.steps-requires-in-Restuff
steps-requires-in-Restuff c = rw c.in-Restuff.is at c.requires

pub returns-in-Restuff : goal.returns-in-Restuff
returns-in-Restuff c = rw c.in-Restuff.is c.steps-in-Restuff.ensures
