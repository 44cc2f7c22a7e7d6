-- Written by tools/plugins from plugins.txt.
use Rattle.set_packets.proofs.packets_plugin.PacketsPluginPlugin.has_fault.Goals as goal

pub has_fault-requires : goal.has_fault-requires
has_fault-requires c = rw c.in-Filter.is at c.requires

pub returns-in-Filter : goal.returns-in-Filter
returns-in-Filter c = rw c.in-Filter.is c.has_fault.ensures

pub has_fault-requires-in-Skip : goal.has_fault-requires-in-Skip
has_fault-requires-in-Skip c = rw c.in-Skip.is at c.requires

pub returns-in-Skip : goal.returns-in-Skip
returns-in-Skip c = rw c.in-Skip.is c.has_fault-in-Skip.ensures

pub has_fault-requires-in-Slice : goal.has_fault-requires-in-Slice
has_fault-requires-in-Slice c = rw c.in-Slice.is at c.requires

pub returns-in-Slice : goal.returns-in-Slice
returns-in-Slice c = rw c.in-Slice.is c.has_fault-in-Slice.ensures

pub has_fault-requires-in-Pattern : goal.has_fault-requires-in-Pattern
has_fault-requires-in-Pattern c = rw c.in-Pattern.is at c.requires

pub returns-in-Pattern : goal.returns-in-Pattern
returns-in-Pattern c = rw c.in-Pattern.is c.has_fault-in-Pattern.ensures

pub has_fault-requires-in-Until : goal.has_fault-requires-in-Until
has_fault-requires-in-Until c = rw c.in-Until.is at c.requires

pub returns-in-Until : goal.returns-in-Until
returns-in-Until c = rw c.in-Until.is c.has_fault-in-Until.ensures

pub has_fault-requires-in-Remap : goal.has_fault-requires-in-Remap
has_fault-requires-in-Remap c = rw c.in-Remap.is at c.requires

pub returns-in-Remap : goal.returns-in-Remap
returns-in-Remap c = rw c.in-Remap.is c.has_fault-in-Remap.ensures

pub has_fault-requires-in-Inject : goal.has_fault-requires-in-Inject
has_fault-requires-in-Inject c = rw c.in-Inject.is at c.requires

pub returns-in-Inject : goal.returns-in-Inject
returns-in-Inject c = rw c.in-Inject.is c.has_fault-in-Inject.ensures

pub has_fault-requires-in-Compact : goal.has_fault-requires-in-Compact
has_fault-requires-in-Compact c = rw c.in-Compact.is at c.requires

pub returns-in-Compact : goal.returns-in-Compact
returns-in-Compact c = rw c.in-Compact.is c.has_fault-in-Compact.ensures

pub has_fault-requires-in-Rmorphan : goal.has_fault-requires-in-Rmorphan
has_fault-requires-in-Rmorphan c = rw c.in-Rmorphan.is at c.requires

pub returns-in-Rmorphan : goal.returns-in-Rmorphan
returns-in-Rmorphan c = rw c.in-Rmorphan.is c.has_fault-in-Rmorphan.ensures

pub has_fault-requires-in-Restuff : goal.has_fault-requires-in-Restuff
has_fault-requires-in-Restuff c = rw c.in-Restuff.is at c.requires

pub returns-in-Restuff : goal.returns-in-Restuff
returns-in-Restuff c = rw c.in-Restuff.is c.has_fault-in-Restuff.ensures
