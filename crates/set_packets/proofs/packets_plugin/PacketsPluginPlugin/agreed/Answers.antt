-- Written by tools/plugins from plugins.txt.
use Rattle.set_packets.proofs.packets_plugin.PacketsPluginPlugin.agreed.Goals as goal

pub agreed-requires : goal.agreed-requires
agreed-requires c = rw c.in-Filter.is at c.requires

pub returns-in-Filter : goal.returns-in-Filter
returns-in-Filter c = rw c.in-Filter.is c.agreed.ensures

pub agreed-requires-in-Skip : goal.agreed-requires-in-Skip
agreed-requires-in-Skip c = rw c.in-Skip.is at c.requires

pub returns-in-Skip : goal.returns-in-Skip
returns-in-Skip c = rw c.in-Skip.is c.agreed-in-Skip.ensures

pub agreed-requires-in-Slice : goal.agreed-requires-in-Slice
agreed-requires-in-Slice c = rw c.in-Slice.is at c.requires

pub returns-in-Slice : goal.returns-in-Slice
returns-in-Slice c = rw c.in-Slice.is c.agreed-in-Slice.ensures

pub agreed-requires-in-Pattern : goal.agreed-requires-in-Pattern
agreed-requires-in-Pattern c = rw c.in-Pattern.is at c.requires

pub returns-in-Pattern : goal.returns-in-Pattern
returns-in-Pattern c = rw c.in-Pattern.is c.agreed-in-Pattern.ensures

pub agreed-requires-in-Until : goal.agreed-requires-in-Until
agreed-requires-in-Until c = rw c.in-Until.is at c.requires

pub returns-in-Until : goal.returns-in-Until
returns-in-Until c = rw c.in-Until.is c.agreed-in-Until.ensures

pub agreed-requires-in-Remap : goal.agreed-requires-in-Remap
agreed-requires-in-Remap c = rw c.in-Remap.is at c.requires

pub returns-in-Remap : goal.returns-in-Remap
returns-in-Remap c = rw c.in-Remap.is c.agreed-in-Remap.ensures

pub agreed-requires-in-Inject : goal.agreed-requires-in-Inject
agreed-requires-in-Inject c = rw c.in-Inject.is at c.requires

pub returns-in-Inject : goal.returns-in-Inject
returns-in-Inject c = rw c.in-Inject.is c.agreed-in-Inject.ensures

pub agreed-requires-in-Compact : goal.agreed-requires-in-Compact
agreed-requires-in-Compact c = rw c.in-Compact.is at c.requires

pub returns-in-Compact : goal.returns-in-Compact
returns-in-Compact c = rw c.in-Compact.is c.agreed-in-Compact.ensures

pub agreed-requires-in-Rmorphan : goal.agreed-requires-in-Rmorphan
agreed-requires-in-Rmorphan c = rw c.in-Rmorphan.is at c.requires

pub returns-in-Rmorphan : goal.returns-in-Rmorphan
returns-in-Rmorphan c = rw c.in-Rmorphan.is c.agreed-in-Rmorphan.ensures

pub agreed-requires-in-Restuff : goal.agreed-requires-in-Restuff
agreed-requires-in-Restuff c = rw c.in-Restuff.is at c.requires

pub returns-in-Restuff : goal.returns-in-Restuff
returns-in-Restuff c = rw c.in-Restuff.is c.agreed-in-Restuff.ensures
