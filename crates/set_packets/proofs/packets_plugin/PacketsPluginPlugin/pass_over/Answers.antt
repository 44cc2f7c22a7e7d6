-- Written by tools/plugins from plugins.txt.
use Rattle.set_packets.proofs.packets_plugin.PacketsPluginPlugin.pass_over.Goals as goal

pub pass_over-requires : goal.pass_over-requires
pass_over-requires c = rw c.in-Filter.is at c.requires

pub returns-in-Filter : goal.returns-in-Filter
returns-in-Filter c = rw c.in-Filter.is c.pass_over.ensures

pub pass_over-requires-in-Skip : goal.pass_over-requires-in-Skip
pass_over-requires-in-Skip c = rw c.in-Skip.is at c.requires

pub returns-in-Skip : goal.returns-in-Skip
returns-in-Skip c = rw c.in-Skip.is c.pass_over-in-Skip.ensures

pub pass_over-requires-in-Slice : goal.pass_over-requires-in-Slice
pass_over-requires-in-Slice c = rw c.in-Slice.is at c.requires

pub returns-in-Slice : goal.returns-in-Slice
returns-in-Slice c = rw c.in-Slice.is c.pass_over-in-Slice.ensures

pub pass_over-requires-in-Pattern : goal.pass_over-requires-in-Pattern
pass_over-requires-in-Pattern c = rw c.in-Pattern.is at c.requires

pub returns-in-Pattern : goal.returns-in-Pattern
returns-in-Pattern c = rw c.in-Pattern.is c.pass_over-in-Pattern.ensures

pub pass_over-requires-in-Until : goal.pass_over-requires-in-Until
pass_over-requires-in-Until c = rw c.in-Until.is at c.requires

pub returns-in-Until : goal.returns-in-Until
returns-in-Until c = rw c.in-Until.is c.pass_over-in-Until.ensures

pub pass_over-requires-in-Remap : goal.pass_over-requires-in-Remap
pass_over-requires-in-Remap c = rw c.in-Remap.is at c.requires

pub returns-in-Remap : goal.returns-in-Remap
returns-in-Remap c = rw c.in-Remap.is c.pass_over-in-Remap.ensures

pub pass_over-requires-in-Inject : goal.pass_over-requires-in-Inject
pass_over-requires-in-Inject c = rw c.in-Inject.is at c.requires

pub returns-in-Inject : goal.returns-in-Inject
returns-in-Inject c = rw c.in-Inject.is c.pass_over-in-Inject.ensures

pub pass_over-requires-in-Compact : goal.pass_over-requires-in-Compact
pass_over-requires-in-Compact c = rw c.in-Compact.is at c.requires

pub returns-in-Compact : goal.returns-in-Compact
returns-in-Compact c = rw c.in-Compact.is c.pass_over-in-Compact.ensures

pub pass_over-requires-in-Rmorphan : goal.pass_over-requires-in-Rmorphan
pass_over-requires-in-Rmorphan c = rw c.in-Rmorphan.is at c.requires

pub returns-in-Rmorphan : goal.returns-in-Rmorphan
returns-in-Rmorphan c = rw c.in-Rmorphan.is c.pass_over-in-Rmorphan.ensures

pub pass_over-requires-in-Restuff : goal.pass_over-requires-in-Restuff
pass_over-requires-in-Restuff c = rw c.in-Restuff.is at c.requires

pub returns-in-Restuff : goal.returns-in-Restuff
returns-in-Restuff c = rw c.in-Restuff.is c.pass_over-in-Restuff.ensures
