-- Written by tools/plugins from plugins.txt.
use Rattle.set_packets.proofs.packets_plugin.PacketsPluginPlugin.note.Goals as goal

pub note-requires : goal.note-requires
note-requires c = rw c.in-Filter.is at c.requires

pub returns-in-Filter : goal.returns-in-Filter
returns-in-Filter c = rw c.in-Filter.is c.note.ensures

pub note-requires-in-Skip : goal.note-requires-in-Skip
note-requires-in-Skip c = rw c.in-Skip.is at c.requires

pub returns-in-Skip : goal.returns-in-Skip
returns-in-Skip c = rw c.in-Skip.is c.note-in-Skip.ensures

pub note-requires-in-Slice : goal.note-requires-in-Slice
note-requires-in-Slice c = rw c.in-Slice.is at c.requires

pub returns-in-Slice : goal.returns-in-Slice
returns-in-Slice c = rw c.in-Slice.is c.note-in-Slice.ensures

pub note-requires-in-Pattern : goal.note-requires-in-Pattern
note-requires-in-Pattern c = rw c.in-Pattern.is at c.requires

pub returns-in-Pattern : goal.returns-in-Pattern
returns-in-Pattern c = rw c.in-Pattern.is c.note-in-Pattern.ensures

pub note-requires-in-Until : goal.note-requires-in-Until
note-requires-in-Until c = rw c.in-Until.is at c.requires

pub returns-in-Until : goal.returns-in-Until
returns-in-Until c = rw c.in-Until.is c.note-in-Until.ensures

pub note-requires-in-Remap : goal.note-requires-in-Remap
note-requires-in-Remap c = rw c.in-Remap.is at c.requires

pub returns-in-Remap : goal.returns-in-Remap
returns-in-Remap c = rw c.in-Remap.is c.note-in-Remap.ensures

pub note-requires-in-Inject : goal.note-requires-in-Inject
note-requires-in-Inject c = rw c.in-Inject.is at c.requires

pub returns-in-Inject : goal.returns-in-Inject
returns-in-Inject c = rw c.in-Inject.is c.note-in-Inject.ensures

pub note-requires-in-Compact : goal.note-requires-in-Compact
note-requires-in-Compact c = rw c.in-Compact.is at c.requires

pub returns-in-Compact : goal.returns-in-Compact
returns-in-Compact c = rw c.in-Compact.is c.note-in-Compact.ensures

pub note-requires-in-Rmorphan : goal.note-requires-in-Rmorphan
note-requires-in-Rmorphan c = rw c.in-Rmorphan.is at c.requires

pub returns-in-Rmorphan : goal.returns-in-Rmorphan
returns-in-Rmorphan c = rw c.in-Rmorphan.is c.note-in-Rmorphan.ensures

pub note-requires-in-Restuff : goal.note-requires-in-Restuff
note-requires-in-Restuff c = rw c.in-Restuff.is at c.requires

pub returns-in-Restuff : goal.returns-in-Restuff
returns-in-Restuff c = rw c.in-Restuff.is c.note-in-Restuff.ensures
