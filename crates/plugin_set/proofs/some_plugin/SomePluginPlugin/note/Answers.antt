-- Written by tools/plugins from plugins.txt.
use Rattle.plugin_set.proofs.some_plugin.SomePluginPlugin.note.Goals as goal

pub note-requires : goal.note-requires
note-requires c = rw c.in-Packets.is at c.requires

pub returns-in-Packets : goal.returns-in-Packets
returns-in-Packets c = rw c.in-Packets.is c.note.ensures

pub note-requires-in-Reports : goal.note-requires-in-Reports
note-requires-in-Reports c = rw c.in-Reports.is at c.requires

pub returns-in-Reports : goal.returns-in-Reports
returns-in-Reports c = rw c.in-Reports.is c.note-in-Reports.ensures

pub note-requires-in-Tables : goal.note-requires-in-Tables
note-requires-in-Tables c = rw c.in-Tables.is at c.requires

pub returns-in-Tables : goal.returns-in-Tables
returns-in-Tables c = rw c.in-Tables.is c.note-in-Tables.ensures
