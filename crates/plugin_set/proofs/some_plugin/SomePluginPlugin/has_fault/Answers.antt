-- Written by tools/plugins from plugins.txt.
use Rattle.plugin_set.proofs.some_plugin.SomePluginPlugin.has_fault.Goals as goal

pub has_fault-requires : goal.has_fault-requires
has_fault-requires c = rw c.in-Packets.is at c.requires

pub returns-in-Packets : goal.returns-in-Packets
returns-in-Packets c = rw c.in-Packets.is c.has_fault.ensures

pub has_fault-requires-in-Reports : goal.has_fault-requires-in-Reports
has_fault-requires-in-Reports c = rw c.in-Reports.is at c.requires

pub returns-in-Reports : goal.returns-in-Reports
returns-in-Reports c = rw c.in-Reports.is c.has_fault-in-Reports.ensures

pub has_fault-requires-in-Tables : goal.has_fault-requires-in-Tables
has_fault-requires-in-Tables c = rw c.in-Tables.is at c.requires

pub returns-in-Tables : goal.returns-in-Tables
returns-in-Tables c = rw c.in-Tables.is c.has_fault-in-Tables.ensures
