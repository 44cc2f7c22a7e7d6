-- Written by tools/plugins from plugins.txt.
use Rattle.plugin_set.proofs.some_plugin.SomePluginPlugin.summary.Goals as goal

pub summary-requires : goal.summary-requires
summary-requires c = rw c.in-Packets.is at c.requires

pub returns-in-Packets : goal.returns-in-Packets
returns-in-Packets c = rw c.in-Packets.is c.summary.ensures

pub summary-requires-in-Reports : goal.summary-requires-in-Reports
summary-requires-in-Reports c = rw c.in-Reports.is at c.requires

pub returns-in-Reports : goal.returns-in-Reports
returns-in-Reports c = rw c.in-Reports.is c.summary-in-Reports.ensures

pub summary-requires-in-Tables : goal.summary-requires-in-Tables
summary-requires-in-Tables c = rw c.in-Tables.is at c.requires

pub returns-in-Tables : goal.returns-in-Tables
returns-in-Tables c = rw c.in-Tables.is c.summary-in-Tables.ensures
