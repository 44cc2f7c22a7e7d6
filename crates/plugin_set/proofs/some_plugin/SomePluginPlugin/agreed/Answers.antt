-- Written by tools/plugins from plugins.txt.
use Rattle.plugin_set.proofs.some_plugin.SomePluginPlugin.agreed.Goals as goal

pub agreed-requires : goal.agreed-requires
agreed-requires c = rw c.in-Packets.is at c.requires

pub returns-in-Packets : goal.returns-in-Packets
returns-in-Packets c = rw c.in-Packets.is c.agreed.ensures

pub agreed-requires-in-Reports : goal.agreed-requires-in-Reports
agreed-requires-in-Reports c = rw c.in-Reports.is at c.requires

pub returns-in-Reports : goal.returns-in-Reports
returns-in-Reports c = rw c.in-Reports.is c.agreed-in-Reports.ensures

pub agreed-requires-in-Tables : goal.agreed-requires-in-Tables
agreed-requires-in-Tables c = rw c.in-Tables.is at c.requires

pub returns-in-Tables : goal.returns-in-Tables
returns-in-Tables c = rw c.in-Tables.is c.agreed-in-Tables.ensures
