-- Written by tools/plugins from plugins.txt.
use Rattle.plugin_set.proofs.some_plugin.SomePluginPlugin.steps.Goals as goal

pub steps-requires : goal.steps-requires
steps-requires c = rw c.in-Packets.is at c.requires

pub returns-in-Packets : goal.returns-in-Packets
returns-in-Packets c = rw c.in-Packets.is c.steps.ensures

pub steps-requires-in-Reports : goal.steps-requires-in-Reports
steps-requires-in-Reports c = rw c.in-Reports.is at c.requires

pub returns-in-Reports : goal.returns-in-Reports
returns-in-Reports c = rw c.in-Reports.is c.steps-in-Reports.ensures

pub steps-requires-in-Tables : goal.steps-requires-in-Tables
steps-requires-in-Tables c = rw c.in-Tables.is at c.requires

pub returns-in-Tables : goal.returns-in-Tables
returns-in-Tables c = rw c.in-Tables.is c.steps-in-Tables.ensures
