-- Written by tools/plugins from plugins.txt.
use Rattle.plugin_set.proofs.some_plugin.SomePluginPlugin.step.Goals as goal

pub step-requires : goal.step-requires
step-requires c = rw c.in-Packets.is at c.requires

pub returns-in-Packets : goal.returns-in-Packets
returns-in-Packets c = rw c.in-Packets.is c.step.ensures

pub step-requires-in-Reports : goal.step-requires-in-Reports
step-requires-in-Reports c = rw c.in-Reports.is at c.requires

pub returns-in-Reports : goal.returns-in-Reports
returns-in-Reports c = rw c.in-Reports.is c.step-in-Reports.ensures

pub step-requires-in-Tables : goal.step-requires-in-Tables
step-requires-in-Tables c = rw c.in-Tables.is at c.requires

pub returns-in-Tables : goal.returns-in-Tables
returns-in-Tables c = rw c.in-Tables.is c.step-in-Tables.ensures
