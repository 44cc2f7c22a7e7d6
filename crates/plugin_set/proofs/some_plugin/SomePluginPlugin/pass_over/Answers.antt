-- Written by tools/plugins from plugins.txt.
use Rattle.plugin_set.proofs.some_plugin.SomePluginPlugin.pass_over.Goals as goal

pub pass_over-requires : goal.pass_over-requires
pass_over-requires c = rw c.in-Packets.is at c.requires

pub returns-in-Packets : goal.returns-in-Packets
returns-in-Packets c = rw c.in-Packets.is c.pass_over.ensures

pub pass_over-requires-in-Reports : goal.pass_over-requires-in-Reports
pass_over-requires-in-Reports c = rw c.in-Reports.is at c.requires

pub returns-in-Reports : goal.returns-in-Reports
returns-in-Reports c = rw c.in-Reports.is c.pass_over-in-Reports.ensures

pub pass_over-requires-in-Tables : goal.pass_over-requires-in-Tables
pass_over-requires-in-Tables c = rw c.in-Tables.is at c.requires

pub returns-in-Tables : goal.returns-in-Tables
returns-in-Tables c = rw c.in-Tables.is c.pass_over-in-Tables.ensures
