-- Written by tools/plugins from plugins.txt.
use Rattle.set_tables.proofs.tables_plugin.TablesPluginPlugin.has_fault.Goals as goal

pub has_fault-requires : goal.has_fault-requires
has_fault-requires c = rw c.in-Pat.is at c.requires

pub returns-in-Pat : goal.returns-in-Pat
returns-in-Pat c = rw c.in-Pat.is c.has_fault.ensures

pub has_fault-requires-in-Cat : goal.has_fault-requires-in-Cat
has_fault-requires-in-Cat c = rw c.in-Cat.is at c.requires

pub returns-in-Cat : goal.returns-in-Cat
returns-in-Cat c = rw c.in-Cat.is c.has_fault-in-Cat.ensures

pub has_fault-requires-in-Pmt : goal.has_fault-requires-in-Pmt
has_fault-requires-in-Pmt c = rw c.in-Pmt.is at c.requires

pub returns-in-Pmt : goal.returns-in-Pmt
returns-in-Pmt c = rw c.in-Pmt.is c.has_fault-in-Pmt.ensures

pub has_fault-requires-in-Sdt : goal.has_fault-requires-in-Sdt
has_fault-requires-in-Sdt c = rw c.in-Sdt.is at c.requires

pub returns-in-Sdt : goal.returns-in-Sdt
returns-in-Sdt c = rw c.in-Sdt.is c.has_fault-in-Sdt.ensures

pub has_fault-requires-in-Nit : goal.has_fault-requires-in-Nit
has_fault-requires-in-Nit c = rw c.in-Nit.is at c.requires

pub returns-in-Nit : goal.returns-in-Nit
returns-in-Nit c = rw c.in-Nit.is c.has_fault-in-Nit.ensures

pub has_fault-requires-in-Time : goal.has_fault-requires-in-Time
has_fault-requires-in-Time c = rw c.in-Time.is at c.requires

pub returns-in-Time : goal.returns-in-Time
returns-in-Time c = rw c.in-Time.is c.has_fault-in-Time.ensures

pub has_fault-requires-in-Eit : goal.has_fault-requires-in-Eit
has_fault-requires-in-Eit c = rw c.in-Eit.is at c.requires

pub returns-in-Eit : goal.returns-in-Eit
returns-in-Eit c = rw c.in-Eit.is c.has_fault-in-Eit.ensures

pub has_fault-requires-in-Zap : goal.has_fault-requires-in-Zap
has_fault-requires-in-Zap c = rw c.in-Zap.is at c.requires

pub returns-in-Zap : goal.returns-in-Zap
returns-in-Zap c = rw c.in-Zap.is c.has_fault-in-Zap.ensures

pub has_fault-requires-in-Svremove : goal.has_fault-requires-in-Svremove
has_fault-requires-in-Svremove c = rw c.in-Svremove.is at c.requires

pub returns-in-Svremove : goal.returns-in-Svremove
returns-in-Svremove c = rw c.in-Svremove.is c.has_fault-in-Svremove.ensures

pub has_fault-requires-in-Svrename : goal.has_fault-requires-in-Svrename
has_fault-requires-in-Svrename c = rw c.in-Svrename.is at c.requires

pub returns-in-Svrename : goal.returns-in-Svrename
returns-in-Svrename c = rw c.in-Svrename.is c.has_fault-in-Svrename.ensures
