-- Written by tools/plugins from plugins.txt.
use Rattle.set_tables.proofs.tables_plugin.TablesPluginPlugin.agreed.Goals as goal

pub agreed-requires : goal.agreed-requires
agreed-requires c = rw c.in-Pat.is at c.requires

pub returns-in-Pat : goal.returns-in-Pat
returns-in-Pat c = rw c.in-Pat.is c.agreed.ensures

pub agreed-requires-in-Cat : goal.agreed-requires-in-Cat
agreed-requires-in-Cat c = rw c.in-Cat.is at c.requires

pub returns-in-Cat : goal.returns-in-Cat
returns-in-Cat c = rw c.in-Cat.is c.agreed-in-Cat.ensures

pub agreed-requires-in-Pmt : goal.agreed-requires-in-Pmt
agreed-requires-in-Pmt c = rw c.in-Pmt.is at c.requires

pub returns-in-Pmt : goal.returns-in-Pmt
returns-in-Pmt c = rw c.in-Pmt.is c.agreed-in-Pmt.ensures

pub agreed-requires-in-Sdt : goal.agreed-requires-in-Sdt
agreed-requires-in-Sdt c = rw c.in-Sdt.is at c.requires

pub returns-in-Sdt : goal.returns-in-Sdt
returns-in-Sdt c = rw c.in-Sdt.is c.agreed-in-Sdt.ensures

pub agreed-requires-in-Nit : goal.agreed-requires-in-Nit
agreed-requires-in-Nit c = rw c.in-Nit.is at c.requires

pub returns-in-Nit : goal.returns-in-Nit
returns-in-Nit c = rw c.in-Nit.is c.agreed-in-Nit.ensures

pub agreed-requires-in-Time : goal.agreed-requires-in-Time
agreed-requires-in-Time c = rw c.in-Time.is at c.requires

pub returns-in-Time : goal.returns-in-Time
returns-in-Time c = rw c.in-Time.is c.agreed-in-Time.ensures

pub agreed-requires-in-Eit : goal.agreed-requires-in-Eit
agreed-requires-in-Eit c = rw c.in-Eit.is at c.requires

pub returns-in-Eit : goal.returns-in-Eit
returns-in-Eit c = rw c.in-Eit.is c.agreed-in-Eit.ensures

pub agreed-requires-in-Zap : goal.agreed-requires-in-Zap
agreed-requires-in-Zap c = rw c.in-Zap.is at c.requires

pub returns-in-Zap : goal.returns-in-Zap
returns-in-Zap c = rw c.in-Zap.is c.agreed-in-Zap.ensures

pub agreed-requires-in-Svremove : goal.agreed-requires-in-Svremove
agreed-requires-in-Svremove c = rw c.in-Svremove.is at c.requires

pub returns-in-Svremove : goal.returns-in-Svremove
returns-in-Svremove c = rw c.in-Svremove.is c.agreed-in-Svremove.ensures

pub agreed-requires-in-Svrename : goal.agreed-requires-in-Svrename
agreed-requires-in-Svrename c = rw c.in-Svrename.is at c.requires

pub returns-in-Svrename : goal.returns-in-Svrename
returns-in-Svrename c = rw c.in-Svrename.is c.agreed-in-Svrename.ensures
