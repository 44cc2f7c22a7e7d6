-- Written by tools/plugins from plugins.txt.
use Rattle.set_tables.proofs.tables_plugin.TablesPluginPlugin.summary.Goals as goal

pub summary-requires : goal.summary-requires
summary-requires c = rw c.in-Pat.is at c.requires

pub returns-in-Pat : goal.returns-in-Pat
returns-in-Pat c = rw c.in-Pat.is c.summary.ensures

pub summary-requires-in-Cat : goal.summary-requires-in-Cat
summary-requires-in-Cat c = rw c.in-Cat.is at c.requires

pub returns-in-Cat : goal.returns-in-Cat
returns-in-Cat c = rw c.in-Cat.is c.summary-in-Cat.ensures

pub summary-requires-in-Pmt : goal.summary-requires-in-Pmt
summary-requires-in-Pmt c = rw c.in-Pmt.is at c.requires

pub returns-in-Pmt : goal.returns-in-Pmt
returns-in-Pmt c = rw c.in-Pmt.is c.summary-in-Pmt.ensures

pub summary-requires-in-Sdt : goal.summary-requires-in-Sdt
summary-requires-in-Sdt c = rw c.in-Sdt.is at c.requires

pub returns-in-Sdt : goal.returns-in-Sdt
returns-in-Sdt c = rw c.in-Sdt.is c.summary-in-Sdt.ensures

pub summary-requires-in-Nit : goal.summary-requires-in-Nit
summary-requires-in-Nit c = rw c.in-Nit.is at c.requires

pub returns-in-Nit : goal.returns-in-Nit
returns-in-Nit c = rw c.in-Nit.is c.summary-in-Nit.ensures

pub summary-requires-in-Time : goal.summary-requires-in-Time
summary-requires-in-Time c = rw c.in-Time.is at c.requires

pub returns-in-Time : goal.returns-in-Time
returns-in-Time c = rw c.in-Time.is c.summary-in-Time.ensures

pub summary-requires-in-Eit : goal.summary-requires-in-Eit
summary-requires-in-Eit c = rw c.in-Eit.is at c.requires

pub returns-in-Eit : goal.returns-in-Eit
returns-in-Eit c = rw c.in-Eit.is c.summary-in-Eit.ensures

pub summary-requires-in-Zap : goal.summary-requires-in-Zap
summary-requires-in-Zap c = rw c.in-Zap.is at c.requires

pub returns-in-Zap : goal.returns-in-Zap
returns-in-Zap c = rw c.in-Zap.is c.summary-in-Zap.ensures

pub summary-requires-in-Svremove : goal.summary-requires-in-Svremove
summary-requires-in-Svremove c = rw c.in-Svremove.is at c.requires

pub returns-in-Svremove : goal.returns-in-Svremove
returns-in-Svremove c = rw c.in-Svremove.is c.summary-in-Svremove.ensures

pub summary-requires-in-Svrename : goal.summary-requires-in-Svrename
summary-requires-in-Svrename c = rw c.in-Svrename.is at c.requires

pub returns-in-Svrename : goal.returns-in-Svrename
returns-in-Svrename c = rw c.in-Svrename.is c.summary-in-Svrename.ensures
