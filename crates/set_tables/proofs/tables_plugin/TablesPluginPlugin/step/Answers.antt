-- Written by tools/plugins from plugins.txt.
use Rattle.set_tables.proofs.tables_plugin.TablesPluginPlugin.step.Goals as goal

pub step-requires : goal.step-requires
step-requires c = rw c.in-Pat.is at c.requires

pub returns-in-Pat : goal.returns-in-Pat
returns-in-Pat c = rw c.in-Pat.is c.step.ensures

pub step-requires-in-Cat : goal.step-requires-in-Cat
step-requires-in-Cat c = rw c.in-Cat.is at c.requires

pub returns-in-Cat : goal.returns-in-Cat
returns-in-Cat c = rw c.in-Cat.is c.step-in-Cat.ensures

pub step-requires-in-Pmt : goal.step-requires-in-Pmt
step-requires-in-Pmt c = rw c.in-Pmt.is at c.requires

pub returns-in-Pmt : goal.returns-in-Pmt
returns-in-Pmt c = rw c.in-Pmt.is c.step-in-Pmt.ensures

pub step-requires-in-Sdt : goal.step-requires-in-Sdt
step-requires-in-Sdt c = rw c.in-Sdt.is at c.requires

pub returns-in-Sdt : goal.returns-in-Sdt
returns-in-Sdt c = rw c.in-Sdt.is c.step-in-Sdt.ensures

pub step-requires-in-Nit : goal.step-requires-in-Nit
step-requires-in-Nit c = rw c.in-Nit.is at c.requires

pub returns-in-Nit : goal.returns-in-Nit
returns-in-Nit c = rw c.in-Nit.is c.step-in-Nit.ensures

pub step-requires-in-Time : goal.step-requires-in-Time
step-requires-in-Time c = rw c.in-Time.is at c.requires

pub returns-in-Time : goal.returns-in-Time
returns-in-Time c = rw c.in-Time.is c.step-in-Time.ensures

pub step-requires-in-Eit : goal.step-requires-in-Eit
step-requires-in-Eit c = rw c.in-Eit.is at c.requires

pub returns-in-Eit : goal.returns-in-Eit
returns-in-Eit c = rw c.in-Eit.is c.step-in-Eit.ensures

pub step-requires-in-Zap : goal.step-requires-in-Zap
step-requires-in-Zap c = rw c.in-Zap.is at c.requires

pub returns-in-Zap : goal.returns-in-Zap
returns-in-Zap c = rw c.in-Zap.is c.step-in-Zap.ensures

pub step-requires-in-Svremove : goal.step-requires-in-Svremove
step-requires-in-Svremove c = rw c.in-Svremove.is at c.requires

pub returns-in-Svremove : goal.returns-in-Svremove
returns-in-Svremove c = rw c.in-Svremove.is c.step-in-Svremove.ensures

pub step-requires-in-Svrename : goal.step-requires-in-Svrename
step-requires-in-Svrename c = rw c.in-Svrename.is at c.requires

pub returns-in-Svrename : goal.returns-in-Svrename
returns-in-Svrename c = rw c.in-Svrename.is c.step-in-Svrename.ensures
