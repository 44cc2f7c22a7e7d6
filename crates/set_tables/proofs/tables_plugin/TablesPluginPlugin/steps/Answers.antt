-- Written by tools/plugins from plugins.txt.
use Rattle.set_tables.proofs.tables_plugin.TablesPluginPlugin.steps.Goals as goal

pub steps-requires : goal.steps-requires
steps-requires c = rw c.in-Pat.is at c.requires

pub returns-in-Pat : goal.returns-in-Pat
returns-in-Pat c = rw c.in-Pat.is c.steps.ensures

pub steps-requires-in-Cat : goal.steps-requires-in-Cat
steps-requires-in-Cat c = rw c.in-Cat.is at c.requires

pub returns-in-Cat : goal.returns-in-Cat
returns-in-Cat c = rw c.in-Cat.is c.steps-in-Cat.ensures

pub steps-requires-in-Pmt : goal.steps-requires-in-Pmt
steps-requires-in-Pmt c = rw c.in-Pmt.is at c.requires

pub returns-in-Pmt : goal.returns-in-Pmt
returns-in-Pmt c = rw c.in-Pmt.is c.steps-in-Pmt.ensures

pub steps-requires-in-Sdt : goal.steps-requires-in-Sdt
steps-requires-in-Sdt c = rw c.in-Sdt.is at c.requires

pub returns-in-Sdt : goal.returns-in-Sdt
returns-in-Sdt c = rw c.in-Sdt.is c.steps-in-Sdt.ensures

pub steps-requires-in-Nit : goal.steps-requires-in-Nit
steps-requires-in-Nit c = rw c.in-Nit.is at c.requires

pub returns-in-Nit : goal.returns-in-Nit
returns-in-Nit c = rw c.in-Nit.is c.steps-in-Nit.ensures

pub steps-requires-in-Time : goal.steps-requires-in-Time
steps-requires-in-Time c = rw c.in-Time.is at c.requires

pub returns-in-Time : goal.returns-in-Time
returns-in-Time c = rw c.in-Time.is c.steps-in-Time.ensures

pub steps-requires-in-Eit : goal.steps-requires-in-Eit
steps-requires-in-Eit c = rw c.in-Eit.is at c.requires

pub returns-in-Eit : goal.returns-in-Eit
returns-in-Eit c = rw c.in-Eit.is c.steps-in-Eit.ensures

pub steps-requires-in-Zap : goal.steps-requires-in-Zap
steps-requires-in-Zap c = rw c.in-Zap.is at c.requires

pub returns-in-Zap : goal.returns-in-Zap
returns-in-Zap c = rw c.in-Zap.is c.steps-in-Zap.ensures

pub steps-requires-in-Svremove : goal.steps-requires-in-Svremove
steps-requires-in-Svremove c = rw c.in-Svremove.is at c.requires

pub returns-in-Svremove : goal.returns-in-Svremove
returns-in-Svremove c = rw c.in-Svremove.is c.steps-in-Svremove.ensures

pub steps-requires-in-Svrename : goal.steps-requires-in-Svrename
steps-requires-in-Svrename c = rw c.in-Svrename.is at c.requires

pub returns-in-Svrename : goal.returns-in-Svrename
returns-in-Svrename c = rw c.in-Svrename.is c.steps-in-Svrename.ensures
