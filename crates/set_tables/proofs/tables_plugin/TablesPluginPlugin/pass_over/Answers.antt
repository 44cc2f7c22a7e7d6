-- Written by tools/plugins from plugins.txt.
use Rattle.set_tables.proofs.tables_plugin.TablesPluginPlugin.pass_over.Goals as goal

pub pass_over-requires : goal.pass_over-requires
pass_over-requires c = rw c.in-Pat.is at c.requires

pub returns-in-Pat : goal.returns-in-Pat
returns-in-Pat c = rw c.in-Pat.is c.pass_over.ensures

pub pass_over-requires-in-Cat : goal.pass_over-requires-in-Cat
pass_over-requires-in-Cat c = rw c.in-Cat.is at c.requires

pub returns-in-Cat : goal.returns-in-Cat
returns-in-Cat c = rw c.in-Cat.is c.pass_over-in-Cat.ensures

pub pass_over-requires-in-Pmt : goal.pass_over-requires-in-Pmt
pass_over-requires-in-Pmt c = rw c.in-Pmt.is at c.requires

pub returns-in-Pmt : goal.returns-in-Pmt
returns-in-Pmt c = rw c.in-Pmt.is c.pass_over-in-Pmt.ensures

pub pass_over-requires-in-Sdt : goal.pass_over-requires-in-Sdt
pass_over-requires-in-Sdt c = rw c.in-Sdt.is at c.requires

pub returns-in-Sdt : goal.returns-in-Sdt
returns-in-Sdt c = rw c.in-Sdt.is c.pass_over-in-Sdt.ensures

pub pass_over-requires-in-Nit : goal.pass_over-requires-in-Nit
pass_over-requires-in-Nit c = rw c.in-Nit.is at c.requires

pub returns-in-Nit : goal.returns-in-Nit
returns-in-Nit c = rw c.in-Nit.is c.pass_over-in-Nit.ensures

pub pass_over-requires-in-Time : goal.pass_over-requires-in-Time
pass_over-requires-in-Time c = rw c.in-Time.is at c.requires

pub returns-in-Time : goal.returns-in-Time
returns-in-Time c = rw c.in-Time.is c.pass_over-in-Time.ensures

pub pass_over-requires-in-Eit : goal.pass_over-requires-in-Eit
pass_over-requires-in-Eit c = rw c.in-Eit.is at c.requires

pub returns-in-Eit : goal.returns-in-Eit
returns-in-Eit c = rw c.in-Eit.is c.pass_over-in-Eit.ensures

pub pass_over-requires-in-Zap : goal.pass_over-requires-in-Zap
pass_over-requires-in-Zap c = rw c.in-Zap.is at c.requires

pub returns-in-Zap : goal.returns-in-Zap
returns-in-Zap c = rw c.in-Zap.is c.pass_over-in-Zap.ensures

pub pass_over-requires-in-Svremove : goal.pass_over-requires-in-Svremove
pass_over-requires-in-Svremove c = rw c.in-Svremove.is at c.requires

pub returns-in-Svremove : goal.returns-in-Svremove
returns-in-Svremove c = rw c.in-Svremove.is c.pass_over-in-Svremove.ensures

pub pass_over-requires-in-Svrename : goal.pass_over-requires-in-Svrename
pass_over-requires-in-Svrename c = rw c.in-Svrename.is at c.requires

pub returns-in-Svrename : goal.returns-in-Svrename
returns-in-Svrename c = rw c.in-Svrename.is c.pass_over-in-Svrename.ensures
