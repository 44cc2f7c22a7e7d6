-- Written by tools/plugins from plugins.txt.
use Rattle.set_tables.proofs.tables_plugin.TablesPluginPlugin.note.Goals as goal

pub note-requires : goal.note-requires
note-requires c = rw c.in-Pat.is at c.requires

pub returns-in-Pat : goal.returns-in-Pat
returns-in-Pat c = rw c.in-Pat.is c.note.ensures

pub note-requires-in-Cat : goal.note-requires-in-Cat
note-requires-in-Cat c = rw c.in-Cat.is at c.requires

pub returns-in-Cat : goal.returns-in-Cat
returns-in-Cat c = rw c.in-Cat.is c.note-in-Cat.ensures

pub note-requires-in-Pmt : goal.note-requires-in-Pmt
note-requires-in-Pmt c = rw c.in-Pmt.is at c.requires

pub returns-in-Pmt : goal.returns-in-Pmt
returns-in-Pmt c = rw c.in-Pmt.is c.note-in-Pmt.ensures

pub note-requires-in-Sdt : goal.note-requires-in-Sdt
note-requires-in-Sdt c = rw c.in-Sdt.is at c.requires

pub returns-in-Sdt : goal.returns-in-Sdt
returns-in-Sdt c = rw c.in-Sdt.is c.note-in-Sdt.ensures

pub note-requires-in-Nit : goal.note-requires-in-Nit
note-requires-in-Nit c = rw c.in-Nit.is at c.requires

pub returns-in-Nit : goal.returns-in-Nit
returns-in-Nit c = rw c.in-Nit.is c.note-in-Nit.ensures

pub note-requires-in-Time : goal.note-requires-in-Time
note-requires-in-Time c = rw c.in-Time.is at c.requires

pub returns-in-Time : goal.returns-in-Time
returns-in-Time c = rw c.in-Time.is c.note-in-Time.ensures

pub note-requires-in-Eit : goal.note-requires-in-Eit
note-requires-in-Eit c = rw c.in-Eit.is at c.requires

pub returns-in-Eit : goal.returns-in-Eit
returns-in-Eit c = rw c.in-Eit.is c.note-in-Eit.ensures

pub note-requires-in-Zap : goal.note-requires-in-Zap
note-requires-in-Zap c = rw c.in-Zap.is at c.requires

pub returns-in-Zap : goal.returns-in-Zap
returns-in-Zap c = rw c.in-Zap.is c.note-in-Zap.ensures

pub note-requires-in-Svremove : goal.note-requires-in-Svremove
note-requires-in-Svremove c = rw c.in-Svremove.is at c.requires

pub returns-in-Svremove : goal.returns-in-Svremove
returns-in-Svremove c = rw c.in-Svremove.is c.note-in-Svremove.ensures

pub note-requires-in-Svrename : goal.note-requires-in-Svrename
note-requires-in-Svrename c = rw c.in-Svrename.is at c.requires

pub returns-in-Svrename : goal.returns-in-Svrename
returns-in-Svrename c = rw c.in-Svrename.is c.note-in-Svrename.ensures
