-- Written by tools/plugins from plugins.txt.
use Rattle.plugin_settings.proofs.plugin_conf.PluginConf.uses_joint_termination.Goals as goal

pub returns-in-Filter : goal.returns-in-Filter
returns-in-Filter c = rw c.in-Filter.is c.uses_joint_termination.ensures

pub returns-in-Skip : goal.returns-in-Skip
returns-in-Skip c = rw c.in-Skip.is c.uses_joint_termination-in-Skip.ensures

pub returns-in-Slice : goal.returns-in-Slice
returns-in-Slice c = rw c.in-Slice.is c.uses_joint_termination-in-Slice.ensures

pub returns-in-Pattern : goal.returns-in-Pattern
returns-in-Pattern c = rw c.in-Pattern.is c.uses_joint_termination-in-Pattern.ensures

pub returns-in-Until : goal.returns-in-Until
returns-in-Until c = rw c.in-Until.is c.uses_joint_termination-in-Until.ensures

pub returns-in-Count : goal.returns-in-Count
returns-in-Count c = rw c.in-Count.is c.uses_joint_termination-in-Count.ensures

pub returns-in-Continuity : goal.returns-in-Continuity
returns-in-Continuity c = rw c.in-Continuity.is c.uses_joint_termination-in-Continuity.ensures

pub returns-in-Remap : goal.returns-in-Remap
returns-in-Remap c = rw c.in-Remap.is c.uses_joint_termination-in-Remap.ensures

pub returns-in-Inject : goal.returns-in-Inject
returns-in-Inject c = rw c.in-Inject.is c.uses_joint_termination-in-Inject.ensures

pub returns-in-Pat : goal.returns-in-Pat
returns-in-Pat c = rw c.in-Pat.is c.uses_joint_termination-in-Pat.ensures

pub returns-in-Cat : goal.returns-in-Cat
returns-in-Cat c = rw c.in-Cat.is c.uses_joint_termination-in-Cat.ensures

pub returns-in-Pmt : goal.returns-in-Pmt
returns-in-Pmt c = rw c.in-Pmt.is c.uses_joint_termination-in-Pmt.ensures

pub returns-in-Sdt : goal.returns-in-Sdt
returns-in-Sdt c = rw c.in-Sdt.is c.uses_joint_termination-in-Sdt.ensures

pub returns-in-Nit : goal.returns-in-Nit
returns-in-Nit c = rw c.in-Nit.is c.uses_joint_termination-in-Nit.ensures

pub returns-in-Time : goal.returns-in-Time
returns-in-Time c = rw c.in-Time.is c.uses_joint_termination-in-Time.ensures

pub returns-in-Eit : goal.returns-in-Eit
returns-in-Eit c = rw c.in-Eit.is c.uses_joint_termination-in-Eit.ensures

pub returns-in-Zap : goal.returns-in-Zap
returns-in-Zap c = rw c.in-Zap.is c.uses_joint_termination-in-Zap.ensures

pub returns-in-Svremove : goal.returns-in-Svremove
returns-in-Svremove c = rw c.in-Svremove.is c.uses_joint_termination-in-Svremove.ensures

pub returns-in-Svrename : goal.returns-in-Svrename
returns-in-Svrename c = rw c.in-Svrename.is c.uses_joint_termination-in-Svrename.ensures

pub returns-in-Analyze : goal.returns-in-Analyze
returns-in-Analyze c = rw c.in-Analyze.is c.uses_joint_termination-in-Analyze.ensures

pub returns-in-Info : goal.returns-in-Info
returns-in-Info c = rw c.in-Info.is c.uses_joint_termination-in-Info.ensures

pub returns-in-Tables : goal.returns-in-Tables
returns-in-Tables c = rw c.in-Tables.is c.uses_joint_termination-in-Tables.ensures

pub returns-in-Compact : goal.returns-in-Compact
returns-in-Compact c = rw c.in-Compact.is c.uses_joint_termination-in-Compact.ensures

pub returns-in-Rmorphan : goal.returns-in-Rmorphan
returns-in-Rmorphan c = rw c.in-Rmorphan.is c.uses_joint_termination-in-Rmorphan.ensures

pub returns-in-Pcrverify : goal.returns-in-Pcrverify
returns-in-Pcrverify c = rw c.in-Pcrverify.is c.uses_joint_termination-in-Pcrverify.ensures

pub returns-in-Timestamps : goal.returns-in-Timestamps
returns-in-Timestamps c = rw c.in-Timestamps.is c.uses_joint_termination-in-Timestamps.ensures

pub returns-in-Rate : goal.returns-in-Rate
returns-in-Rate c = rw c.in-Rate.is c.uses_joint_termination-in-Rate.ensures

pub returns-in-Monitor : goal.returns-in-Monitor
returns-in-Monitor c = rw c.in-Monitor.is c.uses_joint_termination-in-Monitor.ensures

pub returns-in-Restuff : goal.returns-in-Restuff
returns-in-Restuff c = rw c.in-Restuff.is c.uses_joint_termination-in-Restuff.ensures
