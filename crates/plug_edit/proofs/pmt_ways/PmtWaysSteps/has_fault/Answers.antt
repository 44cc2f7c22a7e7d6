use Rattle.plug_edit.proofs.pmt_ways.PmtWaysSteps.has_fault.Goals as goal

pub has_fault-requires : goal.has_fault-requires
has_fault-requires g c = rw c.in-OnPid.is at c.requires

pub returns-in-OnPid : goal.returns-in-OnPid
returns-in-OnPid g c = rw c.in-OnPid.is c.has_fault.ensures

pub has_fault-requires-in-OfService : goal.has_fault-requires-in-OfService
has_fault-requires-in-OfService g c = rw c.in-OfService.is at c.requires

pub returns-in-OfService : goal.returns-in-OfService
returns-in-OfService g c = rw c.in-OfService.is c.has_fault-in-OfService.ensures
