use Rattle.plug_edit.proofs.pmt_ways.PmtWaysSteps.step.Goals as goal

pub step-requires : goal.step-requires
step-requires g c = rw c.in-OnPid.is at c.requires

pub returns-in-OnPid : goal.returns-in-OnPid
returns-in-OnPid g c = rw c.in-OnPid.is c.step.ensures

pub step-requires-in-OfService : goal.step-requires-in-OfService
step-requires-in-OfService g c = rw c.in-OfService.is at c.requires

pub returns-in-OfService : goal.returns-in-OfService
returns-in-OfService g c = rw c.in-OfService.is c.step-in-OfService.ensures
