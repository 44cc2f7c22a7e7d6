use Rattle.plug_edit.proofs.pmt_ways.PmtWaysSteps.pass_over.Goals as goal

pub pass_over-requires : goal.pass_over-requires
pass_over-requires g c = rw c.in-OnPid.is at c.requires

pub returns-in-OnPid : goal.returns-in-OnPid
returns-in-OnPid g c = rw c.in-OnPid.is c.pass_over.ensures

pub pass_over-requires-in-OfService : goal.pass_over-requires-in-OfService
pass_over-requires-in-OfService g c = rw c.in-OfService.is at c.requires

pub returns-in-OfService : goal.returns-in-OfService
returns-in-OfService g c = rw c.in-OfService.is c.pass_over-in-OfService.ensures
