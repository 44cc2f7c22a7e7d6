use Rattle.chain_run.proofs.RunUses.{never-err}
use Rattle.chain_run.proofs.serial_run.run_serial.Goals as goal

pub returns-in-Ok-clause-never_began : goal.returns-in-Ok-clause-never_began
returns-in-Ok-clause-never_began g c = never-err c.run_laid.result.closed _ c.run_laid.ensures.ran
