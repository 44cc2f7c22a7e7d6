use Rattle.ts_packetize.proofs.Cycling.{cycles-first}
use Rattle.ts_packetize.proofs.OrdinalLemmas.{replaced-is}
use Rattle.ts_packetize.proofs.cycle_laws.cycles_by_ordinals.Goals as goal

pub returns-clause-steps : goal.returns-clause-steps
returns-clause-steps c = cycles-first

pub returns-clause-replaced : goal.returns-clause-replaced
returns-clause-replaced c = replaced-is
